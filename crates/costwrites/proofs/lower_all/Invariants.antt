-- `costwrites::lower_all` meets its contract. The loop's invariant: with the states that are left lowered, the row is as promised. The measure is the states that are left.
use Prim.Native.Nat.{ℕ, ◌<◌, ◌^◌, min}
use mathlib.Core.Path.{◌≡◌}
use mathlib.Core.Bool.{cond}
use lib.ListN.{length}
use Rattle.costcells.specs.Cells.{cost_in, in_row?}
use Rattle.costwrites.proofs.lower_all.Given as goal

abbrev pub invariant-loop-rest : goal.invariant-loop-rest
invariant-loop-rest l =
    (l.rest < 2 ^ l.s) × (l.rest < 2 ^ 32) × (length l.costs ≡ length l.initial.costs)
    × ((j : ℕ) → cond (in_row? l.row l.rest j) (min l.v (cost_in l.costs j)) (cost_in l.costs j) ≡ cond (in_row? l.row l.states j) (min l.v (cost_in l.initial.costs j)) (cost_in l.initial.costs j))

abbrev pub decreases-loop-rest : goal.decreases-loop-rest
decreases-loop-rest l = l.rest
