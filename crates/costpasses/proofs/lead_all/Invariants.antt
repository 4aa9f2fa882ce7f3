-- `costpasses::lead_all` meets its contract. The loop's invariant: the letters below x have led, and each cursor stands right.
use mathlib.Core.Path.{◌≡◌}
use mathlib.Core.List.{List}
use Prim.Native.Nat.{ℕ}
use lib.ListN.{length}
use Rattle.profile.specs.Limits.{most_letters}
use Rattle.costtable.proofs.Stepping.{StandsAll}
use Rattle.costpasses.proofs.lead_all.Given as goal

abbrev pub invariant-loop-x : goal.invariant-loop-x
invariant-loop-x g l =
    (length l.costs ≡ length l.initial.costs) × (length l.cursors ≡ most_letters) × StandsAll g.P.Pass.stands l.t l.j l.profile.shape.k l.cursors
    × ((before : List ℕ) → g.P.Pass.finds l.profile.shape l.profile.moves.now l.log l.t before l.initial.costs l.j 0 → g.P.Pass.finds l.profile.shape l.profile.moves.now l.log l.t before l.costs l.j l.x)
