-- `grouping::pair_refused` meets its contract. The loop's invariant: no letter passed is in the group and may be exchanged with another of it.
use mathlib.Core.Path.{◌≡◌}
use mathlib.Core.Bool.{false, ◌&&◌}
use Prim.Native.Nat.{ℕ, ◌<◌}
use lib.ListN.{get_or}
use Rattle.profile.specs.Automata.{meets}
use Rattle.profile.specs.Traces.{bit}
use Rattle.grouping.proofs.pair_refused.Given as goal

abbrev pub invariant-loop-letter : goal.invariant-loop-letter
invariant-loop-letter l = ((j : ℕ) → j < l.letter → (bit l.group j && meets (get_or l.masks j 0) l.group) ≡ false)
