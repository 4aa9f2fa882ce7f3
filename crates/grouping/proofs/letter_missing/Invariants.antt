-- `grouping::letter_missing` meets its contract. The loop's invariant: each letter passed is in one of the groups.
use mathlib.Core.Path.{◌≡◌}
use mathlib.Core.Bool.{false, not}
use Prim.Native.Nat.{ℕ, ◌<◌}
use Rattle.profile.specs.Lists.{any}
use Rattle.profile.specs.Traces.{bit}
use Rattle.grouping.proofs.letter_missing.Given as goal

abbrev pub invariant-loop-x : goal.invariant-loop-x
invariant-loop-x l = ((j : ℕ) → j < l.x → not (any (λ g. bit g j) l.groups) ≡ false)
