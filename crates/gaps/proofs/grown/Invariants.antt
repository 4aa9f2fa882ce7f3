-- `gaps::grown` meets its contract.
use Prim.Native.Nat.{ℕ, ◌≤◌, ◌<◌}
use Rattle.profile.specs.Tables.{count_field, layout}
use Rattle.gaps.proofs.grown.Given as goal

abbrev pub invariant-loop-x : goal.invariant-loop-x
invariant-loop-x l = (y : ℕ) → y < l.x → count_field layout l.e y ≤ count_field layout l.c y
