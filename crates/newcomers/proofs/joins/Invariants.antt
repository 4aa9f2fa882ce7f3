-- `newcomers::joins` meets its contract.
use mathlib.Core.Path.{◌≡◌}
use mathlib.Core.Bool.{true}
use Prim.Native.Nat.{ℕ, ◌<◌}
use Rattle.profile.specs.Traces.{independent}
use Rattle.newcomers.specs.Newcomers.{allows?}
use Rattle.newcomers.proofs.joins.Given as goal

abbrev pub invariant-loop-b : goal.invariant-loop-b
invariant-loop-b l = (x : ℕ) → x < l.b → allows? (independent l.profile.masks.now) l.last l.a l.own x ≡ true
