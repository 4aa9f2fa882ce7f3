-- `rulesets::spread` meets its contract.
use mathlib.Core.Path.{◌≡◌}
use Prim.Native.Nat.{◌^◌, ◌<◌}
use lib.ListN.{length}
use Rattle.rulesets.proofs.Spreads.{Spreading}
use Rattle.rulesets.proofs.spread.Given as goal

abbrev pub invariant-loop-rest : goal.invariant-loop-rest
invariant-loop-rest l = (l.rest < 2 ^ 32) × (length l.acc ≡ length l.initial.acc) × Spreading l.x l.y l.initial.acc l.acc l.rest

abbrev pub decreases-loop-rest : goal.decreases-loop-rest
decreases-loop-rest l = l.rest
