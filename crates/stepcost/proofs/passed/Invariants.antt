-- `stepcost::passed` meets its contract. The loop's invariant: no event from `from` on and before `low` is behind the place, none from `high` on is before it. The measure is what lies between.
use Prim.Native.Nat.{◌-◌, ◌≤◌}
use lib.ListN.{take}
use Rattle.profile.specs.Prefixes.{count}
use Rattle.stepcost.proofs.passed.Given as goal

abbrev pub invariant-loop-low : goal.invariant-loop-low
invariant-loop-low l =
    (l.from ≤ l.low) × (l.low ≤ l.high) × (l.high ≤ l.to) × (l.low - l.from ≤ count (λ a. a) (take l.place l.log) l.y - l.from) × (count (λ a. a) (take l.place l.log) l.y ≤ l.high)

abbrev pub decreases-loop-low : goal.decreases-loop-low
decreases-loop-low l = l.high - l.low
