-- `successors::place_between` meets its contract. The loop's invariant: where the records are in order, all before `low` stand before c and none from `high` on does.
-- The measure is what lies between.
use Prim.Native.Nat.{◌-◌, ◌≤◌}
use Rattle.counts.specs.Counts.{words}
use Rattle.search.specs.Search.{Ordered}
use Rattle.search.proofs.Halves.{Between}
use Rattle.successors.proofs.place_between.Given as goal

abbrev pub invariant-loop-low : goal.invariant-loop-low
invariant-loop-low l = (l.from ≤ l.low) × (l.low ≤ l.high) × (l.high ≤ l.end) × (Ordered l.t → Between l.t (words l.c) l.low l.high)

abbrev pub decreases-loop-low : goal.decreases-loop-low
decreases-loop-low l = l.high - l.low
