-- `costcells::least_in` meets its contract. The loop's invariant: `least` is the least of the states looked at. The measure is the states that are left.
use Rattle.costcells.proofs.Cells.{Scanned}
use Prim.Native.Nat.{◌<◌, ◌^◌}
use Rattle.costcells.proofs.least_in.Given as goal

abbrev pub invariant-loop-rest : goal.invariant-loop-rest
invariant-loop-rest l =
    (l.rest < 2 ^ l.s) × (l.rest < 2 ^ 32) × Scanned l.costs l.row l.states l.rest l.least

abbrev pub decreases-loop-rest : goal.decreases-loop-rest
decreases-loop-rest l = l.rest
