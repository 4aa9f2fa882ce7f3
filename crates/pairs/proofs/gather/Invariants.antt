-- `pairs::gather` meets its contract.
use Prim.Native.Nat.{◌+◌}
use Rattle.pairs.specs.Pairs.{Gathered}
use Rattle.pairs.proofs.gather.Given as goal

abbrev pub invariant-loop-m : goal.invariant-loop-m
invariant-loop-m l = Gathered l.row l.column (l.i + 1) l.m l.initial.acc l.acc
