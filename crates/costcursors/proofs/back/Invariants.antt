-- `costcursors::back` meets its contract. The loop's invariant: no record from j on stands before the counts.
use Rattle.counts.specs.Counts.{words}
use Rattle.costcursors.specs.Cursors.{High}
use Rattle.costcursors.proofs.back.Given as goal

abbrev pub invariant-loop-j : goal.invariant-loop-j
invariant-loop-j l = High l.t (words l.c) l.j
