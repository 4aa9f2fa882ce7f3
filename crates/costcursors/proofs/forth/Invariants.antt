-- `costcursors::forth` meets its contract. The loop's invariant: all records before j stand before the counts.
use mathlib.Core.Path.{◌≡◌}
use Rattle.counts.specs.Counts.{words}
use Rattle.records.specs.Records.{records_in}
use Rattle.costcursors.specs.Cursors.{Low}
use Rattle.costcursors.proofs.forth.Given as goal

abbrev pub invariant-loop-j : goal.invariant-loop-j
invariant-loop-j l = (l.n ≡ records_in l.t) × Low l.t (words l.c) l.j
