-- `cursors::start_cursors` meets its contract. The loop's invariant: the cursors of the letters below `x` stand at their first record, the others are as before.
use mathlib.Core.Path.{◌≡◌}
use lib.ListN.{length}
use Rattle.cursors.specs.Cursors.{started}
use Rattle.cursors.proofs.start_cursors.Given as goal

abbrev pub invariant-loop-x : goal.invariant-loop-x
invariant-loop-x l = (length l.cursors ≡ length l.initial.cursors) × (l.cursors ≡ started l.x l.level l.initial.cursors)
