-- `cursors::advance` meets its contract. The loop's invariant: the cursors of the letters that are left have not moved, those of the others have.
-- The measure is the set of the letters that are left, as a number.
use Rattle.cursors.proofs.Moving.{Moving}
use Rattle.cursors.proofs.advance.Given as goal

abbrev pub invariant-loop-left : goal.invariant-loop-left
invariant-loop-left l = Moving l.level l.k l.initial.cursors l.set l.left l.cursors

abbrev pub decreases-loop-left : goal.decreases-loop-left
decreases-loop-left l = l.left
