-- `earliest::choose` meets its contract. The loop's invariant: no letter below x can be taken, and the records of the others stand behind record `at` and before record
-- `end`.
use Rattle.profile.specs.Automata.{forward_step}
use Rattle.earliest.proofs.Choices.{Bounded, Passed}
use Rattle.earliest.proofs.choose.Given as goal

abbrev pub invariant-loop-x : goal.invariant-loop-x
invariant-loop-x l =
    Bounded (forward_step l.profile.shape.k l.profile.shape.s l.profile.moves.now) l.t l.at l.states l.profile.shape.k l.x l.end × Passed (forward_step l.profile.shape.k l.profile.shape.s l.profile.moves.now) l.t l.at l.states l.profile.shape.k l.x
