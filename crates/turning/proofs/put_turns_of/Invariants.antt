-- `turning::put_turns_of` meets its contract. The loop's invariant: the turns of the events from place i on are put.
use Rattle.turning.proofs.Steps.{Put}
use Rattle.turning.proofs.put_turns_of.Given as goal

abbrev pub invariant-loop-i : goal.invariant-loop-i
invariant-loop-i l = Put l.events l.x l.end l.initial.turns l.turns l.i l.to l.turn l.next
