-- `costrows::lead_back` meets its contract. The loop's invariant: the states below q have their cost.
use Rattle.costrows.specs.Rows.{LedBack}
use Rattle.costrows.proofs.lead_back.Given as goal

abbrev pub invariant-loop-q : goal.invariant-loop-q
invariant-loop-q l = LedBack l.initial.costs l.costs l.arrow.from l.arrow.to l.profile.shape.k l.profile.shape.s l.profile.moves.now l.arrow.letter l.arrow.more l.q
