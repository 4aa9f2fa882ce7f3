-- `costrows::lead_on` meets its contract. The loop's invariant: the states below q have led on.
use Rattle.costrows.specs.Rows.{LedOn}
use Rattle.costrows.proofs.lead_on.Given as goal

abbrev pub invariant-loop-q : goal.invariant-loop-q
invariant-loop-q l = LedOn l.initial.costs l.costs l.arrow.from l.arrow.to l.profile.shape.k l.profile.shape.s l.profile.moves.now l.arrow.letter l.arrow.more l.q
