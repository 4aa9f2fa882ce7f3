-- What `closestfilled::answer` calls judges the events that it judges.
use Rattle.closestfilled.proofs.answer.Given as goal

abbrev pub ghost-has_order : goal.ghost-has_order
ghost-has_order g a = g.termed

abbrev pub ghost-put_order : goal.ghost-put_order
ghost-put_order g a = g.termed
