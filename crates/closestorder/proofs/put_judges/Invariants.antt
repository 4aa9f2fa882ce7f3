-- What `closestorder::put_judges` calls judges the events that it judges.
use Rattle.closestorder.proofs.put_judges.Given as goal

abbrev pub ghost-put_order : goal.ghost-put_order
ghost-put_order g a = g.termed
