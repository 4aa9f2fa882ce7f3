-- What `closestorder::put_placed` calls judges the events that it judges.
use Rattle.closestorder.proofs.put_placed.Given as goal

abbrev pub ghost-put_judges : goal.ghost-put_judges
ghost-put_judges g a = g.termed
