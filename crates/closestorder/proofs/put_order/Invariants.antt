-- What `closestorder::put_order` calls judges the events that it judges.
use Rattle.closestorder.proofs.put_order.Given as goal

abbrev pub ghost-put_placed : goal.ghost-put_placed
ghost-put_placed g a = g.termed
