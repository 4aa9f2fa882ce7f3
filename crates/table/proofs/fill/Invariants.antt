-- `table::fill` fills backward by the rules that its finder finds letters by.
use Rattle.table.proofs.fill.Given as goal

abbrev pub ghost-fill_backward : goal.ghost-fill_backward
ghost-fill_backward g a = g.F.Finder.termed
