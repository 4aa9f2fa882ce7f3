-- `filling::fill_column` meets its contract.
use Rattle.pairs.specs.Pairs.{Known}
use Rattle.filling.proofs.fill_column.Given as goal

abbrev pub invariant-loop-i : goal.invariant-loop-i
invariant-loop-i l = Known l.nested l.sets l.j l.i
