-- `filling::fill_sets` meets its contract.
use Rattle.pairs.specs.Pairs.{Known}
use Rattle.filling.proofs.fill_sets.Given as goal

abbrev pub invariant-loop-j : goal.invariant-loop-j
invariant-loop-j l = Known l.nested l.sets l.j l.j
