-- `scanner::letter_sets` meets its contract.
use Rattle.scanner.proofs.Scans.{Filled}
use Rattle.scanner.proofs.letter_sets.Given as goal

abbrev pub invariant-loop-c : goal.invariant-loop-c
invariant-loop-c l = Filled l.k l.text l.sets l.n l.c-index
