-- `scanner::scan` meets its contract.
use Rattle.scanner.proofs.Scans.{Passed}
use Rattle.scanner.proofs.scan.Given as goal

abbrev pub invariant-loop-i : goal.invariant-loop-i
invariant-loop-i l = Passed l.k l.text l.want l.depth l.deepest l.letters l.i
