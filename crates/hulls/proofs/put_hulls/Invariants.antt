-- `hulls::put_hulls` meets its contract. The loop's invariant: the records below `j` are done.
use mathlib.Core.Path.{◌≡◌}
use Rattle.hulls.specs.Hulls.{hulled}
use Rattle.hulls.proofs.put_hulls.Given as goal

abbrev pub invariant-loop-j : goal.invariant-loop-j
invariant-loop-j l = l.table ≡ hulled l.s l.reach l.j l.initial.table
