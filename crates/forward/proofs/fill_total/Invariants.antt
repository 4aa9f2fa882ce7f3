-- `forward::fill_total` meets its contract. The loop's invariant: the first j records are put, and their pairs counted.
use Prim.Native.Nat.{◌+◌, ◌-◌}
use Rattle.terms.specs.Coded.{rules_of}
use Rattle.profile.specs.Automata.{lent}
use Rattle.forward.proofs.Fills.{Filling}
use Rattle.forward.proofs.fill_total.Given as goal

abbrev pub invariant-loop-n : goal.invariant-loop-n
invariant-loop-n g l =
    Filling (rules_of (lent l.pass.rows.now.profile) g.F.Finder.termed) l.pass.log.now l.initial.table l.table l.pass.room l.part.t l.part.first l.j l.pairs l.cursors

abbrev pub decreases-loop-n : goal.decreases-loop-n
decreases-loop-n g l =
    l.pass.room - (l.part.first + l.j)
