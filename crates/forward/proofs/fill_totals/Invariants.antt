-- `forward::fill_totals` meets its contract. The loop's invariant: the totals up to that of the part are put, and their pairs counted.
use Prim.Native.Nat.{◌-◌}
use lib.ListN.{length}
use Rattle.terms.specs.Coded.{rules_of}
use Rattle.profile.specs.Automata.{lent}
use Rattle.forward.proofs.Fills.{Reaching}
use Rattle.forward.proofs.fill_totals.Given as goal

abbrev pub invariant-loop-at : goal.invariant-loop-at
invariant-loop-at g l =
    Reaching (rules_of (lent l.pass.rows.now.profile) g.F.Finder.termed) l.pass.log.now l.initial.table l.table l.pass.room l.at.t l.at.from l.at.first l.looks

abbrev pub decreases-loop-at : goal.decreases-loop-at
decreases-loop-at g l =
    length l.pass.log.now - l.at.t
