-- `earliest::put_order` meets its contract. The loop's invariant: the first `i` letters of the order are written (`Written`).
use Rattle.terms.specs.Coded.{rules_of}
use Rattle.profile.specs.Automata.{lent}
use Rattle.earliest.specs.Earliest.{Table}
use Rattle.earliest.proofs.Extraction.{Written}
use Rattle.earliest.proofs.put_order.Given as goal

abbrev pub invariant-loop-i : goal.invariant-loop-i
invariant-loop-i g l =
    (tab : Table (rules_of (lent l.profile) g.termed) l.log l.table) × Written tab l.initial.order l.i l.order l.states l.at
