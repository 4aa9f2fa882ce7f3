-- `forward::merge_next` meets its contract.
use mathlib.Core.Path.{refl, subst}
use native.Mathlib.Omega.{arith}
use lib.Count.{ones}
use Rattle.profile.specs.Automata.{lent}
use Rattle.counts.specs.Counts.{words}
use Rattle.forward.specs.Merging.{Comes, records_between}
use Rattle.forward.proofs.Handed.{freely}
use Rattle.forward.proofs.Puts.{merge_found, merge_full, merge_hands, merge_none, merge_put}
use Rattle.forward.proofs.merge_next.Goals as goal

pub next_counts-next-requires : goal.next_counts-next-requires
next_counts-next-requires g c =
    let h = c.requires in
    let p = h.0.profile in
    (p.relation.most, h.1.long, omega (arith, p.relation.long))

pub overflow_add-first : goal.overflow_add-first
overflow_add-first g c = let h = c.requires in omega (arith, h.0.few, h.1.inside)

pub addable_with-set-requires : goal.addable_with-set-requires
addable_with-set-requires g c =
    let a = c.args in
    let h = c.requires in
    let x = c.next_counts-next in
    let q = a.pass.now.rows.now.profile in
    let level = records_between a.table.now a.part.from a.part.first in
    let n = subst (Comes (lent q) level a.cursors.now x.new.cursors) c.in-Some.is x.ensures in
    merge_hands h.0 h.1 (words c.in-Some.c) n.0 g.F.Finder.termed (freely (lent q) g.F.Finder.termed) c.in-Some.handed.letters c.in-Some.handed.passed n.2 n.3

pub put_in-requires : goal.put_in-requires
put_in-requires g c = omega (arith, c.if-first-j.true, c.requires.0.fits)

pub returns-in-None : goal.returns-in-None
returns-in-None g c =
    let a = c.args in
    let h = c.requires in
    let x = c.next_counts-next in
    let q = a.pass.now.rows.now.profile in
    let level = records_between a.table.now a.part.from a.part.first in
    let n = subst (Comes (lent q) level a.cursors.now x.new.cursors) c.in-None.is x.ensures in
    (merge_none h.0 h.1 n, refl)

pub returns-then-first-j : goal.returns-then-first-j
returns-then-first-j g c =
    let a = c.args in
    let h = c.requires in
    let x = c.next_counts-next in
    let q = a.pass.now.rows.now.profile in
    let level = records_between a.table.now a.part.from a.part.first in
    let n = subst (Comes (lent q) level a.cursors.now x.new.cursors) c.in-Some.is x.ensures in
    let y = c.addable_with-set in
    let z = c.put_in in
    merge_put h.0 h.1 (words c.in-Some.c) n.0 c.in-Some.handed.forward y.result c.in-Some.from (ones y.result) z.new.table x.new.cursors
    c.if-first-j.true n.1 n.4 (merge_found h.0 h.1 (words c.in-Some.c) n.0 y.result y.ensures) n.5 refl z.ensures

pub returns-else-first-j : goal.returns-else-first-j
returns-else-first-j g c =
    let a = c.args in
    let h = c.requires in
    let x = c.next_counts-next in
    let q = a.pass.now.rows.now.profile in
    let level = records_between a.table.now a.part.from a.part.first in
    let n = subst (Comes (lent q) level a.cursors.now x.new.cursors) c.in-Some.is x.ensures in
    merge_full h.0 h.1 (words c.in-Some.c) n.0 c.if-first-j.false
