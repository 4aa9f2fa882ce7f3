use native.Mathlib.Omega.{arith}
use Prim.Native.Nat.{◌+◌, ◌<◌}
use native.Mathlib.Numerals.{add-one}
use mathlib.Core.Path.{sym, ◌∙◌, ap, subst}
use lib.ListN.{length}
use Rattle.costcells.specs.Cells.{Lowered, none_cost}
use Rattle.costcells.proofs.Cells.{inside}
use Rattle.costrows.specs.Rows.{LedOn, with_step}
use Rattle.costrows.proofs.Leading.{led_more}
use Rattle.costrows.proofs.lead_on.Goals as goal

pub loop-q-preserved : goal.loop-q-preserved
loop-q-preserved c =
    let b = c in
    let a = b.args in
    let l = c.loop-q in
    let i : a.arrow.from + l.q < length l.costs = omega (arith, b.requires.first, l.invariant.as_long) in
    let e = inside l.costs (a.arrow.from + l.q) 0 none_cost i in
    subst (λ n. LedOn a.costs.now c.lower_all.new.costs a.arrow.from a.arrow.to a.profile.now.shape.k a.profile.now.shape.s a.profile.now.moves.now a.arrow.letter a.arrow.more n) (sym (add-one l.q))
    (led_more a.costs.now a.arrow.from a.arrow.to a.profile.now.shape.k a.profile.now.shape.s a.profile.now.moves.now a.arrow.letter a.arrow.more b.requires l.costs c.lower_all.new.costs l.q
    c.plus-v.result (omega arith) (c.plus-v.ensures ∙ ap (λ i. with_step i a.arrow.more) e) l.invariant
    (subst (λ S. Lowered l.costs c.lower_all.new.costs a.arrow.to S c.plus-v.result) c.leads_from-states.ensures c.lower_all.ensures))
