use native.Mathlib.Omega.{arith}
use native.Mathlib.Numerals.{add-one}
use mathlib.Core.Path.{sym, subst}
use Rattle.costcells.specs.Cells.{Least}
use Rattle.costrows.specs.Rows.{LedBack}
use Rattle.costrows.proofs.Leading.{back_more}
use Rattle.costrows.proofs.lead_back.Goals as goal

pub loop-q-preserved : goal.loop-q-preserved
loop-q-preserved c =
    let b = c in
    let a = b.args in
    let l = c.loop-q in
    let least = c.least_in-least in
    subst (λ n. LedBack a.costs.now c.lower.new.costs a.arrow.from a.arrow.to a.profile.now.shape.k a.profile.now.shape.s a.profile.now.moves.now a.arrow.letter a.arrow.more n) (sym (add-one l.q))
    (back_more a.costs.now a.arrow.from a.arrow.to a.profile.now.shape.k a.profile.now.shape.s a.profile.now.moves.now a.arrow.letter a.arrow.more b.requires l.costs c.lower.new.costs l.q least.result
    c.plus-v.result (omega arith) (subst (λ S. Least l.costs a.arrow.to S least.result) c.leads_from-states.ensures least.ensures) c.plus-v.ensures l.invariant
    c.lower.ensures)
