-- `parts::next_step` meets its contract.
use mathlib.Core.Path.{◌∙◌}
use Rattle.pairs.proofs.Cells.{total_is}
use Rattle.parts.proofs.Steps.{fits_sum, step_letter, step_met, step_outside, step_parts, total_small}
use native.Mathlib.Omega.{arith}
use Rattle.parts.proofs.next_step.Goals as goal

pub total_at-last-requires : goal.total_at-last-requires
total_at-last-requires c = omega (arith, c.args.nested.now.setting.fits, c.requires.i_lt_j.1)

pub overflow_add-result : goal.overflow_add-result
overflow_add-result c =
    let a = c.args in
    let q = c.requires.i_lt_j in
    let m = c.parts_of-parts in
    let h = total_small a.nested.now m.result.at c.total_at-middle.result (omega (arith, m.ensures.1, q.1)) c.total_at-middle.ensures in
    fits_sum c.total_at-middle.result c.total_at-middle.result h h

pub overflow_add-result-in-Apart : goal.overflow_add-result-in-Apart
overflow_add-result-in-Apart c =
    let a = c.args in
    let q = c.requires.i_lt_j in
    fits_sum c.total_at-first.result c.total_at-last.result (total_small a.nested.now a.i c.total_at-first.result (omega (arith, q.0, q.1)) c.total_at-first.ensures)
    (total_small a.nested.now a.j c.total_at-last.result q.1 c.total_at-last.ensures)

pub returns-in-Apart : goal.returns-in-Apart
returns-in-Apart c =
    let a = c.args in
    let q = c.requires.i_lt_j in
    let m = c.parts_of-parts in
    let v = step_met a.nested.now a.sets.now c.requires.known a.i a.j a.n m.result.at m.result.first m.result.second q.1 m.ensures.0 m.ensures.1 m.ensures.2 in
    (omega (arith, m.ensures.0), m.ensures.1, v.0, v.1, v.2)

pub parts_of-parts-requires-clause-by_index : goal.parts_of-parts-requires-clause-by_index
parts_of-parts-requires-clause-by_index c =
    let a = c.args in
    let q = c.requires.i_lt_j in
    step_parts a.nested.now a.sets.now c.requires.known a.i a.j a.n q.0 q.1 c.in-Apart.ensures q.2

pub returns-in-Outside : goal.returns-in-Outside
returns-in-Outside c =
    let a = c.args in
    let q = c.requires.i_lt_j in
    absurd (step_outside a.nested.now a.i a.j a.n (omega (arith, q.0, q.1)) q.1 c.in-Outside.ensures q.2)

pub returns-in-Letter : goal.returns-in-Letter
returns-in-Letter c =
    let a = c.args in
    let q = c.requires.i_lt_j in (
      c.total_at.ensures ∙ total_is a.nested.now a.i (omega (arith, q.0, q.1)),
      step_letter a.nested.now a.i a.j c.in-Letter.a a.n (omega (arith, q.0, q.1)) q.1 c.in-Letter.ensures q.2,
    )
