-- `taking::step` meets its contract.
use mathlib.Core.Path.{sym, ◌∙◌, ap}
use mathlib.Core.List.{◌++◌}
use lib.Dec.{leb, ltb}
use borrow.Author.Tests.{leb-false}
use Rattle.profile.specs.Automata.{lent}
use Rattle.profile.specs.Refusals.{refused_by, longest, lowest, profile_refusals}
use Rattle.taking.proofs.Taking.{allowed, own_refusals, step_took}
use Rattle.taking.proofs.Writing.{brought, counted}
use Rattle.taking.proofs.step.Goals as goal

pub returns : goal.returns
returns c =
    let a = c.args in
    let p = lent a.profile.now in
    let e = sym (ap refused_by c.in_default.is) ∙ c.check_event.ensures in
    let h = allowed p (leb longest a.held.taken) (leb a.profile.now.shape.k a.letter) (ltb c.capacity-room.result a.held.prefixes) a.held.taken e in
    let low = leb-false a.profile.now.shape.k a.letter h.2 in
    let short = leb-false longest a.held.taken h.1 in
    step_took p a.letter a.held a.table.now c.capacity-room.result c.capacity-room.ensures
    (e ∙ ap (λ m. lowest (profile_refusals p ++ own_refusals (leb longest a.held.taken) (leb a.profile.now.shape.k a.letter) (ltb m a.held.prefixes) a.held.taken)) c.capacity-room.ensures)
    (counted p a.letter low short) (brought p a.letter low short) _ _ c.take.result.answer c.take.ensures
