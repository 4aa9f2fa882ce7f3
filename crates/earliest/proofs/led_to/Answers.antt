-- `earliest::led_to` meets its contract.
use mathlib.Core.Path.{sym, ◌∙◌, ap, ap₂}
use mathlib.Core.Bool.{◌&&◌, cond}
use Rattle.profile.specs.Automata.{forward_step, meets}
use Rattle.records.specs.Records.{last_at}
use Rattle.earliest.proofs.led_to.Goals as goal

pub returns-then-meet : goal.returns-then-meet
returns-then-meet c =
    let a = c.args in
    let R = forward_step a.profile.now.shape.k a.profile.now.shape.s a.profile.now.moves.now a.states a.x in
    c.step_forward-reached.ensures
    ∙ sym (ap₂ (λ p q. cond (p && q) R 0) (sym c.stands_at.ensures ∙ c.if-stands_at.true)
    (sym (c.meet.ensures ∙ ap₂ meets c.step_forward-reached.ensures c.last_at.ensures) ∙ c.if-meet.true))

pub returns-else-meet : goal.returns-else-meet
returns-else-meet c =
    let a = c.args in
    let R = forward_step a.profile.now.shape.k a.profile.now.shape.s a.profile.now.moves.now a.states a.x in
    sym (ap₂ (λ p q. cond (p && q) R 0) (sym c.stands_at.ensures ∙ c.if-stands_at.true)
    (sym (c.meet.ensures ∙ ap₂ meets c.step_forward-reached.ensures c.last_at.ensures) ∙ c.if-meet.false))

pub returns-else-stands_at : goal.returns-else-stands_at
returns-else-stands_at c =
    let a = c.args in
    let R = forward_step a.profile.now.shape.k a.profile.now.shape.s a.profile.now.moves.now a.states a.x in
    sym (ap (λ p. cond (p && meets R (last_at a.t.now a.j)) R 0) (sym c.stands_at.ensures ∙ c.if-stands_at.false))
