use Prim.Native.Nat.{◌≤◌}
use mathlib.Core.Path.{sym, ◌∙◌, ap, subst}
use native.Mathlib.Omega.{arith}
use Rattle.profile.specs.Automata.{forward_step}
use Rattle.profile.specs.Tables.{layout}
use Rattle.counts.specs.Counts.{add_count, words}
use Rattle.records.specs.Records.{records_in}
use Rattle.earliest.specs.Earliest.{Enclosed}
use Rattle.earliest.proofs.Choices.{bounded_first, bounded_next, passed_next, taken_here}
use Rattle.earliest.proofs.choose.Goals as goal

pub counts_at-c-requires : goal.counts_at-c-requires
counts_at-c-requires c = omega (arith, c.requires.stands.0.inside)

pub loop-x-init : goal.loop-x-init
loop-x-init c =
    let a = c.args in
    let step = forward_step a.profile.now.shape.k a.profile.now.shape.s a.profile.now.moves.now in
    (bounded_first step a.t.now a.at a.states a.profile.now.shape.k c.requires.stands.0 c.records_in-end.result c.records_in-end.ensures, λ y r l k. absurd (omega arith))

pub place_for-sought-requires : goal.place_for-sought-requires
place_for-sought-requires c =
    let a = c.args in
    let l = c.loop-x in
    let own = c.one_more-next.ensures ∙ ap (λ v. add_count layout v l.x) c.counts_at-c.ensures in
    subst (λ d. Enclosed a.t.now d a.at l.end) (sym own) (l.invariant.0 l.x (omega arith) c.loop-x-test.true)

pub led_to-reached-requires : goal.led_to-reached-requires
led_to-reached-requires c = let q = c.requires in (q.stands.0.letters, q.stands.1)

pub returns-then-reached-ne0 : goal.returns-then-reached-ne0
returns-then-reached-ne0 c =
    let a = c.args in
    let q = c.requires.stands.0 in
    let l = c.loop-x in
    let r = c.place_for-sought.ensures in
    let step = forward_step a.profile.now.shape.k a.profile.now.shape.s a.profile.now.moves.now in
    let own = c.one_more-next.ensures ∙ ap (λ v. add_count layout v l.x) c.counts_at-c.ensures in
    let inside : c.place_for-sought.result.end ≤ records_in a.t.now = omega (arith, r.at_lt_place.2, (l.invariant.0 l.x (omega arith) c.loop-x-test.true).inside) in
    let k = taken_here step a.t.now a.at a.states a.profile.now.shape.k q l.x c.led_to-reached.result c.place_for-sought.result.place c.place_for-sought.result.end (words c.one_more-next.result)
    c.loop-x-test.true own r.at_lt_place.1 inside (r.between q.ordered) (r.i_value q.ordered) c.led_to-reached.ensures c.if-reached-ne0.true in
    record { below = c.loop-x-test.true; takes = k.0; behind = r.at_lt_place.0; states = k.1; first = l.invariant.1 }

pub loop-x-preserved : goal.loop-x-preserved
loop-x-preserved c =
    let a = c.args in
    let q = c.requires.stands.0 in
    let l = c.loop-x in
    let r = c.place_for-sought.ensures in
    let step = forward_step a.profile.now.shape.k a.profile.now.shape.s a.profile.now.moves.now in
    let own = c.one_more-next.ensures ∙ ap (λ v. add_count layout v l.x) c.counts_at-c.ensures in
    let inside : c.place_for-sought.result.end ≤ records_in a.t.now = omega (arith, r.at_lt_place.2, (l.invariant.0 l.x (omega arith) c.loop-x-test.true).inside) in (
      bounded_next step a.t.now a.at a.states a.profile.now.shape.k q l.x c.led_to-reached.result c.place_for-sought.result.place c.place_for-sought.result.end (words c.one_more-next.result)
          c.loop-x-test.true own r.at_lt_place.1 inside (r.between q.ordered) (r.i_value q.ordered) c.led_to-reached.ensures,
      passed_next step a.t.now a.at a.states a.profile.now.shape.k q l.x c.led_to-reached.result c.place_for-sought.result.place c.place_for-sought.result.end (words c.one_more-next.result)
          c.loop-x-test.true own r.at_lt_place.1 inside (r.between q.ordered) (r.i_value q.ordered) c.led_to-reached.ensures l.invariant.1 c.if-reached-ne0.false,
    )

pub returns : goal.returns
returns c = let some = c.requires.some in absurd (c.loop-x.invariant.1 some.0 some.1 (omega (arith, some.2, c.loop-x-test.false)) some.3)
