use mathlib.Core.Path.{◌≡◌, refl, ◌∙◌, subst}
use native.Mathlib.Omega.{arith}
use lib.ListN.{length, length-set}
use Rattle.counts.specs.Counts.{words}
use Rattle.costwalk.proofs.Walking.{Walks, walks_all, walks_below, walks_lead, walks_next, walks_none}
use Rattle.costwalk.proofs.put_closest.Goals as goal

pub overflow_shl-taken : goal.overflow_shl-taken
overflow_shl-taken c = let g = c.requires.known.lent.profile in omega (arith, g.starts, g.states.1)

pub loop-i-init : goal.loop-i-init
loop-i-init c =
    let a = c.args in
    (refl, walks_none a.profile.now.shape a.profile.now.moves.now a.t.now a.log.now a.placed.now.starts.now a.placed.now.places.now a.costs.now a.fewest a.order.now (words c.none_counted.result) c.none_counted.ensures)

pub choose-choice-requires : goal.choose-choice-requires
choose-choice-requires c =
    let a = c.args in
    let l = c.loop-i in
    walks_lead a.profile.now.shape a.profile.now.moves.now a.t.now a.log.now a.placed.now.starts.now a.placed.now.places.now a.costs.now a.fewest a.order.now l.invariant.1 c.requires.known c.loop-i-test.true

pub overflow_cast-order : goal.overflow_cast-order
overflow_cast-order c =
    let a = c.args in
    let l = c.loop-i in
    let b = walks_below a.profile.now.shape a.profile.now.moves.now a.t.now a.log.now a.placed.now.starts.now a.placed.now.places.now a.costs.now a.fewest a.order.now l.invariant.1 c.loop-i-test.true c.requires.log_in_bounds c.choose-choice.result c.choose-choice.ensures c.requires.known in
    omega (arith, b.0, b.1)

pub bounds-order-i : goal.bounds-order-i
bounds-order-i c = let l = c.loop-i in omega (arith, l.invariant.0, c.loop-i-test.true, c.requires.log_in_bounds)

pub take_letter-taken-requires : goal.take_letter-taken-requires
take_letter-taken-requires c =
    let a = c.args in
    let l = c.loop-i in
    let b = walks_below a.profile.now.shape a.profile.now.moves.now a.t.now a.log.now a.placed.now.starts.now a.placed.now.places.now a.costs.now a.fewest a.order.now l.invariant.1 c.loop-i-test.true c.requires.log_in_bounds c.choose-choice.result c.choose-choice.ensures c.requires.known in
    (b.1, b.2, b.3)

pub loop-i-preserved : goal.loop-i-preserved
loop-i-preserved c =
    let a = c.args in
    let l = c.loop-i in
    let e = c.take_letter-taken.ensures in (
      length-set l.order l.i c.choose-choice.result.letter ∙ l.invariant.0,
      walks_next a.profile.now.shape a.profile.now.moves.now a.t.now a.log.now a.placed.now.starts.now a.placed.now.places.now a.costs.now a.fewest a.order.now l.invariant.1 c.loop-i-test.true c.requires.log_in_bounds c.choose-choice.result c.choose-choice.ensures e.counts_value e.states_value e.left_value,
    )

pub shape_of-order : goal.shape_of-order
shape_of-order c = c.loop-i.invariant.0

pub returns : goal.returns
returns c =
    let a = c.args in
    let l = c.loop-i in
    let e : l.i ≡ length a.log.now = omega arith in
    walks_all a.profile.now.shape a.profile.now.moves.now a.t.now a.log.now a.placed.now.starts.now a.placed.now.places.now a.costs.now a.fewest a.order.now (subst (λ i. Walks a.profile.now.shape a.profile.now.moves.now a.t.now a.log.now a.placed.now.starts.now a.placed.now.places.now a.costs.now a.fewest a.order.now i l.order (words l.taken.counts) l.taken.states l.taken.left) e l.invariant.1)
