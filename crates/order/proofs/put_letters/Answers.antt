use mathlib.Core.Path.{refl, ◌∙◌, ap}
use mathlib.Core.List.{map}
use Prim.Native.Nat.{◌+◌, ◌≤◌, ◌<◌}
use lib.ListN.{length, get_or, length-set}
use Rattle.profile.specs.Limits.{most_letters}
use Rattle.profile.specs.Lists.{below}
use Rattle.profile.specs.Refusals.{longest}
use Rattle.theory.proofs.Refusals.{log_at, relation_at}
use Rattle.order.proofs.First.{chosen_all, chosen_below, chosen_fits, chosen_length, chosen_more, chosen_none, first_coming}
use native.Mathlib.Omega.{arith}
use Rattle.order.proofs.put_letters.Goals as goal
use Rattle.order.proofs.put_letters.Goals.{After-least_next-a}

-- what is known of the letter that is chosen
letter_of : (c : After-least_next-a)
    → (c.least_next-a.result < c.args.keepers.now.k)
    × (c.args.keepers.now.k ≤ most_letters)
    × (c.least_next-a.result < length c.loop-t.used) × (c.least_next-a.result < length c.loop-t.next)
    × (get_or c.loop-t.used c.least_next-a.result 0 + 1 ≤ longest)
letter_of c =
    let a = c.args in
    let p = c.requires in
    let l = c.loop-t in
    let below = chosen_below a.keepers.now.k a.keepers.now.masks.now a.log.now (relation_at a.keepers.now.k a.keepers.now.masks.now p.relation) (log_at a.keepers.now.k a.log.now p.log) a.out.now l.next l.used l.out l.t l.invariant.3
    (omega arith) c.least_next-a.result c.least_next-a.ensures in
    let fits = chosen_fits a.keepers.now.k a.keepers.now.masks.now a.log.now (relation_at a.keepers.now.k a.keepers.now.masks.now p.relation) (log_at a.keepers.now.k a.log.now p.log) a.out.now l.next l.used l.out l.t l.invariant.3
    (omega arith) c.least_next-a.result c.least_next-a.ensures in
    let long = chosen_length a.keepers.now.k a.keepers.now.masks.now a.log.now (relation_at a.keepers.now.k a.keepers.now.masks.now p.relation) (log_at a.keepers.now.k a.log.now p.log) a.out.now l.next l.used l.out l.t l.invariant.3 in
    (below, (relation_at a.keepers.now.k a.keepers.now.masks.now p.relation).most, omega (arith, p.long), omega arith, fits)

pub overflow_cast-out : goal.overflow_cast-out
overflow_cast-out c = omega (arith, letter_of (goal.at.overflow_cast-out c).After-least_next-a)

pub bounds-out-t : goal.bounds-out-t
bounds-out-t c = omega (arith, c.requires.room)

pub offset_bounds-used-a : goal.offset_bounds-used-a
offset_bounds-used-a c = omega (arith, letter_of (goal.at.offset_bounds-used-a c).After-least_next-a)

pub bounds-used-a : goal.bounds-used-a
bounds-used-a c = (letter_of (goal.at.bounds-used-a c).After-least_next-a).2

pub overflow_add-m : goal.overflow_add-m
overflow_add-m c = omega (arith, letter_of (goal.at.overflow_add-m c).After-least_next-a)

pub offset_bounds-used-a-in-loop-t : goal.offset_bounds-used-a-in-loop-t
offset_bounds-used-a-in-loop-t c = omega (arith, letter_of (goal.at.offset_bounds-used-a-in-loop-t c).After-least_next-a)

pub bounds-used-a-in-loop-t : goal.bounds-used-a-in-loop-t
bounds-used-a-in-loop-t c = (letter_of (goal.at.bounds-used-a-in-loop-t c).After-least_next-a).2

pub bounds-next-a : goal.bounds-next-a
bounds-next-a c = (letter_of (goal.at.bounds-next-a c).After-least_next-a).3

pub loop-t-preserved : goal.loop-t-preserved
loop-t-preserved c =
    let a = c.args in
    let p = c.requires in
    let l = c.loop-t in
    let x = c.least_next-a.result in (
      length-set l.next x c.next_place.result ∙ l.invariant.0,
      length-set l.used x (get_or l.used x 0 + 1) ∙ l.invariant.1,
      length-set l.out l.t x ∙ l.invariant.2,
      chosen_more a.keepers.now.k a.keepers.now.masks.now a.log.now (relation_at a.keepers.now.k a.keepers.now.masks.now p.relation) (log_at a.keepers.now.k a.log.now p.log) a.out.now l.next l.used l.out l.t l.invariant.3
          (omega arith) x c.least_next-a.ensures a.placed.now.starts.now a.placed.now.places.now p.start p.place c.next_place.result c.next_place.ensures
          p.room (omega (arith, p.long)),
    )

pub shape_of-next : goal.shape_of-next
shape_of-next c = c.loop-t.invariant.0 ∙ c.first_places.auto.next

pub shape_of-used : goal.shape_of-used
shape_of-used c = c.loop-t.invariant.1

pub shape_of-out : goal.shape_of-out
shape_of-out c = c.loop-t.invariant.2

pub returns : goal.returns
returns c =
    let a = c.args in
    let p = c.requires in
    let l = c.loop-t in
    chosen_all a.keepers.now.k a.keepers.now.masks.now a.log.now (relation_at a.keepers.now.k a.keepers.now.masks.now p.relation) (log_at a.keepers.now.k a.log.now p.log) a.out.now l.next l.used l.out l.t l.invariant.3 (omega arith)

pub offset_bounds-next-a : goal.offset_bounds-next-a
offset_bounds-next-a c = omega (arith, letter_of (goal.at.offset_bounds-next-a c).After-least_next-a)

pub loop-t-init : goal.loop-t-init
loop-t-init c =
    let a = c.args in
    let p = c.requires in
    let e = c.first_places.ensures ∙ ap (λ n. map (λ x. get_or a.placed.now.places.now (get_or a.placed.now.starts.now x 0 + 0) 0) (below n)) p.wide in
    let q = e ∙ first_coming a.keepers.now.k a.log.now a.placed.now.starts.now a.placed.now.places.now p.start p.place in
    (refl, refl, refl, chosen_none a.keepers.now.k a.keepers.now.masks.now a.log.now a.out.now c.first_places.new.next a.used.now q p.unused)
