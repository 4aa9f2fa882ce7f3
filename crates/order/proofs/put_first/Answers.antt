-- `order::put_first` meets its contract: the tables of places are those of the log, and no event is counted.
use mathlib.Core.Path.{refl, sym, ◌∙◌, ap, subst₂}
use mathlib.Core.List.{◌++◌}
use Prim.Native.Nat.{◌-◌}
use lib.ListN.{drop, length, replicate, take}
use lib.Seq.{length-take-le}
use Rattle.profile.specs.Limits.{most_letters}
use Rattle.theory.proofs.Refusals.{log_at, relation_at}
use Rattle.order.specs.Order.{Placed, first_letters}
use Rattle.order.proofs.First.{getd_zeros}
use native.Mathlib.Omega.{arith}
use Rattle.order.proofs.put_first.Goals as goal

pub of-keepers-requires : goal.of-keepers-requires
of-keepers-requires c = let a = c.args in omega (arith, (relation_at a.k a.masks.now c.requires.0).most)

pub place_events-requires : goal.place_events-requires
place_events-requires c =
    let a = c.args in
    let p = c.requires in
    ((relation_at a.k a.masks.now p.0).most, (log_at a.k a.log.now p.1).short, refl, refl)

pub slice_bounds-next-end : goal.slice_bounds-next-end
slice_bounds-next-end c = let a = c.args in (relation_at a.k a.masks.now c.requires.0).most

-- the letters are taken by the masks that the call is lent
pub put_letters-requires : goal.put_letters-requires
put_letters-requires c =
    let a = c.args in
    let p = c.requires in
    let e = c.place_events.ensures in
    let m = (relation_at a.k a.masks.now p.0).most in
    let q : Placed a.k a.masks.now a.log.now c.place_events.new.starts c.place_events.new.places (take (a.k - 0) (replicate most_letters 0)) (replicate most_letters 0) a.out.now = record {
      relation = p.0;
      log = p.1;
      room = p.2;
      start = (_, e.0);
      place = (_, e.1);
      wide = length-take-le (a.k - 0) (replicate most_letters 0) (omega arith) ∙ omega arith;
      long = m;
      unused = getd_zeros most_letters;
    } in
    subst₂ (λ k w. Placed k w a.log.now c.place_events.new.starts c.place_events.new.places (take (a.k - 0) (replicate most_letters 0)) (replicate most_letters 0) a.out.now)
    (sym c.of-keepers.ensures.k) (sym c.of-keepers.ensures.masks) q

pub returns : goal.returns
returns c = let a = c.args in c.put_letters.ensures ∙ ap (λ w. first_letters w a.log.now ++ drop (length a.log.now) a.out.now) c.of-keepers.ensures.masks
