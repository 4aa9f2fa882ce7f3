-- `closestorder::put_order` meets its contract.
use borrow.Author.Rules.{rules}
use native.Mathlib.Omega.{arith}
use Rattle.closestorder.proofs.Closing.{as_long, log_below}
use Rattle.closestorder.proofs.put_order.Goals as goal

pub place_events-requires : goal.place_events-requires
place_events-requires g c =
    let h = c.requires.0 in
    omega (arith, as_long h, h.events.short, h.profile.relation.most)

pub put_placed-requires : goal.put_placed-requires
put_placed-requires g c =
    let a = c.args in
    let h = c.requires.0 in
    let e = c.place_events.ensures in
    let w = a.log.now in (
      h,
      (
        record {
          few = omega (arith, as_long h, h.events.short);
          letters = h.profile.relation.most;
          below_k = log_below h;
          starts_rest = _;
          places_rest = _;
          starts_are = e.0;
          places_are = e.1;
        },
        (c.requires.1.0, c.requires.1.1),
      ),
    )
