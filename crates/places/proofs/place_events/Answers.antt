use mathlib.Core.Path.{◌∙◌}
use Prim.Native.Nat.{◌+◌, ◌≤◌}
use native.Mathlib.Omega.{arith}
use lib.ListN.{length, length-set}
use Rattle.places.specs.Places.{place_start, place_table}
use Rattle.theory.proofs.Fronts.{front_put}
use Rattle.places.proofs.Places.{place_table_le, place_table_more, places_more}
use Rattle.places.proofs.place_events.Goals as goal

pub put_places-at-requires : goal.put_places-at-requires
put_places-at-requires c =
    let w = c.args.log.now in
    let x = c.loop-x.x in
    omega (arith, place_table_le (x + 1) w, place_table_more x w)

pub loop-x-preserved : goal.loop-x-preserved
loop-x-preserved c =
    let l = c.loop-x in
    let a = c.args in
    let f = c.put_places-at in
    let w = a.log.now in
    let le : length (place_table (l.x + 1) w) ≤ length a.places.now = omega (arith, place_table_le (l.x + 1) w) in (
      omega (arith, f.ensures.0, place_table_more l.x w),
      length-set l.starts l.x l.at ∙ l.invariant.1,
      f.auto.places ∙ l.invariant.2,
      rw (l.invariant.3, l.invariant.0) (front_put (place_start w) a.starts.now l.x (omega arith)),
      f.ensures.1 ∙ rw (l.invariant.4, l.invariant.0) (places_more w a.places.now l.x le),
    )
