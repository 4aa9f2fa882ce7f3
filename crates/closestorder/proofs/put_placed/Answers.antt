-- `closestorder::put_placed` meets its contract.
use borrow.Author.Rules.{rules}
use mathlib.Core.Path.{ap, subst}
use Prim.Native.Nat.{◌*◌, ◌-◌, ◌≤◌, ◌<◌}
use native.Mathlib.Omega.{arith}
use Rattle.terms.specs.Coded.{event_letter, may_of}
use Rattle.costwalk.proofs.Rows.{some_record}
use Rattle.costwalk.proofs.Trying.{row_room}
use Rattle.closestorder.proofs.Closing.{close_best, close_judges, fewest_below, fewest_is, lent, rows_of}
use Rattle.closestorder.proofs.put_placed.Goals as goal

pub fill_there-requires : goal.fill_there-requires
fill_there-requires g c =
    let a = c.args in
    record { masks = a.profile.now.masks.now; may = may_of a.profile.now.masks.now g.termed; letter = event_letter g.termed; events = a.codes.now; lent = lent c.requires.0 c.requires.1.0; room = c.requires.1.1.1.1 }

pub overflow_mul-all : goal.overflow_mul-all
overflow_mul-all g c = let e = ap (λ n. n * c.args.profile.now.shape.s) c.records_in.ensures in let room = c.requires.1.1.1.1 in search rules

pub overflow_sub-all : goal.overflow_sub-all
overflow_sub-all g c =
    let e = ap (λ n. n * c.args.profile.now.shape.s) c.records_in.ensures in
    let one = row_room 0 c.records_in.result c.args.profile.now.shape.s (c.records_in.result * c.args.profile.now.shape.s) (omega (arith, c.records_in.ensures, some_record (lent c.requires.0 c.requires.1.0))) (omega arith) in
    search rules

pub least_in-fewest-requires : goal.least_in-fewest-requires
least_in-fewest-requires g c =
    let h = c.requires.0 in
    let e = ap (λ n. n * c.args.profile.now.shape.s) c.records_in.ensures in
    let one = row_room 0 c.records_in.result c.args.profile.now.shape.s (c.records_in.result * c.args.profile.now.shape.s) (omega (arith, c.records_in.ensures, some_record (lent h c.requires.1.0))) (omega arith) in
    (h.profile.states.1, omega (arith, e, one, c.requires.1.1.1.1, c.fill_there.auto.costs), h.profile.finals_inside)

pub pairs-requires : goal.pairs-requires
pairs-requires g c =
    let e = ap (λ n. n * c.args.profile.now.shape.s) c.records_in.ensures in
    omega (arith, e, c.requires.1.1.1.1, c.fill_there.auto.costs)

pub floor-floor-requires : goal.floor-floor-requires
floor-floor-requires g c =
    let a = c.args in
    let h = c.requires.0 in
    let f = c.fill_there in
    let owned = lent h c.requires.1.0 in
    let r = rows_of owned c.requires.1.1.1.1 (f.ensures a.profile.now.masks.now (may_of a.profile.now.masks.now g.termed) (event_letter g.termed) a.codes.now owned) in
    let e = ap (λ n. n * a.profile.now.shape.s) c.records_in.ensures in
    let few = fewest_is h c.requires.1.1.0 c.requires.1.0 r c.least_in-fewest.result _ (ap (λ n. n - a.profile.now.shape.s) e) c.least_in-fewest.ensures in
    (omega (arith, e, c.requires.1.1.1.1, f.auto.costs), omega (arith, fewest_below h c.requires.1.0 few))

pub put_judges-swaps-requires : goal.put_judges-swaps-requires
put_judges-swaps-requires g c = (c.requires.0, (c.requires.1.0, (c.requires.1.1.0, c.requires.1.1.1.0)))

pub returns-then-budget-pairs : goal.returns-then-budget-pairs
returns-then-budget-pairs g c =
    let a = c.args in
    let h = c.requires.0 in
    let f = c.fill_there in
    let owned = lent h c.requires.1.0 in
    let r = rows_of owned c.requires.1.1.1.1 (f.ensures a.profile.now.masks.now (may_of a.profile.now.masks.now g.termed) (event_letter g.termed) a.codes.now owned) in
    let e = ap (λ n. n * a.profile.now.shape.s) c.records_in.ensures in
    let few = fewest_is h c.requires.1.1.0 c.requires.1.0 r c.least_in-fewest.result _ (ap (λ n. n - a.profile.now.shape.s) e) c.least_in-fewest.ensures in
    let o = c.put_judges-swaps in
    close_judges h c.requires.1.1.0 c.requires.1.0 r a.budget _ c.least_in-fewest.result e few a.order.now o.new.order c.floor-floor.result o.result
    (subst (λ n. a.budget < n) c.pairs.ensures c.if-budget-pairs.true) c.floor-floor.ensures o.ensures.value o.ensures.order_after

pub put_best-requires : goal.put_best-requires
put_best-requires g c =
    let a = c.args in
    let h = c.requires.0 in
    let f = c.fill_there in
    let owned = lent h c.requires.1.0 in
    let r = rows_of owned c.requires.1.1.1.1 (f.ensures a.profile.now.masks.now (may_of a.profile.now.masks.now g.termed) (event_letter g.termed) a.codes.now owned) in
    let e = ap (λ n. n * a.profile.now.shape.s) c.records_in.ensures in
    let few = fewest_is h c.requires.1.1.0 c.requires.1.0 r c.least_in-fewest.result _ (ap (λ n. n - a.profile.now.shape.s) e) c.least_in-fewest.ensures in
    record {
      best = record { masks = a.profile.now.masks.now; may = may_of a.profile.now.masks.now g.termed; letter = event_letter g.termed; events = a.codes.now; lent = owned; fewest = few; room = omega (arith, c.requires.1.1.1.1, f.auto.costs) };
      log_in_bounds = c.requires.1.1.1.0;
    }

pub returns : goal.returns
returns g c =
    let a = c.args in
    let h = c.requires.0 in
    let f = c.fill_there in
    let owned = lent h c.requires.1.0 in
    let r = rows_of owned c.requires.1.1.1.1 (f.ensures a.profile.now.masks.now (may_of a.profile.now.masks.now g.termed) (event_letter g.termed) a.codes.now owned) in
    let e = ap (λ n. n * a.profile.now.shape.s) c.records_in.ensures in
    let few = fewest_is h c.requires.1.1.0 c.requires.1.0 r c.least_in-fewest.result _ (ap (λ n. n - a.profile.now.shape.s) e) c.least_in-fewest.ensures in
    close_best h c.requires.1.1.0 c.requires.1.0 r a.budget _ c.least_in-fewest.result e few a.order.now c.put_best.new.order
    (subst (λ n. n ≤ a.budget) c.pairs.ensures c.if-budget-pairs.false) (c.put_best.ensures a.profile.now.masks.now (may_of a.profile.now.masks.now g.termed) (event_letter g.termed) a.codes.now owned few)
