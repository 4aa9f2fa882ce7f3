use Prim.Native.Nat.{ℕ, ◌*◌, ◌-◌, ◌<◌}
use mathlib.Core.Path.{◌≡◌, sym, ap, subst}
use native.Mathlib.Omega.{arith}
use native.Mathlib.Numerals.{add-one}
use lib.ListN.{length, set, take}
use Rattle.profile.specs.Automata.{forward_step}
use Rattle.profile.specs.Tables.{layout, record_length}
use Rattle.successors.specs.Successors.{Stands}
use Rattle.successors.proofs.More.{stands_at}
use Rattle.earliest.specs.Earliest.{Smallest, Some}
use Rattle.earliest.proofs.Records.{recorded, used}
use Rattle.earliest.proofs.Extraction.{Written, start_set, written_all, written_length, written_next, written_none, written_some}
use Rattle.earliest.proofs.put_order.Given.{Over}
use Rattle.earliest.proofs.put_order.Goals as goal
use Rattle.earliest.proofs.put_order.Goals.{After-choose-choice}

-- the numbers of all records, as a part of the table is written
whole : (n : ℕ) {m : ℕ} → n ≡ m → record_length layout * n - 0 ≡ record_length layout * m
whole n e = omega arith

pub overflow_mul-used : goal.overflow_mul-used
overflow_mul-used g c = let q = c.requires in omega (arith, q.0.room, q.1.0)

pub overflow_shl-states : goal.overflow_shl-states
overflow_shl-states g c = let tab = c.requires.0 in omega (arith, tab.profile.starts, tab.profile.states.1)

pub loop-i-init : goal.loop-i-init
loop-i-init g c =
    let q = c.requires in
    let order = c.args.order.now in
    (q.0, subst (λ S. Written q.0 order 0 order S 0) (sym (start_set q.0)) (written_none q.0 order q.1.1.0))

pub slice_bounds-choose-end : goal.slice_bounds-choose-end
slice_bounds-choose-end g c = let q = c.requires in omega (arith, q.0.room, q.1.0)

pub choose-choice-requires : goal.choose-choice-requires
choose-choice-requires g c =
    let a = c.args in
    let q = c.requires in
    let l = c.loop-i in
    let tab = l.invariant.0 in
    let part : take (record_length layout * a.records - 0) a.table.now ≡ used tab = ap (λ n. take n a.table.now) (whole a.records q.1.0) in record {
      stands = (subst (λ u. Stands u a.profile.now.shape.k l.at) (sym part) (stands_at (recorded tab) l.at l.invariant.1.inside), q.0.profile.states.1);
      some = subst (λ u. Some (forward_step a.profile.now.shape.k a.profile.now.shape.s a.profile.now.moves.now) u l.at l.states a.profile.now.shape.k) (sym part) (written_some tab l.invariant.1 c.loop-i-test.true);
    }

-- the letter chosen, in the words of the law of the next letter
chosen : (g : Over) (c : After-choose-choice g)
    → Smallest (forward_step c.args.profile.now.shape.k c.args.profile.now.shape.s c.args.profile.now.moves.now) (used c.loop-i.invariant.0) c.loop-i.at c.loop-i.states c.args.profile.now.shape.k
    c.choose-choice.result.letter c.choose-choice.result.next c.choose-choice.result.states
chosen g c =
    let a = c.args in
    let l = c.loop-i in
    subst (λ u. Smallest (forward_step a.profile.now.shape.k a.profile.now.shape.s a.profile.now.moves.now) u l.at l.states a.profile.now.shape.k c.choose-choice.result.letter c.choose-choice.result.next c.choose-choice.result.states)
    (ap (λ n. take n a.table.now) (whole a.records c.requires.1.0)) c.choose-choice.ensures

pub overflow_cast-order : goal.overflow_cast-order
overflow_cast-order g c = omega (arith, (chosen g (goal.at.overflow_cast-order g c).After-choose-choice).below, c.requires.0.profile.relation.most)

pub bounds-order-i : goal.bounds-order-i
bounds-order-i g c =
    let q = c.requires in
    let i = c.loop-i.invariant in
    let h : c.loop-i.i < length c.args.log.now = c.loop-i-test.true in
    omega (arith, written_length i.0 i.1 (omega (arith, q.1.1.1)), q.1.1.1)

pub overflow_sub-near : goal.overflow_sub-near
overflow_sub-near g c = omega (arith, (chosen g (goal.at.overflow_sub-near g c).After-choose-choice).behind)

pub loop-i-preserved : goal.loop-i-preserved
loop-i-preserved g c =
    let l = c.loop-i in
    let a = c.args in
    let x = c.choose-choice.result in (
      l.invariant.0,
      subst (λ n. Written l.invariant.0 a.order.now n (set l.order l.i x.letter) x.states x.next) (sym (add-one l.i))
          (written_next l.invariant.0 l.invariant.1 c.loop-i-test.true c.requires.1.1.1 (chosen g (goal.at.loop-i-preserved g c).After-choose-choice)),
    )

pub shape_of-order : goal.shape_of-order
shape_of-order g c =
    let i = c.loop-i.invariant in
    written_length i.0 i.1 (omega (arith, c.requires.1.1.1))

pub returns : goal.returns
returns g c =
    let l = c.loop-i in
    let a = c.args in
    let e : l.i ≡ length a.log.now = omega (arith, c.loop-i-test.false) in
    written_all l.invariant.0 c.requires.1.1.0 (subst (λ n. Written l.invariant.0 a.order.now n l.order l.states l.at) e l.invariant.1)
