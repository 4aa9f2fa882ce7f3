use native.Mathlib.Omega.{arith}
use Prim.Native.Nat.{ℕ, suc, ◌≤◌, ◌<◌}
use native.Mathlib.Numerals.{add-one}
use mathlib.Core.Path.{◌≡◌, refl, sym, ◌∙◌, ap, subst}
use lib.ListN.{length, get_or, take}
use lib.Seq.{get_or-take, length-take-le}
use Rattle.profile.specs.Prefixes.{count}
use Rattle.profile.specs.Tables.{count_field, layout, packed}
use Rattle.theory.proofs.Packing.{packed_zero}
use Rattle.counts.specs.Counts.{add_count, words}
use Rattle.swaps.specs.Swaps.{step_cost, taking}
use Rattle.stepcost.specs.StepCosts.{Within}
use Rattle.swaps.proofs.Costs.{swaps_taking}
use Rattle.orderswaps.proofs.Reading.{counted, least_sum, never, field_counted, next_below, next_counted, next_left, next_taking, read_few, read_le, taking_small}
use Rattle.orderswaps.proofs.swaps.Goals as goal

pub loop-letter-init : goal.loop-letter-init
loop-letter-init c = let b = c in
    (c.none_counted-c.ensures ∙ sym (packed_zero layout b.args.k), refl)

pub returns : goal.returns
returns c = let b = c in
    let a = b.args in
    let l = c.loop-letter in
    let e : l.letter-index ≡ length a.log.now = omega (arith, length-take-le (length a.log.now) a.order.now b.requires.arranged.long) in
    l.invariant.1 ∙ ap (λ i. taking (λ a. a) a.log.now (λ x. 0) (take i a.order.now)) e ∙ sym (swaps_taking never (λ a. a) a.log.now (take (length a.log.now) a.order.now) b.requires.arranged.same)

pub step_cost-more-requires-clause-within : goal.step_cost-more-requires-clause-within
step_cost-more-requires-clause-within c = let b = c in
    let a = b.args in
    let l = c.loop-letter in
    let h : l.letter-index < length a.log.now = omega (arith, length-take-le (length a.log.now) a.order.now b.requires.arranged.long) in
    let same : get_or (take (length a.log.now) a.order.now) l.letter-index 0 ≡ get_or a.order.now l.letter-index 0 = get_or-take (length a.log.now) a.order.now l.letter-index 0 h in
    let le : l.letter-index ≤ length a.log.now = omega (arith, h) in
    let few = read_few a.k a.log.now a.whole.now a.order.now b.requires.placed.letters b.requires.placed.few b.requires.placed.below_k b.requires.arranged l.letter-index le in
    let m = c.numbers-m.ensures ∙ l.invariant.0 in
    let field : (y : ℕ) → y < a.k → count_field layout c.numbers-m.result y ≡ count (λ a. a) (take l.letter-index a.order.now) y =
    λ y lt. ap (λ t. count_field layout t y) m ∙ field_counted a.k b.requires.placed.letters (take l.letter-index a.order.now) y few lt in
    let x = get_or a.order.now l.letter-index 0 in
    let below = next_below a.k a.log.now a.whole.now a.order.now b.requires.placed.letters b.requires.placed.few b.requires.placed.below_k b.requires.arranged l.letter-index h in
    let inside : Within a.k a.log.now c.numbers-m.result a.whole.now x = record {
      letter = below;
      left = subst (λ n. n < count (λ a. a) a.log.now x) (sym (field x below))
          (next_left a.k a.log.now a.whole.now a.order.now b.requires.placed.letters b.requires.placed.few b.requires.placed.below_k b.requires.arranged l.letter-index h);
      fits = λ y lt. subst (λ n. n ≤ count (λ a. a) a.log.now y) (sym (field y lt))
          (read_le a.k a.log.now a.whole.now a.order.now b.requires.placed.letters b.requires.placed.few b.requires.placed.below_k b.requires.arranged l.letter-index y le);
      all = b.requires.arranged.all;
    } in subst (λ y. Within a.k a.log.now c.numbers-m.result a.whole.now y) (sym same) inside

pub loop-letter-preserved : goal.loop-letter-preserved
loop-letter-preserved c = let b = c in
    let a = b.args in
    let l = c.loop-letter in
    let h : l.letter-index < length a.log.now = omega (arith, length-take-le (length a.log.now) a.order.now b.requires.arranged.long) in
    let same : get_or (take (length a.log.now) a.order.now) l.letter-index 0 ≡ get_or a.order.now l.letter-index 0 = get_or-take (length a.log.now) a.order.now l.letter-index 0 h in
    let x = get_or a.order.now l.letter-index 0 in
    let m = c.numbers-m.ensures ∙ l.invariant.0 in
    let t = next_taking a.k a.log.now a.whole.now a.order.now b.requires.placed.letters b.requires.placed.few b.requires.placed.below_k b.requires.arranged l.letter-index h in
    let small = taking_small a.k a.log.now a.whole.now a.order.now b.requires.placed.letters b.requires.placed.few b.requires.placed.below_k b.requires.arranged (suc l.letter-index) h in
    let step = c.step_cost-more.ensures ∙ ap (λ y. step_cost (λ a. a) a.log.now (count_field layout c.numbers-m.result) y) same ∙ ap (λ n. step_cost (λ a. a) a.log.now (count_field layout n) x) m in (
      subst (λ n. words c.one_more-c.result ≡ packed layout (counted a.k (take n a.order.now))) (sym (add-one l.letter-index)) (c.one_more-c.ensures ∙ ap (λ y. add_count layout (words l.c) y) same ∙ ap (λ n. add_count layout n x) l.invariant.0
          ∙ next_counted a.k a.log.now a.whole.now a.order.now b.requires.placed.letters b.requires.placed.few b.requires.placed.below_k b.requires.arranged l.letter-index h),
      subst (λ n. c.plus-sum.result ≡ taking (λ a. a) a.log.now (λ x. 0) (take n a.order.now)) (sym (add-one l.letter-index)) (c.plus-sum.ensures ∙ least_sum l.sum c.step_cost-more.result l.invariant.1 step t small),
    )
