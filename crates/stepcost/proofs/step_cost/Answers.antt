use native.Mathlib.Omega.{arith}
use Prim.Native.Nat.{◌+◌, ◌-◌, ◌≤◌, ◌<◌}
use lib.ListN.{length, get_or, take}
use native.Mathlib.Numerals.{add-one}
use mathlib.Core.Path.{◌≡◌, sym, ◌∙◌, ap, ap₂, subst}
use Rattle.profile.specs.Prefixes.{count}
use Rattle.profile.specs.Tables.{count_field, layout}
use Rattle.stepcost.proofs.Sums.{few_of, left_all, left_below, left_more, left_none, left_small, lt_le, place_inside, placed_at, take_le}
use Rattle.stepcost.proofs.step_cost.Goals as goal

pub loop-y-init : goal.loop-y-init
loop-y-init c =
    let b = c in
    let a = b.args in
    let n = count_field layout a.c.now a.x in (
      c.next_place-own.ensures ∙ ap (λ i. get_or a.placed.now.places.now (get_or a.placed.now.starts.now a.x 0 + i) 0) c.count_of.ensures
          ∙ placed_at a.k a.log.now a.placed.now.starts.now a.placed.now.places.now a.x n b.requires.placed b.requires.within.letter (lt_le n (count (λ a. a) a.log.now a.x) b.requires.within.left),
      sym (left_none a.log.now a.c.now c.next_place-own.result),
    )

pub overflow_add-cost : goal.overflow_add-cost
overflow_add-cost c =
    let b = c in
    let a = b.args in
    let l = c.loop-y in
    let own = c.next_place-own.result in
    let s = left_small a.log.now a.c.now own l.y b.requires.placed.few (omega (arith, b.requires.placed.letters)) in
    let f : c.passed-cost.result ≤ 4000 = omega (arith, c.passed-cost.ensures, few_of a.log.now l.y, take_le a.log.now own l.y, b.requires.placed.few) in
    omega (arith, s, f, l.invariant.1)

pub loop-y-preserved : goal.loop-y-preserved
loop-y-preserved c =
    let b = c in
    let a = b.args in
    let l = c.loop-y in
    let own = c.next_place-own.result in
    let e = c.passed-cost.ensures ∙ ap (λ n. count (λ a. a) (take own a.log.now) l.y - n) c.count_of-from.ensures in (
      l.invariant.0,
      rw add-one (ap₂ (λ m n. m + n) l.invariant.1 e ∙ sym (left_more a.log.now a.c.now own l.y)),
    )

pub returns : goal.returns
returns c =
    let b = c in
    let a = b.args in
    let l = c.loop-y in
    let own = c.next_place-own.result in
    let e : l.y ≡ a.k = omega arith in
    l.invariant.1 ∙ ap (left_below a.log.now a.c.now own) e ∙ ap (λ p. left_below a.log.now a.c.now p a.k) l.invariant.0
    ∙ left_all a.k a.log.now a.c.now a.x b.requires.placed.below_k b.requires.within.left

pub passed-cost-requires-clause-y_lt_k : goal.passed-cost-requires-clause-y_lt_k
passed-cost-requires-clause-y_lt_k c =
    let b = c in
    let a = b.args in
    let y = c.loop-y.y in
    let lt : y < a.k = omega arith in
    let e = c.count_of-to.ensures ∙ b.requires.within.all y lt in
    let n = count_field layout a.c.now a.x in (
      lt,
      e,
      subst (λ m. m ≤ c.count_of-to.result) (sym c.count_of-from.ensures) (subst (λ m. count_field layout a.c.now y ≤ m) (sym e) (b.requires.within.fits y lt)),
      subst (λ m. m ≤ length a.log.now) (sym c.loop-y.invariant.0)
          (place_inside a.log.now a.x n (lt_le n (count (λ a. a) a.log.now a.x) b.requires.within.left)),
    )
