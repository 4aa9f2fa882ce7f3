use mathlib.Core.Path.{◌≡◌, refl, sym, ◌∙◌, ap, subst}
use Prim.Native.Nat.{◌-◌}
use Rattle.profile.specs.Tables.{count_field, layout}
use Rattle.gaps.proofs.Gaps.{Inside, events as events_below, events_one, no_event, one_event}
use mathlib.Core.Path.{ap₂}
use mathlib.Core.Logic.{⊎_elim}
use Prim.Native.Nat.{◌+◌}
use native.Mathlib.Numerals.{add-one}
use Rattle.profile.proofs.Lists.{lt_or_le}
use native.Mathlib.Omega.{arith}
use Rattle.gaps.proofs.gap_of.Goals as goal

pub loop-x-init : goal.loop-x-init
loop-x-init c = (omega arith, refl, λ y h. absurd (omega arith))

pub returns-then-q-p : goal.returns-then-q-p
returns-then-q-p c = let l = c.loop-x in (l.x, omega arith, omega (arith, c.if-q-p.true, c.count_of-q.ensures, c.count_of-p.ensures))

pub overflow_add-events : goal.overflow_add-events
overflow_add-events c = let l = c.loop-x in omega (arith, c.count_of-q.ensures)

pub loop-x-preserved : goal.loop-x-preserved
loop-x-preserved c =
    let a = c.args in
    let l = c.loop-x in
    let p = count_field layout a.c.now in
    let q = count_field layout a.e.now in (
      omega (arith, c.count_of-q.ensures),
      ap₂ (λ n d. n + d) l.invariant.1 (ap₂ (λ m n. m - n) c.count_of-q.ensures c.count_of-p.ensures) ∙ ap (events_below p q) (sym (add-one l.x)),
      λ y h. ⊎_elim (λ lt. l.invariant.2 y lt) (λ le. let e : y ≡ l.x = omega arith in omega (arith, c.if-q-p.false, c.count_of-q.ensures, c.count_of-p.ensures, ap p e, ap q e)) (lt_or_le y l.x),
    )

pub returns-in-Some : goal.returns-in-Some
returns-in-Some c =
    let a = c.args in
    let l = c.loop-x in
    let p = count_field layout a.c.now in
    let q = count_field layout a.e.now in
    let g = c.in-Some.ensures in
    let e : l.x ≡ a.k = omega arith in
    let one : events_below p q a.k ≡ 1 = sym (ap (events_below p q) e) ∙ sym l.invariant.1 ∙ c.if-events-eq1.true in
    let inside : Inside p q a.k = subst (λ n. Inside p q n) e l.invariant.2 in
    (g.0, events_one p q a.k c.in-Some.a inside one g.0 g.1)

pub returns-in-None : goal.returns-in-None
returns-in-None c =
    let a = c.args in
    let l = c.loop-x in
    let p = count_field layout a.c.now in
    let q = count_field layout a.e.now in
    let e : l.x ≡ a.k = omega arith in
    let one : events_below p q a.k ≡ 1 = sym (ap (events_below p q) e) ∙ sym l.invariant.1 ∙ c.if-events-eq1.true in
    let inside : Inside p q a.k = subst (λ n. Inside p q n) e l.invariant.2 in
    absurd (no_event p q a.k inside c.in-None.ensures one)

pub returns-else-events-eq1 : goal.returns-else-events-eq1
returns-else-events-eq1 c =
    let a = c.args in
    let l = c.loop-x in
    let p = count_field layout a.c.now in
    let q = count_field layout a.e.now in
    let e : l.x ≡ a.k = omega arith in
    λ x lt h. c.if-events-eq1.false (l.invariant.1 ∙ ap (events_below p q) e ∙ one_event p q a.k x lt h)
