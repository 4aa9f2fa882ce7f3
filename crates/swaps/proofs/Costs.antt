-- Swaps are what it costs to take the events one by one.
use mathlib.Core.Path.{◌≡◌, refl, sym, ◌∙◌, ap, subst, fun_ext}
use mathlib.Core.Bool.{Bool, true, false, not}
use mathlib.Core.Logic.{◌⊎◌, ⊎_elim}
use mathlib.Core.List.{List, [], ◌∷◌}
use Prim.Native.Nat.{ℕ, zero, suc, ◌+◌, ◌≤◌, ◌<◌}
use native.Mathlib.Omega.{arith}
use lib.Dec.{T, eqb, eqb→eq, eqb_refl, ltb, ltb→lt, lt→ltb}
use lib.ListN.{length, take}
use Rattle.profile.specs.Lists.{filter, first_place}
use Rattle.profile.specs.Prefixes.{count, less, more, one, unmarked}
use Rattle.profile.proofs.Lists.{filter_no, filter_yes, is_false, is_true, lt_or_le, test}
use Rattle.theory.proofs.Prefixes.{one_other, one_same, unmarked_suc, unmarked_zero}
use Rattle.swaps.specs.Swaps.{place_of, recorded, step_cost, swaps, taking, turned}

-- 1 where the test holds, else 0
abbrev pub if_so : Bool → ℕ
if_so true = 1
if_so false = 0

-- ---- counts with one more and one less

pub less_more : (c : ℕ → ℕ) (x : ℕ) → less (more c x) x ≡ c
less_more c x = fun_ext (λ y. omega arith)

less_other : (c : ℕ → ℕ) (x y : ℕ) {n : ℕ} → c y ≡ suc n → less (more c x) y ≡ more (less c y) x
less_other c x y {n} e = fun_ext (λ z. go z (eqb y z) refl)
  where
    go : (z : ℕ) (b : Bool) → eqb y z ≡ b → less (more c x) y z ≡ more (less c y) x z
    go z true q = rw q (omega (arith, ap c (eqb→eq y z (rw q tt))))
    go z false q = rw q (omega arith)

so_yes : (m n : ℕ) → m < n → if_so (ltb m n) ≡ 1
so_yes m n h = ap if_so (is_true (ltb m n) (lt→ltb m n h))

so_no : (m n : ℕ) → n ≤ m → if_so (ltb m n) ≡ 0
so_no m n h = ⊎_elim (λ t. absurd (omega (arith, ltb→lt m n t))) (λ t. ap if_so (is_false (ltb m n) t)) (test (ltb m n))

so_suc : (m n : ℕ) → if_so (ltb (suc m) (suc n)) ≡ if_so (ltb m n)
so_suc m n = ⊎_elim (λ h. so_yes (suc m) (suc n) (omega arith) ∙ sym (so_yes m n h)) (λ h. so_no (suc m) (suc n) (omega arith) ∙ sym (so_no m n h)) (lt_or_le m n)

module _ (may : ℕ → ℕ → Bool) (letter : ℕ → ℕ) where
  -- ---- the place of an event, case by case

  place_zero : (a : ℕ) (w : List ℕ) (x n : ℕ) → letter a ≡ x → n ≡ 0 → place_of letter (a ∷ w) x n ≡ 0
  place_zero a w x n e z = let q : eqb (letter a) x ≡ true = is_true (eqb (letter a) x) (subst (λ y. T (eqb (letter a) y)) e (eqb_refl (letter a))) in rw (q, z, place_of)

  place_suc : (a : ℕ) (w : List ℕ) (x n m : ℕ) → letter a ≡ x → n ≡ suc m → place_of letter (a ∷ w) x n ≡ suc (place_of letter w x m)
  place_suc a w x n m e z = let q : eqb (letter a) x ≡ true = is_true (eqb (letter a) x) (subst (λ y. T (eqb (letter a) y)) e (eqb_refl (letter a))) in rw (q, z, place_of)

  place_other : (a : ℕ) (w : List ℕ) (x n : ℕ) → eqb (letter a) x ≡ false → place_of letter (a ∷ w) x n ≡ suc (place_of letter w x n)
  place_other a w x n q = rw (q, place_of)

  abbrev left : ℕ → List ℕ → (ℕ → ℕ) → ℕ
  left p w c = length (unmarked letter (take p w) c)

  left_zero : (p a : ℕ) (w : List ℕ) (c : ℕ → ℕ) → c (letter a) ≡ 0 → left (suc p) (a ∷ w) c ≡ suc (left p w c)
  left_zero p a w c e = ap length (unmarked_zero may letter a (take p w) c e)

  left_suc : (p a : ℕ) (w : List ℕ) (c : ℕ → ℕ) {n : ℕ} → c (letter a) ≡ suc n → left (suc p) (a ∷ w) c ≡ left p w (less c (letter a))
  left_suc p a w c e = ap length (unmarked_suc may letter a (take p w) c e)

  -- what is taken of letter x leaves the next one; the event a is no x, or is the first x
  other : (a x : ℕ) → eqb (letter a) x ≡ false → (one x (letter a) ≡ 0) × (one (letter a) x ≡ 0)
  other a x q =
      let ne : (letter a ≡ x) → ⊥ = λ e. go (letter a) x q e in
      (one_other x (letter a) (λ e. ne (sym e)), one_other (letter a) x ne)
    where
      go : (m n : ℕ) → eqb m n ≡ false → m ≡ n → ⊥
      go m n q e = subst T q (subst (λ y. T (eqb m y)) e (eqb_refl m))

  -- the next event of letter x is one of those not yet taken: before place p, where it stands there
  pub left_more : (p : ℕ) (w : List ℕ) (c : ℕ → ℕ) (x : ℕ) → c x < count letter w x → left p w c ≡ if_so (ltb (place_of letter w x (c x)) p) + left p w (more c x)
  left_more p [] c x h = absurd (omega arith)
  left_more p (a ∷ w) c x h = go p (eqb (letter a) x) refl (c (letter a)) refl (λ q d k. left_more q w d x k)
    where
      go : (p : ℕ) (b : Bool) → eqb (letter a) x ≡ b → (n : ℕ) → c (letter a) ≡ n
          → ((q : ℕ) (d : ℕ → ℕ) → d x < count letter w x → left q w d ≡ if_so (ltb (place_of letter w x (d x)) q) + left q w (more d x))
          → left p (a ∷ w) c ≡ if_so (ltb (place_of letter (a ∷ w) x (c x)) p) + left p (a ∷ w) (more c x)
      go zero b q n e ih = omega (arith, so_no (place_of letter (a ∷ w) x (c x)) 0 (omega arith))
      go (suc p) true q zero e ih =
          let s : letter a ≡ x = eqb→eq (letter a) x (rw q tt) in
          let m : more c x (letter a) ≡ 1 = omega (arith, e, ap (one x) s, one_same x) in
          let z = place_zero a w x (c x) s (sym (ap c s) ∙ e) in
          omega (arith, left_zero p a w c e, left_suc p a w (more c x) m, ap (left p w) (ap (less (more c x)) s ∙ less_more c x), so_yes (place_of letter (a ∷ w) x (c x)) (suc p) (omega (arith, z)))
      go (suc p) true q (suc n) e ih =
          let s : letter a ≡ x = eqb→eq (letter a) x (rw q tt) in
          let m : more c x (letter a) ≡ suc (suc n) = omega (arith, e, ap (one x) s, one_same x) in
          let f : c x ≡ suc n = sym (ap c s) ∙ e in
          let d : less c x x ≡ n = omega (arith, f, one_same x) in
          let k = ih p (less c x) (omega (arith, d, f, h, ap (λ y. one y x) s, one_same x)) in
          omega (
            arith,
            left_suc p a w c e,
            left_suc p a w (more c x) m,
            ap (λ y. left p w (less c y)) s,
            ap (λ y. left p w (less (more c x) y)) s,
            ap (left p w) (less_other c x x f),
            k,
            ap (λ i. if_so (ltb i (suc p))) (place_suc a w x (c x) n s f),
            ap (λ i. if_so (ltb (place_of letter w x i) p)) d,
            so_suc (place_of letter w x n) p,
          )
      go (suc p) false q zero e ih =
          let o = other a x q in
          let m : more c x (letter a) ≡ 0 = omega (arith, e, o.0) in
          omega (
            arith,
            left_zero p a w c e,
            left_zero p a w (more c x) m,
            ih p c (omega (arith, h, o.1)),
            ap (λ i. if_so (ltb i (suc p))) (place_other a w x (c x) q),
            so_suc (place_of letter w x (c x)) p,
          )
      go (suc p) false q (suc n) e ih =
          let o = other a x q in
          let m : more c x (letter a) ≡ suc n = omega (arith, e, o.0) in
          let d : less c (letter a) x ≡ c x = omega (arith, o.1) in
          omega (
            arith,
            left_suc p a w c e,
            left_suc p a w (more c x) m,
            ap (left p w) (less_other c x (letter a) e),
            ih p (less c (letter a)) (omega (arith, h, o.1, d)),
            ap (λ i. if_so (ltb i (suc p))) (place_other a w x (c x) q),
            ap (λ i. if_so (ltb (place_of letter w x i) p)) d,
            so_suc (place_of letter w x (c x)) p,
          )

  -- where all are taken none is left, before any place
  pub left_none : (p : ℕ) (w : List ℕ) (c : ℕ → ℕ) → ((x : ℕ) → c x ≡ count letter w x) → left p w c ≡ 0
  left_none p [] c h = go p
    where
      go : (p : ℕ) → left p [] c ≡ 0
      go zero = refl
      go (suc p) = refl
  left_none zero (a ∷ w) c h = refl
  left_none (suc p) (a ∷ w) c h =
      let e : c (letter a) ≡ suc (count letter w (letter a)) = omega (arith, h (letter a), one_same (letter a)) in
      left_suc p a w c e ∙ left_none p w (less c (letter a)) (λ x. omega (arith, h x))

  -- the events of v that were recorded before place p, where v has all that are not yet taken
  pub recorded_before : (p : ℕ) (w : List ℕ) (c : ℕ → ℕ) (v : List ℕ) → ((x : ℕ) → c x + count (λ a. a) v x ≡ count letter w x)
      → length (filter (λ j. ltb j p) (recorded letter w c v)) ≡ left p w c
  recorded_before p w c [] h = sym (left_none p w c (λ x. omega (arith, h x)))
  recorded_before p w c (x ∷ v) h =
      let k = left_more p w c x (omega (arith, h x, one_same x)) in
      let ih = recorded_before p w (more c x) v (λ y. omega (arith, h y)) in
      let i = place_of letter w x (c x) in
      ⊎_elim (λ t. omega (arith, k, ih, ap length (filter_yes (λ j. ltb j p) i (recorded letter w (more c x) v) t), ap if_so (is_true (ltb i p) t)))
      (λ t. omega (arith, k, ih, ap length (filter_no (λ j. ltb j p) i (recorded letter w (more c x) v) t), ap if_so (is_false (ltb i p) t))) (test (ltb i p))

  -- ---- the cost of a step is the number of those before it

  first_yes : (x a : ℕ) (l : List ℕ) → letter a ≡ x → first_place (λ b. eqb (letter b) x) (a ∷ l) ≡ 0
  first_yes x a l e = rw (is_true (eqb (letter a) x) (subst (λ y. T (eqb (letter a) y)) e (eqb_refl (letter a))), first_place)

  first_no : (x a : ℕ) (l : List ℕ) → eqb (letter a) x ≡ false → first_place (λ b. eqb (letter b) x) (a ∷ l) ≡ suc (first_place (λ b. eqb (letter b) x) l)
  first_no x a l e = rw (e, first_place)

  pub step_left : (w : List ℕ) (c : ℕ → ℕ) (x : ℕ) → c x < count letter w x → step_cost letter w c x ≡ left (place_of letter w x (c x)) w c
  step_left [] c x h = absurd (omega arith)
  step_left (a ∷ w) c x h = go (eqb (letter a) x) refl (c (letter a)) refl (λ d k. step_left w d x k)
    where
      go : (b : Bool) → eqb (letter a) x ≡ b → (n : ℕ) → c (letter a) ≡ n
          → ((d : ℕ → ℕ) → d x < count letter w x → step_cost letter w d x ≡ left (place_of letter w x (d x)) w d)
          → step_cost letter (a ∷ w) c x ≡ left (place_of letter (a ∷ w) x (c x)) (a ∷ w) c
      go true q zero e ih =
          let s : letter a ≡ x = eqb→eq (letter a) x (rw q tt) in
          omega (
            arith,
            ap (first_place (λ b. eqb (letter b) x)) (unmarked_zero may letter a w c e),
            first_yes x a (unmarked letter w c) s,
            ap (λ i. left i (a ∷ w) c) (place_zero a w x (c x) s (sym (ap c s) ∙ e)),
          )
      go true q (suc n) e ih =
          let s : letter a ≡ x = eqb→eq (letter a) x (rw q tt) in
          let f : c x ≡ suc n = sym (ap c s) ∙ e in
          let d : less c (letter a) x ≡ n = omega (arith, f, ap (λ y. one y x) s, one_same x) in
          omega (
            arith,
            ap (first_place (λ b. eqb (letter b) x)) (unmarked_suc may letter a w c e),
            ih (less c (letter a)) (omega (arith, d, f, h, ap (λ y. one y x) s, one_same x)),
            ap (λ i. left (place_of letter w x i) w (less c (letter a))) d,
            ap (λ i. left i (a ∷ w) c) (place_suc a w x (c x) n s f),
            left_suc (place_of letter w x n) a w c e,
          )
      go false q zero e ih =
          let o = other a x q in
          omega (
            arith,
            ap (first_place (λ b. eqb (letter b) x)) (unmarked_zero may letter a w c e),
            first_no x a (unmarked letter w c) q,
            ih c (omega (arith, h, o.1)),
            ap (λ i. left i (a ∷ w) c) (place_other a w x (c x) q),
            left_zero (place_of letter w x (c x)) a w c e,
          )
      go false q (suc n) e ih =
          let o = other a x q in
          let d : less c (letter a) x ≡ c x = omega (arith, o.1) in
          omega (
            arith,
            ap (first_place (λ b. eqb (letter b) x)) (unmarked_suc may letter a w c e),
            ih (less c (letter a)) (omega (arith, h, o.1, d)),
            ap (λ i. left (place_of letter w x i) w (less c (letter a))) d,
            ap (λ i. left i (a ∷ w) c) (place_other a w x (c x) q),
            left_suc (place_of letter w x (c x)) a w c e,
          )

  -- before its own place nothing changes when an event is taken
  left_same : (w : List ℕ) (c : ℕ → ℕ) (x : ℕ) → c x < count letter w x
      → left (place_of letter w x (c x)) w (more c x) ≡ left (place_of letter w x (c x)) w c
  left_same w c x h =
      let i = place_of letter w x (c x) in omega (arith, left_more i w c x h, so_no i i (omega arith))

  -- swaps are the cost of taking the events one by one, whatever was taken before
  pub turned_taking : (w : List ℕ) (c : ℕ → ℕ) (v : List ℕ) → ((x : ℕ) → c x + count (λ a. a) v x ≡ count letter w x)
      → turned (recorded letter w c v) ≡ taking letter w c v
  turned_taking w c [] h = refl
  turned_taking w c (x ∷ v) h =
      let b : c x < count letter w x = omega (arith, h x, one_same x) in
      let r : (y : ℕ) → more c x y + count (λ a. a) v y ≡ count letter w y = λ y. omega (arith, h y) in
      let i = place_of letter w x (c x) in
      omega (arith, recorded_before i w (more c x) v r, left_same w c x b, step_left w c x b, turned_taking w (more c x) v r)

  pub swaps_taking : (w v : List ℕ) → ((x : ℕ) → count (λ a. a) v x ≡ count letter w x) → swaps letter w v ≡ taking letter w (λ x. 0) v
  swaps_taking w v h = turned_taking w (λ x. 0) v (λ x. omega (arith, h x))
