-- The cost of a step, letter by letter: of each letter, how many events stand before the place and are not yet taken.
use mathlib.Core.Path.{◌≡◌, refl, sym, ◌∙◌, ap, subst}
use mathlib.Core.Bool.{Bool, false, not}
use mathlib.Core.Logic.{◌⊎◌, inl, inr, ⊎_elim}
use mathlib.Core.List.{List, [], ◌∷◌, ◌++◌}
use Prim.Native.Nat.{ℕ, zero, suc, ◌+◌, ◌-◌, ◌*◌, ◌≤◌, ◌<◌}
use native.Mathlib.Omega.{arith}
use lib.Dec.{T, T_not, eqb, eqb→eq, eqb_refl, ltb, ltb→lt}
use lib.ListN.{length, get_or, take}
use Rattle.profile.specs.Prefixes.{count, less, one, unmarked}
use Rattle.profile.specs.Tables.{count_field, layout}
use Rattle.profile.specs.Traces.{letters_below}
use Rattle.profile.proofs.Lists.{both, fst_of, is_false, is_true, lt_or_le, mem_getd, snd_of, test}
use Rattle.theory.proofs.Prefixes.{count_le, one_cases, one_other, one_same, unmarked_suc, unmarked_zero}
use Rattle.places.specs.Places.{place_table, places_from, places_of}
use Rattle.places.proofs.Places.{place_found, places_length, places_no, places_within, places_yes}
use Rattle.swaps.specs.Swaps.{place_of, step_cost}
use Rattle.swaps.proofs.Costs.{step_left}
use Rattle.stepcost.specs.StepCosts.{Placed}

never : ℕ → ℕ → Bool
never a b = false

-- ---- an event of y stands before place p exactly when it is one of the first so many

before_both : (w : List ℕ) (o y i p : ℕ) → i ≤ count (λ a. a) w y → p ≤ length w
    → (get_or (places_from o y w) i 0 < o + p → i < count (λ a. a) (take p w) y) × (i < count (λ a. a) (take p w) y → get_or (places_from o y w) i 0 < o + p)
before_both [] o y zero zero h k = (λ l. absurd (omega (arith, l)), λ l. absurd (omega (arith, l)))
before_both [] o y zero (suc p) h k = absurd (omega (arith, k))
before_both [] o y (suc i) p h k = absurd (omega (arith, h))
before_both (a ∷ w) o y i zero h k =
    let z = (places_within o y (a ∷ w) (mem_getd (places_from o y (a ∷ w)) i 0 (omega (arith, h, places_length o y (a ∷ w))))).0 in
    (λ l. absurd (omega (arith, l, z)), λ l. absurd (omega (arith, l)))
before_both (a ∷ w) o y i (suc p) h k = go i h (test (eqb a y)) (λ j g. before_both w (suc o) y j p g (omega (arith, k)))
  where
    go : (i : ℕ) → i ≤ count (λ a. a) (a ∷ w) y → T (eqb a y) ⊎ T (not (eqb a y))
        → ((j : ℕ) → j ≤ count (λ a. a) w y
        → (get_or (places_from (suc o) y w) j 0 < suc o + p → j < count (λ a. a) (take p w) y) × (j < count (λ a. a) (take p w) y → get_or (places_from (suc o) y w) j 0 < suc o + p))
        → (get_or (places_from o y (a ∷ w)) i 0 < o + suc p → i < count (λ a. a) (a ∷ take p w) y) × (i < count (λ a. a) (a ∷ take p w) y → get_or (places_from o y (a ∷ w)) i 0 < o + suc p)
    go zero h (inl t) ih =
        let e : a ≡ y = eqb→eq a y t in
        let u : one a y ≡ 1 = subst (λ z. one a z ≡ 1) e (one_same a) in
        let g = ap (λ l. get_or l 0 0) (places_yes o y a w t) in
        (λ l. omega (arith, u), λ l. omega (arith, g))
    go (suc i) h (inl t) ih =
        let e : a ≡ y = eqb→eq a y t in
        let u : one a y ≡ 1 = subst (λ z. one a z ≡ 1) e (one_same a) in
        let g = ap (λ l. get_or l (suc i) 0) (places_yes o y a w t) in
        let n = ih i (omega (arith, h, u)) in
        (λ l. omega (arith, u, n.0 (omega (arith, l, g))), λ l. omega (arith, g, n.1 (omega (arith, l, u))))
    go i h (inr t) ih =
        let u : one a y ≡ 0 = one_other a y (λ e. T_not (eqb a y) t (subst (λ z. T (eqb a z)) e (eqb_refl a))) in
        let g = ap (λ l. get_or l i 0) (places_no o y a w t) in
        let n = ih i (omega (arith, h, u)) in
        (λ l. omega (arith, u, n.0 (omega (arith, l, g))), λ l. omega (arith, g, n.1 (omega (arith, l, u))))

pub before_of : (w : List ℕ) (y i p : ℕ) → i ≤ count (λ a. a) w y → p ≤ length w → get_or (places_of w y) i 0 < p → i < count (λ a. a) (take p w) y
before_of w y i p h k l = (before_both w 0 y i p h k).0 (omega (arith, l))

pub not_before_of : (w : List ℕ) (y i p : ℕ) → i ≤ count (λ a. a) w y → p ≤ length w → p ≤ get_or (places_of w y) i 0 → count (λ a. a) (take p w) y ≤ i
not_before_of w y i p h k l = ⊎_elim (λ lt. absurd (omega (arith, l, (before_both w 0 y i p h k).1 lt))) (λ le. le) (lt_or_le i (count (λ a. a) (take p w) y))

-- of no letter are there more before a place
pub take_le : (w : List ℕ) (p y : ℕ) → count (λ a. a) (take p w) y ≤ count (λ a. a) w y
take_le [] zero y = omega arith
take_le [] (suc p) y = omega arith
take_le (a ∷ w) zero y = omega arith
take_le (a ∷ w) (suc p) y = omega (arith, take_le w p y)

pub few_of : (w : List ℕ) (y : ℕ) → count (λ a. a) w y ≤ length w
few_of w y = count_le never (λ a. a) w y

-- what `next_place` tells
pub placed_at : (k : ℕ) (w starts places : List ℕ) (y n : ℕ) → Placed k w starts places → y < k → n ≤ count (λ a. a) w y
    → get_or places (get_or starts y 0 + n) 0 ≡ get_or (places_of w y) n 0
placed_at k w starts places y n h lt le =
    ap (λ l. get_or l (get_or starts y 0 + n) 0) h.places_are
    ∙ ap (λ l. get_or (place_table k w ++ h.places_rest) (get_or l y 0 + n) 0) h.starts_are
    ∙ place_found k w h.starts_rest h.places_rest y n lt le

-- the place of an event, both ways
place_both : (w : List ℕ) (o x n : ℕ) → n < count (λ a. a) w x → get_or (places_from o x w) n 0 ≡ o + place_of (λ a. a) w x n
place_both [] o x n h = absurd (omega (arith, h))
place_both (a ∷ w) o x n h = go n h (test (eqb a x)) (λ j g. place_both w (suc o) x j g)
  where
    go : (n : ℕ) → n < count (λ a. a) (a ∷ w) x → T (eqb a x) ⊎ T (not (eqb a x))
        → ((j : ℕ) → j < count (λ a. a) w x → get_or (places_from (suc o) x w) j 0 ≡ suc o + place_of (λ a. a) w x j)
        → get_or (places_from o x (a ∷ w)) n 0 ≡ o + place_of (λ a. a) (a ∷ w) x n
    go zero h (inl t) ih =
        let z : place_of (λ a. a) (a ∷ w) x 0 ≡ 0 = rw (is_true (eqb a x) t, place_of) in
        omega (arith, z, ap (λ l. get_or l 0 0) (places_yes o x a w t))
    go (suc n) h (inl t) ih =
        let e : a ≡ x = eqb→eq a x t in
        let u : one a x ≡ 1 = subst (λ z. one a z ≡ 1) e (one_same a) in
        let z : place_of (λ a. a) (a ∷ w) x (suc n) ≡ suc (place_of (λ a. a) w x n) = rw (is_true (eqb a x) t, place_of) in
        omega (arith, z, ap (λ l. get_or l (suc n) 0) (places_yes o x a w t), ih n (omega (arith, h, u)))
    go n h (inr t) ih =
        let u : one a x ≡ 0 = one_other a x (λ e. T_not (eqb a x) t (subst (λ z. T (eqb a z)) e (eqb_refl a))) in
        let z : place_of (λ a. a) (a ∷ w) x n ≡ suc (place_of (λ a. a) w x n) = rw (is_false (eqb a x) t, place_of) in
        omega (arith, z, ap (λ l. get_or l n 0) (places_no o x a w t), ih n (omega (arith, h, u)))

pub place_is : (w : List ℕ) (x n : ℕ) → n < count (λ a. a) w x → get_or (places_of w x) n 0 ≡ place_of (λ a. a) w x n
place_is w x n h = omega (arith, place_both w 0 x n h)

pub place_inside : (w : List ℕ) (x n : ℕ) → n ≤ count (λ a. a) w x → get_or (places_of w x) n 0 ≤ length w
place_inside w x n h =
    let z = (places_within 0 x w (mem_getd (places_from 0 x w) n 0 (omega (arith, h, places_length 0 x w)))).1 in omega (arith, z)

-- ---- sums over letters

abbrev pub sum_below : (ℕ → ℕ) → ℕ → ℕ
sum_below f zero = 0
sum_below f (suc n) = sum_below f n + f n

pub sum_bound : (f : ℕ → ℕ) (b n : ℕ) → ((y : ℕ) → f y ≤ b) → sum_below f n ≤ b * n
sum_bound f b zero h = omega arith
sum_bound f b (suc n) h = omega (arith, sum_bound f b n h, h n)

sum_same : (f g : ℕ → ℕ) (n : ℕ) → ((y : ℕ) → f y ≡ g y) → sum_below f n ≡ sum_below g n
sum_same f g zero h = refl
sum_same f g (suc n) h = omega (arith, sum_same f g n h, h n)

sum_none : (f g : ℕ → ℕ) (a n : ℕ) → n ≤ a → ((y : ℕ) → f y ≡ one a y + g y) → sum_below f n ≡ sum_below g n
sum_none f g a zero l h = refl
sum_none f g a (suc n) l h = omega (arith, sum_none f g a n (omega arith) h, h n, one_other a n (λ e. omega (arith, e, l)))

sum_one : (f g : ℕ → ℕ) (a n : ℕ) → a < n → ((y : ℕ) → f y ≡ one a y + g y) → sum_below f n ≡ suc (sum_below g n)
sum_one f g a zero l h = absurd (omega arith)
sum_one f g a (suc n) l h = ⊎_elim
    (λ lt. omega (arith, sum_one f g a n lt h, h n, one_other a n (λ e. omega (arith, e, lt))))
    (λ le.
    let e : a ≡ n = omega (arith, l, le) in
    omega (arith, sum_none f g a n le h, h n, subst (λ z. one a z ≡ 1) e (one_same a)))
    (lt_or_le a n)

-- the events not yet taken, letter by letter
pub unmarked_sum : (k : ℕ) (l : List ℕ) (c : ℕ → ℕ) → T (letters_below (λ a. a) k l)
    → length (unmarked (λ a. a) l c) ≡ sum_below (λ y. count (λ a. a) l y - c y) k
unmarked_sum k [] c h = sym (zeros k)
  where
    zeros : (k : ℕ) → sum_below (λ y. 0 - c y) k ≡ 0
    zeros zero = refl
    zeros (suc k) = omega (arith, zeros k)
unmarked_sum k (a ∷ l) c h = go (c a) refl (λ d. unmarked_sum k l d (snd_of (ltb a k) (letters_below (λ a. a) k l) h))
  where
    go : (n : ℕ) → c a ≡ n → ((d : ℕ → ℕ) → length (unmarked (λ a. a) l d) ≡ sum_below (λ y. count (λ a. a) l y - d y) k)
        → length (unmarked (λ a. a) (a ∷ l) c) ≡ sum_below (λ y. count (λ a. a) (a ∷ l) y - c y) k
    go zero e ih =
        let f : ℕ → ℕ = λ y. count (λ a. a) (a ∷ l) y - c y in
        let g : ℕ → ℕ = λ y. count (λ a. a) l y - c y in
        let s = sum_one f g a k (ltb→lt a k (fst_of (ltb a k) (letters_below (λ a. a) k l) h)) (λ y. ⊎_elim
        (λ q. omega (arith, sym (ap c q) ∙ e, subst (λ z. one a z ≡ 1) q (one_same a))) (λ z. omega (arith, z)) (one_cases a y)) in
        omega (arith, ap length (unmarked_zero never (λ a. a) a l c e), ih c, s)
    go (suc n) e ih =
        let f : ℕ → ℕ = λ y. count (λ a. a) (a ∷ l) y - c y in
        let g : ℕ → ℕ = λ y. count (λ a. a) l y - less c a y in
        let s = sum_same f g k (λ y. ⊎_elim
        (λ q. omega (arith, sym (ap c q) ∙ e, subst (λ z. one a z ≡ 1) q (one_same a))) (λ z. omega (arith, z)) (one_cases a y)) in
        omega (arith, ap length (unmarked_suc never (λ a. a) a l c e), ih (less c a), s)

take_below : (k : ℕ) (w : List ℕ) (p : ℕ) → T (letters_below (λ a. a) k w) → T (letters_below (λ a. a) k (take p w))
take_below k [] zero h = tt
take_below k [] (suc p) h = tt
take_below k (a ∷ w) zero h = tt
take_below k (a ∷ w) (suc p) h =
    both (ltb a k) (letters_below (λ a. a) k (take p w)) (fst_of (ltb a k) (letters_below (λ a. a) k w) h) (take_below k w p (snd_of (ltb a k) (letters_below (λ a. a) k w) h))

-- the cost of a step is the sum, over the letters, of what is not yet taken before its place
pub step_sum : (k : ℕ) (w : List ℕ) (c : ℕ → ℕ) (x : ℕ) → T (letters_below (λ a. a) k w) → c x < count (λ a. a) w x
    → step_cost (λ a. a) w c x ≡ sum_below (λ y. count (λ a. a) (take (get_or (places_of w x) (c x) 0) w) y - c y) k
step_sum k w c x h l =
    step_left never (λ a. a) w c x l
    ∙ ap (λ p. length (unmarked (λ a. a) (take p w) c)) (sym (place_is w x (c x) l))
    ∙ unmarked_sum k (take (get_or (places_of w x) (c x) 0) w) c (take_below k w (get_or (places_of w x) (c x) 0) h)

pub lt_le : (m n : ℕ) → m < n → m ≤ n
lt_le m n h = omega (arith, h)

-- of the letters below y, how many events stand before the place p and are not yet taken, where c holds the counts
pub left_below : List ℕ → List ℕ → ℕ → ℕ → ℕ
left_below w c p y = sum_below (λ z. count (λ a. a) (take p w) z - count_field layout c z) y

pub left_none : (w c : List ℕ) (p : ℕ) → left_below w c p 0 ≡ 0
unfolding left_below
left_none w c p = refl

pub left_more : (w c : List ℕ) (p y : ℕ) → left_below w c p (suc y) ≡ left_below w c p y + (count (λ a. a) (take p w) y - count_field layout c y)
unfolding left_below
left_more w c p y = refl

pub left_small : (w c : List ℕ) (p y : ℕ) → length w ≤ 4000 → y ≤ 16 → left_below w c p y ≤ 64000
unfolding left_below
left_small w c p y h k =
    let b = sum_bound (λ z. count (λ a. a) (take p w) z - count_field layout c z) 4000 y (λ z. sub_small (count (λ a. a) (take p w) z) (count_field layout c z) (omega (arith, h, few_of w z, take_le w p z))) in
    omega (arith, b, k)
  where
    sub_small : (m n : ℕ) → m ≤ 4000 → m - n ≤ 4000
    sub_small m n h = omega (arith, h)

pub left_all : (k : ℕ) (w c : List ℕ) (x : ℕ) → T (letters_below (λ a. a) k w) → count_field layout c x < count (λ a. a) w x
    → left_below w c (get_or (places_of w x) (count_field layout c x) 0) k ≡ step_cost (λ a. a) w (count_field layout c) x
unfolding left_below
left_all k w c x h l = sym (step_sum k w (count_field layout c) x h l)
