-- What 14, 15 and 16 mean: the days of the events, the terms, and the term of each day.
use mathlib.Core.Path.{◌≡◌, refl, sym, ◌∙◌, ap, subst}
use mathlib.Core.Bool.{Bool, true, false, not, ◌||◌, true≢false}
use mathlib.Core.Logic.{◌⊎◌, ⊎_elim, ◌↔◌}
use mathlib.Core.List.{List, [], ◌∷◌, map-id}
use Prim.Native.Nat.{ℕ, zero, suc, ◌+◌, ◌-◌, ◌*◌, ◌%◌, ◌≤◌, ◌<◌}
use native.Mathlib.Omega.{arith}
use borrow.Author.Tests.{eqb-true, not-false, ltb-false, le-ltb}
use lib.Dec.{T, not_T, T_not, eqb, eqb_refl, ltb, ltb→lt, lt→ltb, leb, leb→le, le→leb}
use lib.ListN.{length, get_or, length-map}
use Rattle.profile.specs.Lists.{Mem, any, below, first_place}
use Rattle.theory.proofs.Counting.{at_map, length_range}
use Rattle.theory.proofs.FirstPlaces.{first_least, first_no, first_passes as first_at, first_yes}
use Rattle.profile.proofs.Lists.{all_at, all_of, any_at, any_of, below_at, below_of, both, either, fst_of, is_false, is_true, lt_or_le, or_left, or_right, snd_of, test}
use Rattle.terms.specs.Days.{day?}
use Rattle.terms.specs.Terms.{bad_day, bad_term, first_day, has_term?, in_term?, last_day, most_terms, no_term, rise?, rises?, term_count, term_of}

-- ---- tests

neither : (x y : Bool) → (x || y) ≡ false → (x ≡ false) × (y ≡ false)
neither true y e = absurd (true≢false e)
neither false y e = (refl, e)

nor : (x y : Bool) → x ≡ false → y ≡ false → (x || y) ≡ false
nor true y e q = e
nor false y e q = q

module _ {A : Type 0} (p : A → Bool) (l : List A) where
  all_pass : any (λ a. not (p a)) l ≡ false → (a : A) → Mem a l → T (p a)
  all_pass e a m = ⊎_elim (λ t. t) (λ t. absurd (subst T e (any_of (λ a. not (p a)) m t))) (test (p a))

  none_fails : ((a : A) → Mem a l → T (p a)) → any (λ a. not (p a)) l ≡ false
  none_fails h = is_false (any (λ a. not (p a)) l) (not_T (any (λ a. not (p a)) l) (λ t. let n = any_at (λ a. not (p a)) l t in T_not (p n.0) n.2 (h n.0 n.1)))

-- ---- 14

-- "one day for each event, … a Gregorian date"
pub days_good : (w days : List ℕ) → (bad_day w days ≡ false) ↔ ((length days ≡ length w) × ((d : ℕ) → Mem d days → T (day? d)))
days_good w days = (
  λ e.
      let n = neither (not (eqb (length days) (length w))) (any (λ d. not (day? d)) days) e in
      (eqb-true (length days) (length w) (not-false (eqb (length days) (length w)) n.0), all_pass day? days n.1),
  λ h.
      nor (not (eqb (length days) (length w))) (any (λ d. not (day? d)) days)
      (ap not (is_true (eqb (length days) (length w)) (subst (λ m. T (eqb (length days) m)) h.0 (eqb_refl (length days)))))
      (none_fails day? days h.1),
)

-- ---- 15

-- "1 to 12 terms. A term has a first and a last such day, both inside it; terms rise and do not overlap"
pub record GoodTerms (terms : List ℕ) : Type 0 where
  pub whole : length terms ≡ 2 * term_count terms
  pub least : 1 ≤ term_count terms
  pub most : term_count terms ≤ most_terms
  pub dates : (d : ℕ) → Mem d terms → T (day? d)
  pub ordered : (i : ℕ) → i < term_count terms → first_day terms i ≤ last_day terms i
  pub apart : (i : ℕ) → suc i < term_count terms → last_day terms i < first_day terms (suc i)

-- term i rises: its days in order, and apart from the next
rises_ordered : (terms : List ℕ) (i : ℕ) → T (rises? terms i) → first_day terms i ≤ last_day terms i
rises_ordered terms i t =
    leb→le (first_day terms i) (last_day terms i) (fst_of (leb (first_day terms i) (last_day terms i)) (leb (term_count terms) (suc i) || ltb (last_day terms i) (first_day terms (suc i))) t)

rises_apart : (terms : List ℕ) (i : ℕ) → T (rises? terms i) → suc i < term_count terms → last_day terms i < first_day terms (suc i)
rises_apart terms i t h = ⊎_elim (λ l. absurd (no_more (leb→le (term_count terms) (suc i) l))) (λ l. ltb→lt (last_day terms i) (first_day terms (suc i)) l)
    (either (leb (term_count terms) (suc i)) (ltb (last_day terms i) (first_day terms (suc i)))
    (snd_of (leb (first_day terms i) (last_day terms i)) (leb (term_count terms) (suc i) || ltb (last_day terms i) (first_day terms (suc i))) t))
  where
    no_more : term_count terms ≤ suc i → ⊥
    no_more l = omega (arith, h)

pub terms_good : (terms : List ℕ) → (bad_term terms ≡ false) ↔ GoodTerms terms
terms_good terms = (to, from)
  where
    n : ℕ
    n = term_count terms

    dates : Bool
    dates = any (λ d. not (day? d)) terms

    to : bad_term terms ≡ false → GoodTerms terms
    to e =
        let h₁ = neither (not (eqb (length terms % 2) 0)) (ltb n 1 || (ltb most_terms n || (dates || not (rise? terms)))) e in
        let h₂ = neither (ltb n 1) (ltb most_terms n || (dates || not (rise? terms))) h₁.1 in
        let h₃ = neither (ltb most_terms n) (dates || not (rise? terms)) h₂.1 in
        let h₄ = neither dates (not (rise? terms)) h₃.1 in
        let even : length terms % 2 ≡ 0 = eqb-true (length terms % 2) 0 (not-false (eqb (length terms % 2) 0) h₁.0) in
        let up : T (rise? terms) = subst T (sym (not-false (rise? terms) h₄.1)) tt in
        record {
          whole = omega (arith, even);
          least = ltb-false n 1 h₂.0;
          most = ltb-false most_terms n h₃.0;
          dates = all_pass day? terms h₄.0;
          ordered = λ i h. rises_ordered terms i (all_at (rises? terms) up (below_of n i h));
          apart = λ i h. rises_apart terms i (all_at (rises? terms) up (below_of n i (omega (arith, h)))) h;
        }

    from : GoodTerms terms → bad_term terms ≡ false
    from g =
        nor (not (eqb (length terms % 2) 0)) (ltb n 1 || (ltb most_terms n || (dates || not (rise? terms)))) (let z : length terms % 2 ≡ 0 = omega (arith, g.whole) in ap (λ m. not (eqb m 0)) z)
        (nor (ltb n 1) (ltb most_terms n || (dates || not (rise? terms))) (le-ltb n 1 g.least)
        (nor (ltb most_terms n) (dates || not (rise? terms)) (le-ltb most_terms n g.most)
        (nor dates (not (rise? terms)) (none_fails day? terms g.dates)
        (ap not (is_true (rise? terms) (all_of (rises? terms) (below n) (λ i m. rises i (below_at n i m))))))))
      where
        rises : (i : ℕ) → i < n → T (rises? terms i)
        rises i h = both (leb (first_day terms i) (last_day terms i)) (leb n (suc i) || ltb (last_day terms i) (first_day terms (suc i)))
            (le→leb (first_day terms i) (last_day terms i) (g.ordered i h))
            (⊎_elim (λ l. or_right (leb n (suc i)) (ltb (last_day terms i) (first_day terms (suc i))) (lt→ltb (last_day terms i) (first_day terms (suc i)) (g.apart i l)))
            (λ l. or_left (leb n (suc i)) (ltb (last_day terms i) (first_day terms (suc i))) (le→leb n (suc i) l))
            (lt_or_le (suc i) n))

-- ---- 16

below_length : (n : ℕ) → length (below n) ≡ n
below_length n = sym (length-map (below n) (λ x. x)) ∙ length_range (λ x. x) n 0

below_getd : (n x : ℕ) → x < n → get_or (below n) x 0 ≡ x
below_getd n x h = let z : 0 + x ≡ x = omega arith in ap (λ l. get_or l x 0) (sym (map-id (below n))) ∙ at_map (λ x. x) n 0 x h ∙ z

-- the first number below n that passes a test
module _ (p : ℕ → Bool) (n : ℕ) where
  pub first_inside : T (any p (below n)) → first_place p (below n) < n
  first_inside t =
      let m = any_at p (below n) t in
      let lt = below_at n m.0 m.1 in
      omega (arith, lt, first_least p (below n) m.0 (omega (arith, below_length n, lt)) (ap p (below_getd n m.0 lt) ∙ is_true (p m.0) m.2))

  pub first_passes : T (any p (below n)) → T (p (first_place p (below n)))
  first_passes t =
      let lt = first_inside t in
      let e = first_at p (below n) (omega (arith, below_length n, lt)) in
      subst T (sym (sym (ap p (below_getd n (first_place p (below n)) lt)) ∙ e)) tt

  pub first_before : (i : ℕ) → i < n → T (p i) → first_place p (below n) ≤ i
  first_before i h t = first_least p (below n) i (omega (arith, below_length n, h)) (ap p (below_getd n i h) ∙ is_true (p i) t)

  pub first_stands : first_place p (below n) < n → T (p (first_place p (below n)))
  first_stands lt =
      let e = first_at p (below n) (omega (arith, below_length n, lt)) in
      subst T (sym (sym (ap p (below_getd n (first_place p (below n)) lt)) ∙ e)) tt

  pub first_most : first_place p (below n) ≤ n
  first_most = omega (arith, first_length (below n), below_length n)
    where
      first_length : (l : List ℕ) → first_place p l ≤ length l
      first_length [] = omega arith
      first_length (a ∷ l) = go (p a) refl (first_length l)
        where
          go : (b : Bool) → p a ≡ b → first_place p l ≤ length l → first_place p (a ∷ l) ≤ length (a ∷ l)
          go true e h = omega (arith, first_yes p a l e)
          go false e h = omega (arith, first_no p a l e)

-- days of good terms rise: what is behind the last day of a term is in none of the terms up to it
module _ (terms : List ℕ) (g : GoodTerms terms) where
  last_before : (i j : ℕ) → suc i + j < term_count terms → last_day terms i < first_day terms (suc i + j)
  last_before i zero h = let e : suc i + 0 ≡ suc i = omega arith in subst (λ m. last_day terms i < first_day terms m) (sym e) (g.apart i (omega arith))
  last_before i (suc j) h =
      let e : suc i + suc j ≡ suc (suc i + j) = omega arith in
      let lt : suc (suc i + j) < term_count terms = omega arith in
      let a : first_day terms (suc i + j) ≤ last_day terms (suc i + j) = g.ordered (suc i + j) (omega (arith, lt)) in
      let b : last_day terms (suc i + j) < first_day terms (suc (suc i + j)) = g.apart (suc i + j) lt in
      let c : last_day terms i < first_day terms (suc i + j) = last_before i j (omega (arith, lt)) in
      subst (λ m. last_day terms i < first_day terms m) (sym e) (less-through c a b)
    where
      less-through : {x y z u : ℕ} → x < y → y ≤ z → z < u → x < u
      less-through p q r = omega arith

  in_at : (d i : ℕ) → T (in_term? terms d i) → (first_day terms i ≤ d) × (d ≤ last_day terms i)
  in_at d i t = (leb→le (first_day terms i) d (fst_of (leb (first_day terms i) d) (leb d (last_day terms i)) t), leb→le d (last_day terms i) (snd_of (leb (first_day terms i) d) (leb d (last_day terms i)) t))

  not_both : (d i j : ℕ) → i < j → j < term_count terms → T (in_term? terms d i) → T (in_term? terms d j) → ⊥
  not_both d i j lt h a b =
      let e : j ≡ suc i + (j - suc i) = omega arith in
      let q : last_day terms i < first_day terms j = subst (λ m. last_day terms i < first_day terms m) (sym e) (last_before i (j - suc i) (omega (arith, h))) in
      apart-days (in_at d i a).1 q (in_at d j b).0
    where
      apart-days : {x y z : ℕ} → x ≤ y → y < z → z ≤ x → ⊥
      apart-days p q r = omega arith

  -- a day is in at most one term
  pub one_term : (d i j : ℕ) → i < term_count terms → j < term_count terms → T (in_term? terms d i) → T (in_term? terms d j) → i ≡ j
  one_term d i j hi hj a b = ⊎_elim (λ lt. absurd (not_both d i j lt hj a b)) (λ le. ⊎_elim (λ lt. absurd (not_both d j i lt hi b a)) (λ le'. omega arith) (lt_or_le j i)) (lt_or_le i j)

  -- the term of a day is the one that it is in
  pub term_is : (d i : ℕ) → i < term_count terms → T (in_term? terms d i) → term_of terms d ≡ i
  term_is d i h t =
      let a = any_of (in_term? terms d) (below_of (term_count terms) i h) t in
      one_term d (term_of terms d) i (first_inside (in_term? terms d) (term_count terms) a) h (first_passes (in_term? terms d) (term_count terms) a) t

-- "when an event's day is in no term": it is not given exactly when each day is in some term
pub days_inside : (days terms : List ℕ) → (no_term days terms ≡ false) ↔ ((d : ℕ) → Mem d days → (i : ℕ) × (i < term_count terms) × T (in_term? terms d i))
days_inside days terms = (
  λ e d m.
      let n = any_at (in_term? terms d) (below (term_count terms)) (all_pass (has_term? terms) days e d m) in
      (n.0, below_at (term_count terms) n.0 n.1, n.2),
  λ h. none_fails (has_term? terms) days (λ d m. let n = h d m in any_of (in_term? terms d) (below_of (term_count terms) n.0 n.1) n.2),
)
