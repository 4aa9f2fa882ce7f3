-- The prefixes by their places in the table: what lies between two of them, and which are the first and the last.
use mathlib.Core.Path.{◌≡◌, refl, sym, ◌∙◌, ap, subst, fun_ext}
use mathlib.Core.Bool.{Bool}
use mathlib.Core.Logic.{⊎_elim, ◌↔◌, ◌≢◌}
use mathlib.Core.List.{List, [], ◌∷◌, ◌++◌, map}
use Prim.Native.Nat.{ℕ, suc, ◌+◌, ◌≤◌, ◌<◌}
use native.Mathlib.Omega.{arith}
use lib.Dec.{T}
use lib.ListN.{length, get_or, get_or-eq_default}
use Rattle.profile.specs.Lists.{below}
use Rattle.profile.specs.Traces.{letters_below}
use Rattle.profile.specs.Prefixes.{IsPrefix, at, by_total, count, marked, more, total, unmarked}
use Rattle.profile.proofs.Lists.{lt_or_le, mem_getd, mem_place}
use Rattle.profile.proofs.Traces.{pick_length, takes_length}
use Rattle.theory.proofs.Counting.{at_map, count_above, length_range, prefixes_at, prefixes_of}
use Rattle.theory.proofs.Levels.{by_total_at, by_total_of, le_total, total_prefix}
use Rattle.theory.proofs.Prefixes.{count_front, count_of_prefix, front_all, front_length, front_marked, front_none, front_of_prefix, one_cases, one_same, pick_of_more, prefix_of_front}
use Rattle.theory.proofs.RecordOrder.{by_total_sorted, ranked_getd, ranked_total}
use Rattle.grammars.specs.Grammars.{Grammar}
use Rattle.grammars.proofs.Spans.{Between, Spans, between_split, derived_some, spans_join, spans_letter}

-- counts of total 0 are all 0
none_at : (c : List ℕ) → total c ≡ 0 → (x : ℕ) → at c x ≡ 0
none_at c e x = ⊎_elim (λ h. omega (arith, le_total (mem_getd c x 0 h))) (λ h. get_or-eq_default c 0 h) (lt_or_le x (length c))

module _ (may : ℕ → ℕ → Bool) (k : ℕ) (w : List ℕ) where
  -- the prefixes in the order of the table, and the counts of the one at place i
  abbrev pub listed : List (List ℕ)
  listed = by_total may (λ a. a) k w

  abbrev pub counts_of : ℕ → ℕ → ℕ
  counts_of i = at (get_or listed i [])

  abbrev pub total_of : ℕ → ℕ
  total_of i = total (get_or listed i [])

module _ (may : ℕ → ℕ → Bool) (distinct : (a b : ℕ) → T (may a b) → a ≢ b) (k : ℕ) (w : List ℕ) (letters : T (letters_below (λ a. a) k w)) where
  pub prefix_mem : (i : ℕ) → i < length (listed may k w) → (length (get_or (listed may k w) i []) ≡ k) × IsPrefix may (λ a. a) w (counts_of may k w i)
  prefix_mem i h =
      let c = get_or (listed may k w) i [] in
      prefixes_at may (λ a. a) k w c letters (by_total_at may (λ a. a) k w c (mem_getd (listed may k w) i [] h))

  -- every prefix has a place
  pub place_of : {f : ℕ → ℕ} → IsPrefix may (λ a. a) w f → (i : ℕ) × (i < length (listed may k w)) × (counts_of may k w i ≡ f)
  place_of {f} p =
      let c = map f (below k) in
      let e : at c ≡ f = fun_ext (λ x. ⊎_elim (λ h. at_map f k 0 x h ∙ ap f (add_none x))
      (λ h. get_or-eq_default c 0 (omega (arith, length_range f k 0)) ∙ omega (arith, p.fits x, count_above (λ a. a) k w x letters h)) (lt_or_le x k)) in
      let m = mem_place [] (by_total_of may (λ a. a) k w c letters (prefixes_of may (λ a. a) k w c (length_range f k 0) (subst (IsPrefix may (λ a. a) w) (sym e) p))) in
      (m.0, m.1, ap at m.2 ∙ e)
    where
      add_none : (x : ℕ) → 0 + x ≡ x
      add_none x = omega arith

  -- as many events are marked as the total says
  pub total_marked : (i : ℕ) → i < length (listed may k w) → (total_of may k w i ≡ length (marked (λ a. a) w (counts_of may k w i)))
      × (length w ≡ length (marked (λ a. a) w (counts_of may k w i)) + length (unmarked (λ a. a) w (counts_of may k w i)))
  total_marked i h =
      let c = get_or (listed may k w) i [] in (
        total_prefix may (λ a. a) k w c letters (by_total_at may (λ a. a) k w c (mem_getd (listed may k w) i [] h)),
        front_length may (front_of_prefix may (λ a. a) (prefix_mem i h).1),
      )

  -- totals do not fall, so a smaller total stands before
  totals_rise : (i j : ℕ) → i ≤ j → j < length (listed may k w) → total_of may k w i ≤ total_of may k w j
  totals_rise i j h l =
      let C = listed may k w in
      ⊎_elim (λ z. ranked_total (get_or C i []) (get_or C j []) (ranked_getd C (by_total_sorted may (λ a. a) k w) i j z l))
      (λ z. let e : i ≡ j = omega arith in omega (arith, ap (total_of may k w) e)) (lt_or_le i j)

  pub total_places : (i j : ℕ) → i < length (listed may k w) → j < length (listed may k w) → total_of may k w i < total_of may k w j → i < j
  total_places i j hi hj h = ⊎_elim (λ l. l) (λ l. absurd (omega (arith, totals_rise j i l hi))) (lt_or_le i j)

  -- one letter more
  pub letter_total : (i j a : ℕ) → i < length (listed may k w) → j < length (listed may k w) → counts_of may k w j ≡ more (counts_of may k w i) a
      → total_of may k w j ≡ suc (total_of may k w i)
  letter_total i j a hi hj e =
      let p = pick_of_more may (λ a. a) distinct (prefix_mem i hi).1 (subst (IsPrefix may (λ a. a) w) e (prefix_mem j hj).1) in
      let l = pick_length may p.2 in
      let r = ap (λ f. length (unmarked (λ a. a) w f)) e in
      omega (arith, l, r, (total_marked i hi).0, (total_marked i hi).1, (total_marked j hj).0, (total_marked j hj).1)

  -- the first place has the empty prefix
  pub first_place_none : 0 < length (listed may k w) → counts_of may k w 0 ≡ (λ x. 0)
  first_place_none h =
      let m = place_of (prefix_of_front may (λ a. a) distinct (front_none may w)) in
      let z : total_of may k w m.0 ≡ 0 = total-zero m.0 m.1 m.2 in
      fun_ext (none_at (get_or (listed may k w) 0 []) (omega (arith, z, totals_rise 0 m.0 (omega arith) m.1)))
    where
      total-zero : (i : ℕ) → i < length (listed may k w) → counts_of may k w i ≡ count (λ a. a) [] → total_of may k w i ≡ 0
      total-zero i h e =
          let q = front_marked may (λ a. a) distinct (front_none may w) in
          (total_marked i h).0 ∙ ap (λ f. length (marked (λ a. a) w f)) e ∙ ap length q.0

  -- and the last the whole log
  pub last_place_all : (i : ℕ) → suc i ≡ length (listed may k w) → counts_of may k w i ≡ count (λ a. a) w
  last_place_all i h =
      let m = place_of (prefix_of_front may (λ a. a) distinct (front_all may w)) in
      let q = front_marked may (λ a. a) distinct (front_all may w) in
      let t : total_of may k w m.0 ≡ length w = (total_marked m.0 m.1).0 ∙ ap (λ f. length (marked (λ a. a) w f)) m.2 ∙ ap length q.0 in
      let hi : i < length (listed may k w) = omega arith in
      let r = totals_rise m.0 i (omega (arith, m.1)) hi in
      let z : length (unmarked (λ a. a) w (counts_of may k w i)) ≡ 0 = omega (arith, t, r, (total_marked i hi).0, (total_marked i hi).1) in
      let f = front_of_prefix may (λ a. a) (prefix_mem i hi).1 in
      sym (count_of_prefix may (λ a. a) (prefix_mem i hi).1)
      ∙ fun_ext (λ x. omega (arith, count_front may (λ a. a) f x, none-counted (unmarked (λ a. a) w (counts_of may k w i)) z x))
    where
      none-counted : (u : List ℕ) → length u ≡ 0 → (x : ℕ) → count (λ a. a) u x ≡ 0
      none-counted [] e x = refl
      none-counted (a ∷ u) e x = absurd (omega arith)

  module _ (G : Grammar) where
    abbrev pub Joins : ℕ → ℕ → ℕ → Type 0
    Joins i j n = Between may G w (counts_of may k w i) (counts_of may k w j) n

    -- so many letters lie between
    pub spans_total : (i j : ℕ) {n : ℕ} {u : List ℕ} → i < length (listed may k w) → j < length (listed may k w)
        → Spans may G w (counts_of may k w i) (counts_of may k w j) n u → total_of may k w j ≡ total_of may k w i + length u
    spans_total i j hi hj s =
        omega (arith, (total_marked i hi).0, (total_marked i hi).1, (total_marked j hj).0, (total_marked j hj).1, takes_length may s.takes)

    pub between_places : (i j : ℕ) {n : ℕ} → i < length (listed may k w) → j < length (listed may k w) → Joins i j n → i < j
    between_places i j hi hj s = total_places i j hi hj (omega (arith, spans_total i j hi hj s.1, derived_some s.1.derives))

    -- where a prefix is not inside the other, nothing is derived
    pub between_outside : (i j x n : ℕ) → counts_of may k w j x < counts_of may k w i x → Joins i j n → ⊥
    between_outside i j x n h s = omega (arith, s.1.adds x)

    -- one letter between
    pub between_letter : (i j a n : ℕ) → i < length (listed may k w) → j < length (listed may k w) → counts_of may k w j ≡ more (counts_of may k w i) a
        → Joins i j n ↔ T (G.one n a)
    between_letter i j a n hi hj e = (
      λ s. ⊎_elim
          (λ l. subst (λ x. T (G.one n x)) (same_letter (counts_of may k w i) l.0 a (sym l.2 ∙ e)) l.1)
          (λ t.
          let m = place_of t.4 in
          let f : Joins i m.0 t.1 = subst (λ c. Between may G w (counts_of may k w i) c t.1) (sym m.2) t.5 in
          let g : Joins m.0 j t.2 = subst (λ c. Between may G w c (counts_of may k w j) t.2) (sym m.2) t.6 in
          absurd (omega (
            arith,
            letter_total i j a hi hj e,
            spans_total i m.0 hi m.1 f.1,
            spans_total m.0 j m.1 hj g.1,
            derived_some f.1.derives,
            derived_some g.1.derives,
          )))
          (between_split may G w distinct (prefix_mem i hi).1 s),
      λ t. (a ∷ [], spans_letter may G w distinct (prefix_mem i hi).1 (prefix_mem j hj).1 e t),
    )
      where
        same_letter : (c : ℕ → ℕ) (x y : ℕ) → more c x ≡ more c y → x ≡ y
        same_letter c x y q = ⊎_elim (λ z. sym z) (λ z. absurd (omega (arith, ap (λ f. f x) q, one_same x, z))) (one_cases y x)

    -- more than one: two parts that meet at a place between
    pub between_parts : (i j n : ℕ) → i < length (listed may k w) → j < length (listed may k w)
        → ((a : ℕ) → counts_of may k w j ≡ more (counts_of may k w i) a → ⊥)
        → Joins i j n ↔ ((m l r : ℕ) × (i < m) × (m < j) × T (G.two n l r) × Joins i m l × Joins m j r)
    between_parts i j n hi hj apart = (
      λ s. ⊎_elim (λ l. absurd (apart l.0 l.2))
          (λ t.
          let m = place_of t.4 in
          let f : Joins i m.0 t.1 = subst (λ c. Between may G w (counts_of may k w i) c t.1) (sym m.2) t.5 in
          let g : Joins m.0 j t.2 = subst (λ c. Between may G w c (counts_of may k w j) t.2) (sym m.2) t.6 in
          (m.0, t.1, t.2, between_places i m.0 hi m.1 f, between_places m.0 j m.1 hj g, t.3, f, g))
          (between_split may G w distinct (prefix_mem i hi).1 s),
      λ t. (t.6.0 ++ t.7.0, spans_join may G w distinct t.5 t.6.1 t.7.1),
    )
