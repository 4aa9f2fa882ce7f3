-- The letters that can be added to a prefix of a log with terms: by the places and turns of the next events, those of which one more gives a prefix again.
use borrow.Author.Tests.{eqb-false}
use mathlib.Core.Path.{◌≡◌, refl, sym, ◌∙◌, ap, ap₂, subst, fun_ext}
use mathlib.Core.Bool.{Bool, not, ◌&&◌, ◌||◌, cond}
use mathlib.Core.Logic.{◌⊎◌, inl, inr, ⊎_elim, ◌≢◌}
use mathlib.Core.List.{List, [], ◌∷◌, ◌++◌, map}
use Prim.Native.Nat.{ℕ, zero, suc, ◌+◌, ◌/◌, ◌%◌, ◌^◌, ◌≤◌, ◌<◌}
use native.Mathlib.Nat.{zero-add}
use native.Mathlib.Omega.{arith}
use lib.Dec.{T, eqb, eqb→eq, eqb_refl, ltb, ltb→lt, lt→ltb}
use lib.ListN.{length, get_or, get_or-append}
use Rattle.profile.specs.Lists.{all, below, filter}
use Rattle.profile.specs.Traces.{independent, letters_below}
use Rattle.profile.specs.Prefixes.{IsPrefix, addable?, additions, at, count, less, one, unmarked}
use Rattle.profile.specs.Tables.{count_field, layout, packed}
use Rattle.profile.proofs.Lists.{all_at, all_of, below_at, below_of, both, either, filter_agree, fst_of, is_false, is_true, mem_place, or_left, or_right, snd_of, test}
use Rattle.profile.proofs.Sets.{t_eq}
use Rattle.profile.proofs.Traces.{Pick, first, later, no_pick}
use Rattle.theory.proofs.Counting.{at_map, length_range}
use Rattle.theory.proofs.Packing.{field_packed}
use Rattle.theory.proofs.Prefixes.{addable_at, addable_of, count_le, more_of_pick, one_cases, unmarked_suc, unmarked_zero}
use Rattle.counts.proofs.Packed.{Small}
use Rattle.places.specs.Places.{place_start, place_table, places_from}
use Rattle.places.proofs.Places.{place_found}
use Rattle.places.proofs.NextPlaces.{next_here, next_le, next_marked, next_other, next_place}
use Rattle.terms.specs.Coded.{code_letter, code_term, coded_may}
use Rattle.turns.specs.Turns.{other_from, place_bound, turn_table, turns_from}
use Rattle.turns.proofs.Tables.{turn_found}
use Rattle.events.specs.Events.{comes_next?, lets_by?}
use Rattle.term_events.specs.InTerms.{in_term?, lets_in?}
use Rattle.letters.specs.Letters.{next_by}
use Rattle.term_letters.specs.Letters.{letters_in_terms}
use Rattle.turns.proofs.Turns.{next_turn, other_first, other_within, place_first, turn_here, turn_marked, turn_other, turn_place, turn_term}

module _ (masks : List ℕ) (k x : ℕ) where
  abbrev may : ℕ → ℕ → Bool
  may = coded_may masks

  -- letter y lets x by: its next event is later; or x may pass it, that event is in the term of the next event of x, and the first later one in another
  -- term is later
  abbrev LetsBy : (ℕ → ℕ) → (ℕ → ℕ) → ℕ → Type 0
  LetsBy f g y = (f x < f y) ⊎ (T (independent masks y x) × (g y / place_bound ≡ g x / place_bound) × (f x < g y % place_bound))

  -- x has an event left of n, and every other letter lets it by
  pub record FreeBy (n : ℕ) (f g : ℕ → ℕ) : Type 0 where
    pub left : f x < n
    pub lets : (y : ℕ) → y < k → y ≢ x → LetsBy f g y

  abbrev pub Free : ℕ → List ℕ → (ℕ → ℕ) → Type 0
  Free i w c = FreeBy (i + length w) (next_place i (map code_letter w) c) (next_turn i w c)

  -- a marked first event
  free_marked : (i e : ℕ) (w : List ℕ) (c : ℕ → ℕ) {m : ℕ} → c (code_letter e) ≡ suc m → Free i (e ∷ w) c ≡ Free (suc i) w (less c (code_letter e))
  free_marked i e w c q =
      let n : i + suc (length w) ≡ suc i + length w = omega arith in
      ap₂ (λ f g. FreeBy (i + suc (length w)) f g) (fun_ext (next_marked i (code_letter e) (map code_letter w) c q)) (fun_ext (turn_marked i e w c q))
      ∙ ap (λ m. FreeBy m (next_place (suc i) (map code_letter w) (less c (code_letter e))) (next_turn (suc i) w (less c (code_letter e)))) n

  abbrev Fits : List ℕ → (ℕ → ℕ) → Type 0
  Fits w c = (y : ℕ) → c y ≤ count (λ a. a) (map code_letter w) y

  abbrev Terms : List ℕ → Type 0
  Terms w = T (all (λ e. ltb (code_term e) 15) w)

  -- the counts of what is behind an unmarked first event
  fits_rest : (e : ℕ) (w : List ℕ) (c : ℕ → ℕ) → c (code_letter e) ≡ 0 → Fits (e ∷ w) c → Fits w c
  fits_rest e w c z h y = ⊎_elim (λ q. omega (arith, ap c q)) (λ o. omega (arith, h y, o)) (one_cases (code_letter e) y)

  -- letter y of which the first event is unmarked, in the term of the next event of x: what is behind it lets x by exactly when it does
  module _ (i e : ℕ) (w : List ℕ) (c : ℕ → ℕ) (zero_of : c (code_letter e) ≡ 0) (short : i + suc (length w) < place_bound) (t : ℕ) (small : code_term e < 15) (own : code_term e ≡ t) where
    abbrev a : ℕ
    a = code_letter e

    abbrev N : ℕ
    N = next_place (suc i) (map code_letter w) c a

    abbrev A : ℕ
    A = next_turn (suc i) w c a

    other_is : other_from (suc i) a (code_term e) w ≡ cond (eqb (A / place_bound) t) (A % place_bound) N
    other_is = other_first (suc i) a (code_term e) w small (omega arith)
        ∙ ap (λ z. cond (eqb (get_or (turns_from (suc i) a w) 0 0 / place_bound) z) (get_or (turns_from (suc i) a w) 0 0 % place_bound) (get_or (places_from (suc i) a (map code_letter w)) 0 0)) own
        ∙ ap (λ n. cond (eqb (get_or (turns_from (suc i) a w) n 0 / place_bound) t) (get_or (turns_from (suc i) a w) n 0 % place_bound) (get_or (places_from (suc i) a (map code_letter w)) n 0)) (sym zero_of)

    before_turn : N ≤ A % place_bound
    before_turn = subst (λ n. get_or (places_from (suc i) a (map code_letter w)) n 0 ≤ get_or (turns_from (suc i) a w) n 0 % place_bound) (sym zero_of) (place_first (suc i) a w (omega arith))

    to_rest : (m : ℕ) → m < other_from (suc i) a (code_term e) w → (m < N) ⊎ ((A / place_bound ≡ t) × (m < A % place_bound))
    to_rest m h = ⊎_elim
        (λ q. inr (eqb→eq (A / place_bound) t q, subst (λ z. m < z) (other_is ∙ ap (λ b. cond b (A % place_bound) N) (is_true (eqb (A / place_bound) t) q)) h))
        (λ q. inl (subst (λ z. m < z) (other_is ∙ ap (λ b. cond b (A % place_bound) N) (is_false (eqb (A / place_bound) t) q)) h))
        (test (eqb (A / place_bound) t))

    from_rest : (m : ℕ) → (m < N) ⊎ ((A / place_bound ≡ t) × (m < A % place_bound)) → m < other_from (suc i) a (code_term e) w
    from_rest m h = subst (λ z. m < z) (sym other_is) (go (test (eqb (A / place_bound) t)) h)
      where
        through : m < N → N ≤ A % place_bound → m < A % place_bound
        through p q = omega arith

        go : T (eqb (A / place_bound) t) ⊎ T (not (eqb (A / place_bound) t)) → (m < N) ⊎ ((A / place_bound ≡ t) × (m < A % place_bound)) → m < cond (eqb (A / place_bound) t) (A % place_bound) N
        go (inl q) (inl l) = subst (λ b. m < cond b (A % place_bound) N) (sym (is_true (eqb (A / place_bound) t) q)) (through l before_turn)
        go (inl q) (inr l) = subst (λ b. m < cond b (A % place_bound) N) (sym (is_true (eqb (A / place_bound) t) q)) l.1
        go (inr q) (inl l) = subst (λ b. m < cond b (A % place_bound) N) (sym (is_false (eqb (A / place_bound) t) q)) l
        go (inr q) (inr l) = absurd (eqb-false (A / place_bound) t (is_false (eqb (A / place_bound) t) q) l.0)

  -- ---- from the test to the event that is picked

  free_pick : (i : ℕ) (w : List ℕ) (c : ℕ → ℕ) → i + length w < place_bound → T (letters_below code_letter k w) → Terms w → Fits w c → Free i w c
      → (b : ℕ) × (r : List ℕ) × Pick may (unmarked code_letter w c) b r × (code_letter b ≡ x) × (code_term b ≡ next_turn i w c x / place_bound)
  free_pick i [] c s l t h g =
      let z : c x ≡ 0 = omega (arith, h x) in
      let n : next_place i [] c x ≡ i = ap (λ m. get_or (i ∷ []) m 0) z in
      absurd (end_of n g.left)
    where
      end_of : {n : ℕ} → n ≡ i → n < i + 0 → ⊥
      end_of p q = omega arith
  free_pick i (e ∷ w) c s l t h g = go (c (code_letter e)) refl (λ d. free_pick (suc i) w d (omega arith) (snd_of (ltb (code_letter e) k) (letters_below code_letter k w) l) (snd_of (ltb (code_term e) 15) (all (λ e. ltb (code_term e) 15) w) t))
    where
      a : ℕ
      a = code_letter e

      go : (m : ℕ) → c (code_letter e) ≡ m → ((d : ℕ → ℕ) → Fits w d → Free (suc i) w d → (b : ℕ) × (r : List ℕ) × Pick may (unmarked code_letter w d) b r × (code_letter b ≡ x) × (code_term b ≡ next_turn (suc i) w d x / place_bound))
          → (b : ℕ) × (r : List ℕ) × Pick may (unmarked code_letter (e ∷ w) c) b r × (code_letter b ≡ x) × (code_term b ≡ next_turn i (e ∷ w) c x / place_bound)
      go (suc m) q ih =
          let r = ih (less c (code_letter e)) (λ y. omega (arith, h y)) (subst (λ (P : Type 0). P) (free_marked i e w c q) g) in
          (r.0, r.1, subst (λ u. Pick may u r.0 r.1) (sym (unmarked_suc may code_letter e w c q)) r.2, r.3, r.4 ∙ ap (λ z. z / place_bound) (sym (turn_marked i e w c q x)))
      go zero q ih = subst (λ u. (b : ℕ) × (r : List ℕ) × Pick may u b r × (code_letter b ≡ x) × (code_term b ≡ next_turn i (e ∷ w) c x / place_bound)) (sym (unmarked_zero may code_letter e w c q)) (⊎_elim own other (test (eqb a x)))
        where
          rest : Fits w c
          rest = fits_rest e w c q h

          o : ℕ → ℕ
          o y = other_from (suc i) y (code_term e) w

          turn-own : next_turn i (e ∷ w) c a / place_bound ≡ code_term e
          turn-own = ap (λ z. z / place_bound) (turn_here i e w c q) ∙ turn_term (code_term e) (o a) (within (other_within (suc i) a (code_term e) w).1)
            where
              within : {n : ℕ} → n ≤ suc i + length w → n < place_bound
              within p = omega arith

          place_own : next_turn i (e ∷ w) c a % place_bound ≡ o a
          place_own = ap (λ z. z % place_bound) (turn_here i e w c q) ∙ turn_place (code_term e) (o a) (within (other_within (suc i) a (code_term e) w).1)
            where
              within : {n : ℕ} → n ≤ suc i + length w → n < place_bound
              within p = omega arith

          own : T (eqb a x) → (b : ℕ) × (r : List ℕ) × Pick may (e ∷ unmarked code_letter w c) b r × (code_letter b ≡ x) × (code_term b ≡ next_turn i (e ∷ w) c x / place_bound)
          own t = let v = eqb→eq a x t in (e, unmarked code_letter w c, first, v, sym (subst (λ z. next_turn i (e ∷ w) c z / place_bound ≡ code_term e) v turn-own))

          other : T (not (eqb a x)) → (b : ℕ) × (r : List ℕ) × Pick may (e ∷ unmarked code_letter w c) b r × (code_letter b ≡ x) × (code_term b ≡ next_turn i (e ∷ w) c x / place_bound)
          other v = ⊎_elim late same (g.lets a (ltb→lt a k (fst_of (ltb a k) (letters_below code_letter k w) l)) ne)
            where
              ne : a ≢ x
              ne = eqb-false a x (is_false (eqb a x) v)

              fx : next_place i (map code_letter (e ∷ w)) c x ≡ next_place (suc i) (map code_letter w) c x
              fx = next_other i a (map code_letter w) c x ne

              gx : next_turn i (e ∷ w) c x ≡ next_turn (suc i) w c x
              gx = turn_other i e w c x ne

              late : next_place i (map code_letter (e ∷ w)) c x < next_place i (map code_letter (e ∷ w)) c a → (b : ℕ) × (r : List ℕ) × Pick may (e ∷ unmarked code_letter w c) b r × (code_letter b ≡ x) × (code_term b ≡ next_turn i (e ∷ w) c x / place_bound)
              late p = absurd (no_way (next_here i a (map code_letter w) c q) fx (next_le (suc i) (map code_letter w) c x (rest x)) p)
                where
                  no_way : {n m m' : ℕ} → n ≡ i → m ≡ m' → suc i ≤ m' → m < n → ⊥
                  no_way p₁ p₂ p₃ p₄ = omega arith

              same : T (independent masks a x) × (next_turn i (e ∷ w) c a / place_bound ≡ next_turn i (e ∷ w) c x / place_bound) × (next_place i (map code_letter (e ∷ w)) c x < next_turn i (e ∷ w) c a % place_bound)
                  → (b : ℕ) × (r : List ℕ) × Pick may (e ∷ unmarked code_letter w c) b r × (code_letter b ≡ x) × (code_term b ≡ next_turn i (e ∷ w) c x / place_bound)
              same p =
                  let n = ih c rest (record { left = left; lets = lets }) in
                  let tb : code_term e ≡ code_term n.0 = term-e ∙ sym n.4 in
                  (n.0, e ∷ n.1, later (both (eqb (code_term e) (code_term n.0)) (independent masks a (code_letter n.0)) (subst (λ z. T (eqb (code_term e) z)) tb (eqb_refl (code_term e))) (subst (λ z. T (independent masks a z)) (sym n.3) p.0)) n.2, n.3, n.4 ∙ ap (λ z. z / place_bound) (sym gx))
                where
                  term-e : code_term e ≡ next_turn (suc i) w c x / place_bound
                  term-e = sym turn-own ∙ p.1 ∙ ap (λ z. z / place_bound) gx

                  left : next_place (suc i) (map code_letter w) c x < suc i + length w
                  left = moved fx g.left
                    where
                      moved : {n m : ℕ} → n ≡ m → n < i + suc (length w) → m < suc i + length w
                      moved u z = omega arith

                  m-other : next_place (suc i) (map code_letter w) c x < o a
                  m-other = subst (λ z. z < o a) fx (subst (λ z. next_place i (map code_letter (e ∷ w)) c x < z) place_own p.2)

                  lets : (y : ℕ) → y < k → y ≢ x → LetsBy (next_place (suc i) (map code_letter w) c) (next_turn (suc i) w c) y
                  lets y hy ny = ⊎_elim
                      (λ u. subst (LetsBy (next_place (suc i) (map code_letter w) c) (next_turn (suc i) w c)) (eqb→eq a y u) (⊎_elim inl (λ z. inr (p.0, z.0, z.1))
                      (to_rest i e w c q s (next_turn (suc i) w c x / place_bound) (ltb→lt (code_term e) 15 (fst_of (ltb (code_term e) 15) (all (λ e. ltb (code_term e) 15) w) t)) term-e (next_place (suc i) (map code_letter w) c x) m-other)))
                      (λ u.
                      let na : a ≢ y = eqb-false a y (is_false (eqb a y) u) in
                      let fy = next_other i a (map code_letter w) c y na in
                      let gy = turn_other i e w c y na in
                      ⊎_elim (λ z. inl (subst (λ m. m < next_place (suc i) (map code_letter w) c y) fx (subst (λ m. next_place i (map code_letter (e ∷ w)) c x < m) fy z)))
                      (λ z. inr (z.0, sym (ap (λ m. m / place_bound) gy) ∙ z.1 ∙ ap (λ m. m / place_bound) gx, subst (λ m. m < next_turn (suc i) w c y % place_bound) fx (subst (λ m. next_place i (map code_letter (e ∷ w)) c x < m % place_bound) gy z.2)))
                      (g.lets y hy ny))
                      (test (eqb a y))

  -- ---- from the event that is picked to the test

  module _ (distinct : (a : ℕ) → T (independent masks a a) → ⊥) where
    pick_free : (i : ℕ) (w : List ℕ) (c : ℕ → ℕ) → i + length w < place_bound → T (letters_below code_letter k w) → Terms w → Fits w c
        → (b : ℕ) (r : List ℕ) → Pick may (unmarked code_letter w c) b r → code_letter b ≡ x → Free i w c × (next_turn i w c x / place_bound ≡ code_term b)
    pick_free i [] c s l t h b r p v = absurd (no_pick may p)
    pick_free i (e ∷ w) c s l t h b r p v = go (c (code_letter e)) refl (λ d. pick_free (suc i) w d (omega arith) (snd_of (ltb (code_letter e) k) (letters_below code_letter k w) l) (snd_of (ltb (code_term e) 15) (all (λ e. ltb (code_term e) 15) w) t))
      where
        a : ℕ
        a = code_letter e

        small : code_term e < 15
        small = ltb→lt (code_term e) 15 (fst_of (ltb (code_term e) 15) (all (λ e. ltb (code_term e) 15) w) t)

        within : {n : ℕ} → n ≤ suc i + length w → n < place_bound
        within z = omega arith

        o : ℕ
        o = other_from (suc i) a (code_term e) w

        at_zero : c (code_letter e) ≡ 0 → {u r : List ℕ} {b : ℕ} → Pick may (e ∷ u) b r → code_letter b ≡ x
            → ((r' : List ℕ) → Pick may u b r' → Free (suc i) w c × (next_turn (suc i) w c x / place_bound ≡ code_term b)) → Free i (e ∷ w) c × (next_turn i (e ∷ w) c x / place_bound ≡ code_term b)
        at_zero q first v ih = (
          record {
            left = subst (λ z. next_place i (map code_letter (e ∷ w)) c z < i + suc (length w)) v (here (next_here i a (map code_letter w) c q));
            lets = λ y hy ny. inl (late y (λ z. ny (sym z ∙ v)));
          },
          subst (λ z. next_turn i (e ∷ w) c z / place_bound ≡ code_term e) v (ap (λ z. z / place_bound) (turn_here i e w c q) ∙ turn_term (code_term e) o (within (other_within (suc i) a (code_term e) w).1)),
        )
          where
            here : {n : ℕ} → n ≡ i → n < i + suc (length w)
            here z = omega arith

            late : (y : ℕ) → a ≢ y → next_place i (map code_letter (e ∷ w)) c x < next_place i (map code_letter (e ∷ w)) c y
            late y ny = before (subst (λ z. next_place i (map code_letter (e ∷ w)) c z ≡ i) v (next_here i a (map code_letter w) c q)) (next_other i a (map code_letter w) c y ny) (next_le (suc i) (map code_letter w) c y (fits_rest e w c q h y))
              where
                before : {n m m' : ℕ} → n ≡ i → m ≡ m' → suc i ≤ m' → n < m
                before z₁ z₂ z₃ = omega arith
        at_zero q {b = b} (later {r = r} ok p) v ih =
            let n = ih r p in
            (record { left = moved fx n.0.left; lets = lets n }, ap (λ z. z / place_bound) gx ∙ n.1)
          where
            ind : T (independent masks a x)
            ind = subst (λ z. T (independent masks a z)) v (snd_of (eqb (code_term e) (code_term b)) (independent masks a (code_letter b)) ok)

            ne : a ≢ x
            ne z = distinct x (subst (λ y. T (independent masks y x)) z ind)

            fx : next_place i (map code_letter (e ∷ w)) c x ≡ next_place (suc i) (map code_letter w) c x
            fx = next_other i a (map code_letter w) c x ne

            gx : next_turn i (e ∷ w) c x ≡ next_turn (suc i) w c x
            gx = turn_other i e w c x ne

            moved : {n m : ℕ} → n ≡ m → m < suc i + length w → n < i + suc (length w)
            moved u z = omega arith

            term-e : code_term e ≡ code_term b
            term-e = eqb→eq (code_term e) (code_term b) (fst_of (eqb (code_term e) (code_term b)) (independent masks a (code_letter b)) ok)

            lets : Free (suc i) w c × (next_turn (suc i) w c x / place_bound ≡ code_term b) → (y : ℕ) → y < k → y ≢ x → LetsBy (next_place i (map code_letter (e ∷ w)) c) (next_turn i (e ∷ w) c) y
            lets n y hy ny = ⊎_elim
                (λ u. subst (LetsBy (next_place i (map code_letter (e ∷ w)) c) (next_turn i (e ∷ w) c)) (eqb→eq a y u) (inr (
                  ind,
                  ap (λ z. z / place_bound) (turn_here i e w c q) ∙ turn_term (code_term e) o (within (other_within (suc i) a (code_term e) w).1) ∙ term-e ∙ sym n.1 ∙ ap (λ z. z / place_bound) (sym gx),
                  subst (λ z. next_place i (map code_letter (e ∷ w)) c x < z) (sym (ap (λ z. z % place_bound) (turn_here i e w c q) ∙ turn_place (code_term e) o (within (other_within (suc i) a (code_term e) w).1)))
                      (subst (λ z. z < o) (sym fx) (from_rest i e w c q s (next_turn (suc i) w c x / place_bound) small (term-e ∙ sym n.1) (next_place (suc i) (map code_letter w) c x)
                      (⊎_elim inl (λ z. inr (z.1, z.2)) (n.0.lets a (ltb→lt a k (fst_of (ltb a k) (letters_below code_letter k w) l)) ne)))),
                )))
                (λ u.
                let na : a ≢ y = eqb-false a y (is_false (eqb a y) u) in
                let fy = next_other i a (map code_letter w) c y na in
                let gy = turn_other i e w c y na in
                ⊎_elim (λ z. inl (subst (λ m. m < next_place i (map code_letter (e ∷ w)) c y) (sym fx) (subst (λ m. next_place (suc i) (map code_letter w) c x < m) (sym fy) z)))
                (λ z. inr (z.0, ap (λ m. m / place_bound) gy ∙ z.1 ∙ ap (λ m. m / place_bound) (sym gx), subst (λ m. m < next_turn i (e ∷ w) c y % place_bound) (sym fx) (subst (λ m. next_place (suc i) (map code_letter w) c x < m % place_bound) (sym gy) z.2)))
                (n.0.lets y hy ny))
                (test (eqb a y))

        go : (m : ℕ) → c (code_letter e) ≡ m → ((d : ℕ → ℕ) → Fits w d → (b : ℕ) (r : List ℕ) → Pick may (unmarked code_letter w d) b r → code_letter b ≡ x → Free (suc i) w d × (next_turn (suc i) w d x / place_bound ≡ code_term b))
            → Free i (e ∷ w) c × (next_turn i (e ∷ w) c x / place_bound ≡ code_term b)
        go (suc m) q ih =
            let n = ih (less c (code_letter e)) (λ y. omega (arith, h y)) b r (subst (λ u. Pick may u b r) (unmarked_suc may code_letter e w c q) p) v in
            (subst (λ (P : Type 0). P) (sym (free_marked i e w c q)) n.0, ap (λ z. z / place_bound) (turn_marked i e w c q x) ∙ n.1)
        go zero q ih = at_zero q (subst (λ u. Pick may u b r) (unmarked_zero may code_letter e w c q) p) v (λ r' p'. ih c (fits_rest e w c q h) b r' p' v)

  -- ---- the test

  module _ (inside : x < k) (n : ℕ) where
    -- places and turns that agree below k
    free_agree : (F G f g : ℕ → ℕ) → ((y : ℕ) → y < k → F y ≡ f y) → ((y : ℕ) → y < k → G y ≡ g y) → FreeBy n F G → FreeBy n f g
    free_agree F G f g ef eg h = record {
      left = subst (λ m. m < n) (ef x inside) h.left;
      lets = λ y hy ny. ⊎_elim (λ z. inl (subst (λ m. m < f y) (ef x inside) (subst (λ m. F x < m) (ef y hy) z)))
          (λ z. inr (z.0, sym (ap (λ m. m / place_bound) (eg y hy)) ∙ z.1 ∙ ap (λ m. m / place_bound) (eg x inside), subst (λ m. m < g y % place_bound) (ef x inside) (subst (λ m. F x < m % place_bound) (eg y hy) z.2))) (h.lets y hy ny);
    }

    module _ (N A : List ℕ) where
      abbrev test_in : Bool
      test_in = comes_next? (independent masks) k n N x && in_term? k N A x

      test_free : T test_in → FreeBy n (at N) (at A)
      test_free t = record { left = ltb→lt (at N x) n (fst_of (ltb (at N x) n) (all (lets_by? (independent masks) (at N) x) (below k)) t₁); lets = lets }
        where
          t₁ : T (comes_next? (independent masks) k n N x)
          t₁ = fst_of (comes_next? (independent masks) k n N x) (in_term? k N A x) t

          t₂ : T (in_term? k N A x)
          t₂ = snd_of (comes_next? (independent masks) k n N x) (in_term? k N A x) t

          lets : (y : ℕ) → y < k → y ≢ x → LetsBy (at N) (at A) y
          lets y hy ny =
              let m = below_of k y hy in
              let p = all_at (lets_by? (independent masks) (at N) x) (snd_of (ltb (at N x) n) (all (lets_by? (independent masks) (at N) x) (below k)) t₁) m in
              let q = all_at (lets_in? (at N) (at A) x) t₂ m in
              let same = eqb (at A y / place_bound) (at A x / place_bound) in
              let late = ltb (at N x) (at A y % place_bound) in
              ⊎_elim (λ e. absurd (ny (eqb→eq y x e))) (λ p'. ⊎_elim (λ e. absurd (ny (eqb→eq y x e)))
              (λ q'. ⊎_elim (λ l. inl (ltb→lt (at N x) (at N y) l))
              (λ b. ⊎_elim (λ i. inr (i, eqb→eq (at A y / place_bound) (at A x / place_bound) (fst_of same late b), ltb→lt (at N x) (at A y % place_bound) (snd_of same late b))) (λ l. inl (ltb→lt (at N x) (at N y) l))
              (either (independent masks y x) (ltb (at N x) (at N y)) p'))
              (either (ltb (at N x) (at N y)) (same && late) q'))
              (either (eqb y x) (ltb (at N x) (at N y) || (same && late)) q))
              (either (eqb y x) (independent masks y x || ltb (at N x) (at N y)) p)

      free_test : FreeBy n (at N) (at A) → T test_in
      free_test h = both (comes_next? (independent masks) k n N x) (in_term? k N A x)
          (both (ltb (at N x) n) (all (lets_by? (independent masks) (at N) x) (below k)) (lt→ltb (at N x) n h.left)
          (all_of (lets_by? (independent masks) (at N) x) (below k) (λ y m. ⊎_elim (λ e. or_left (eqb y x) (independent masks y x || ltb (at N x) (at N y)) e)
          (λ ne. or_right (eqb y x) (independent masks y x || ltb (at N x) (at N y))
          (⊎_elim (λ l. or_right (independent masks y x) (ltb (at N x) (at N y)) (lt→ltb (at N x) (at N y) l)) (λ z. or_left (independent masks y x) (ltb (at N x) (at N y)) z.0)
          (h.lets y (below_at k y m) (eqb-false y x (is_false (eqb y x) ne)))))
          (test (eqb y x)))))
          (all_of (lets_in? (at N) (at A) x) (below k) (λ y m.
          let same = eqb (at A y / place_bound) (at A x / place_bound) in
          let late = ltb (at N x) (at A y % place_bound) in
          ⊎_elim (λ e. or_left (eqb y x) (ltb (at N x) (at N y) || (same && late)) e)
          (λ ne. or_right (eqb y x) (ltb (at N x) (at N y) || (same && late))
          (⊎_elim (λ l. or_left (ltb (at N x) (at N y)) (same && late) (lt→ltb (at N x) (at N y) l))
          (λ z. or_right (ltb (at N x) (at N y)) (same && late) (both same late (subst (λ u. T (eqb (at A y / place_bound) u)) z.1 (eqb_refl (at A y / place_bound))) (lt→ltb (at N x) (at A y % place_bound) z.2)))
          (h.lets y (below_at k y m) (eqb-false y x (is_false (eqb y x) ne)))))
          (test (eqb y x))))

-- ---- the letters of a prefix

count_codes : (w : List ℕ) (y : ℕ) → count (λ a. a) (map code_letter w) y ≡ count code_letter w y
count_codes [] y = refl
count_codes (e ∷ w) y = ap (λ n. one (code_letter e) y + n) (count_codes w y)

module _ (masks : List ℕ) (own : (a : ℕ) → T (independent masks a a) → ⊥) (k : ℕ) (w v s p q : List ℕ) (short : length w ≤ 4000) (few : k ≤ 16)
    (letters : T (letters_below code_letter k w)) (terms : T (all (λ e. ltb (code_term e) 15) w)) (prefix : IsPrefix (coded_may masks) code_letter w (at v)) where
  abbrev log : List ℕ
  log = map code_letter w

  apart : (a b : ℕ) → T (coded_may masks a b) → code_letter a ≢ code_letter b
  apart a b t e = own (code_letter b) (subst (λ i. T (independent masks i (code_letter b))) e (snd_of (eqb (code_term a) (code_term b)) (independent masks (code_letter a) (code_letter b)) t))

  fits : (y : ℕ) → at v y ≤ count (λ a. a) log y
  fits y = subst (λ n. at v y ≤ n) (sym (count_codes w y)) (prefix.fits y)

  small : Small layout v
  small = all_of (λ n. ltb n (2 ^ layout.width)) v (λ n m.
      let i = mem_place 0 m in
      let le : n ≤ 4000 = omega (arith, i.2, prefix.fits i.0, count_le (coded_may masks) code_letter w i.0) in
      lt→ltb n (2 ^ layout.width) (omega arith))

  abbrev starts : List ℕ
  starts = map (place_start log) (below k) ++ s

  next_is : (y : ℕ) → y < k → at (next_by k starts (place_table k log ++ p) (packed layout v)) y ≡ next_place 0 log (at v) y
  next_is y h =
      at_map (λ x. get_or (place_table k log ++ p) (get_or starts x 0 + count_field layout (packed layout v) x) 0) k 0 y h
      ∙ ap (λ x. get_or (place_table k log ++ p) (get_or starts x 0 + count_field layout (packed layout v) x) 0) (zero-add y)
      ∙ ap (λ m. get_or (place_table k log ++ p) (get_or starts y 0 + m) 0) (field_packed layout v y small (omega (arith, few)))
      ∙ place_found k log s p y (at v y) h (fits y)

  after_is : (y : ℕ) → y < k → at (next_by k starts (turn_table k w ++ q) (packed layout v)) y ≡ next_turn 0 w (at v) y
  after_is y h =
      at_map (λ x. get_or (turn_table k w ++ q) (get_or starts x 0 + count_field layout (packed layout v) x) 0) k 0 y h
      ∙ ap (λ x. get_or (turn_table k w ++ q) (get_or starts x 0 + count_field layout (packed layout v) x) 0) (zero-add y)
      ∙ ap (λ m. get_or (turn_table k w ++ q) (get_or starts y 0 + m) 0) (field_packed layout v y small (omega (arith, few)))
      ∙ turn_found k w s q y (at v y) h (fits y)

  -- the letters by the places and turns of the log's events and by the packed counts of a prefix: those of which one more gives a prefix again
  pub letters_coded : letters_in_terms (independent masks) k (length w) starts (place_table k log ++ p) (turn_table k w ++ q) (packed layout v)
      ≡ additions (coded_may masks) code_letter k w v
  letters_coded = filter_agree _ _ (below k) (λ x m. one-letter x (below_at k x m))
    where
      N : List ℕ
      N = next_by k starts (place_table k log ++ p) (packed layout v)

      A : List ℕ
      A = next_by k starts (turn_table k w ++ q) (packed layout v)

      zero-plus : length w ≡ 0 + length w
      zero-plus = omega arith

      one-letter : (x : ℕ) → x < k → (comes_next? (independent masks) k (length w) N x && in_term? k N A x) ≡ addable? (coded_may masks) code_letter w (at v) x
      one-letter x h = t_eq (comes_next? (independent masks) k (length w) N x && in_term? k N A x) (addable? (coded_may masks) code_letter w (at v) x)
          (λ t.
          let f = free_agree masks k x h (length w) (at N) (at A) (next_place 0 log (at v)) (next_turn 0 w (at v)) next_is after_is (test_free masks k x h (length w) N A t) in
          let g = free_pick masks k x 0 w (at v) (omega (arith, short)) letters terms fits (subst (λ n. FreeBy masks k x n (next_place 0 log (at v)) (next_turn 0 w (at v))) zero-plus f) in
          subst (λ y. T (addable? (coded_may masks) code_letter w (at v) y)) g.3
          (addable_of (coded_may masks) code_letter apart (at v) (code_letter g.0) (more_of_pick (coded_may masks) code_letter apart prefix g.2).0))
          (λ t.
          let n = addable_at (coded_may masks) code_letter apart prefix t in
          let g = (pick_free masks k x own 0 w (at v) (omega (arith, short)) letters terms fits n.1 _ n.3 n.2).0 in
          free_test masks k x h (length w) N A (free_agree masks k x h (length w) (next_place 0 log (at v)) (next_turn 0 w (at v)) (at N) (at A) (λ y l. sym (next_is y l)) (λ y l. sym (after_is y l))
          (subst (λ n. FreeBy masks k x n (next_place 0 log (at v)) (next_turn 0 w (at v))) (sym zero-plus) g)))

-- more places and turns behind those of the letters below k change nothing
pub terms_first : (masks : List ℕ) (k n : ℕ) (starts places turns t r r' : List ℕ)
    → filter (λ x. comes_next? (independent masks) k n (next_by k starts places t ++ r) x && in_term? k (next_by k starts places t ++ r) (next_by k starts turns t ++ r') x) (below k)
    ≡ letters_in_terms (independent masks) k n starts places turns t
terms_first masks k n starts places turns t r r' = filter_agree _ _ (below k) (λ x m. go x (below_at k x m))
  where
    N : List ℕ
    N = next_by k starts places t

    A : List ℕ
    A = next_by k starts turns t

    first_of : (l r : List ℕ) → length l ≡ k → (y : ℕ) → y < k → at (l ++ r) y ≡ at l y
    first_of l r e y h = get_or-append l r 0 y (omega arith)

    go : (x : ℕ) → x < k → (comes_next? (independent masks) k n (N ++ r) x && in_term? k (N ++ r) (A ++ r') x) ≡ (comes_next? (independent masks) k n N x && in_term? k N A x)
    go x h =
        let eN = first_of N r (length_range _ k 0) in
        let eA = first_of A r' (length_range _ k 0) in
        t_eq (comes_next? (independent masks) k n (N ++ r) x && in_term? k (N ++ r) (A ++ r') x) (comes_next? (independent masks) k n N x && in_term? k N A x)
        (λ u. free_test masks k x h n N A (free_agree masks k x h n (at (N ++ r)) (at (A ++ r')) (at N) (at A) eN eA (test_free masks k x h n (N ++ r) (A ++ r') u)))
        (λ u. free_test masks k x h n (N ++ r) (A ++ r') (free_agree masks k x h n (at N) (at A) (at (N ++ r)) (at (A ++ r')) (λ y l. sym (eN y l)) (λ y l. sym (eA y l)) (test_free masks k x h n N A u)))
