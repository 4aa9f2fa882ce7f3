-- One state more, of a letter that leads on or back.
use mathlib.Core.Path.{◌≡◌, refl, sym, ◌∙◌, ap, subst}
use mathlib.Core.Bool.{Bool, true, false, not, cond}
use mathlib.Core.Logic.{◌⊎◌, inl, inr, ⊎_elim, ◌≢◌}
use mathlib.Core.List.{List}
use Prim.Native.Nat.{ℕ, suc, ◌+◌, ◌-◌, ◌≤◌, ◌<◌, min}
use native.Mathlib.Omega.{arith}
use lib.Dec.{T, leb, leb→le, le→leb, eqb, eqb→eq, eqb_refl, T_not}
use lib.ListN.{length, set, length-set}
use lib.Seq.{get_or-set_other, get_or-set_same}
use Rattle.profile.specs.Automata.{row}
use Rattle.profile.specs.Traces.{bit}
use Rattle.profile.proofs.Lists.{both, fst_of, lt_or_le, snd_of, test}
use Rattle.profile.proofs.Sets.{bit_below}
use Rattle.costcells.specs.Cells.{Least, Lowered, cost_in, in_row?, none_cost}
use Rattle.costrows.specs.Rows.{LedBack, LedOn, Rows, with_step}

same_or_not : (m n : ℕ) → (m ≡ n) ⊎ (m ≢ n)
same_or_not m n = ⊎_elim (λ t. inl (eqb→eq m n t)) (λ t. inr (λ e. T_not (eqb m n) t (subst (λ z. T (eqb m z)) e (eqb_refl m)))) (test (eqb m n))

lowered_yes : (b : Bool) (v x : ℕ) → T b → cond b (min v x) x ≡ min v x
lowered_yes true v x t = refl
lowered_yes false v x t = absurd t

lowered_no : (b : Bool) (v x : ℕ) → T (not b) → cond b (min v x) x ≡ x
lowered_no true v x t = absurd t
lowered_no false v x t = refl

-- min v x is one of them
min_one : (v x y : ℕ) → y ≡ min v x → (y ≡ x) ⊎ (y ≡ v)
min_one v x y e = ⊎_elim (λ l. inr (omega (arith, e, l))) (λ l. inl (omega (arith, e, l))) (lt_or_le v x)

module _ (t : List ℕ) (from to k s : ℕ) (moves : List ℕ) (x more : ℕ) (rows : Rows t from to k s moves x) where
  -- the cell of state n in the row `from` is as it was
  pub still : (u : List ℕ) (n : ℕ) → n < s → LedOn t u from to k s moves x more n → cost_in u (from + n) ≡ cost_in t (from + n)
  still u n l h = h.outside (from + n) (⊎_elim (λ a. inl (omega (arith, a, l))) (λ a. inr (omega (arith, a))) rows.apart)

  pub led_more : (u u' : List ℕ) (n v : ℕ) → n < s → v ≡ with_step (cost_in u (from + n)) more → LedOn t u from to k s moves x more n
      → Lowered u u' to (row k moves n x) v → LedOn t u' from to k s moves x more (suc n)
  led_more u u' n v l e h low = record {
    as_long = low.as_long ∙ h.as_long;
    no_more = λ j. omega (arith, le j, h.no_more j);
    outside = λ j a. out j a ∙ h.outside j a;
    led = λ q r a b. ⊎_elim (λ lt. omega (arith, le (to + r), h.led q r lt b)) (λ ge. now q r (omega (arith, a, ge)) b) (lt_or_le q n);
    by = λ j. ⊎_elim
        (λ b.
        let e = low.cells j ∙ lowered_yes (in_row? to (row k moves n x) j) v (cost_in u j) b in
        let le-j = leb→le to j (fst_of (leb to j) (bit (row k moves n x) (j - to)) b) in
        ⊎_elim (λ s. keep j s) (λ s. inr (n, j - to, omega arith, snd_of (leb to j) (bit (row k moves n x) (j - to)) b, omega (arith, le-j), s ∙ v-is)) (min_one v (cost_in u j) (cost_in u' j) e))
        (λ b. keep j (low.cells j ∙ lowered_no (in_row? to (row k moves n x) j) v (cost_in u j) b)) (test (in_row? to (row k moves n x) j));
  }
    where
      S : ℕ
      S = row k moves n x

      v-is : v ≡ with_step (cost_in t (from + n)) more
      v-is = e ∙ ap (λ i. with_step i more) (still u n l h)

      le : (j : ℕ) → cost_in u' j ≤ cost_in u j
      le j = ⊎_elim (λ b. omega (arith, low.cells j ∙ lowered_yes (in_row? to (row k moves n x) j) v (cost_in u j) b)) (λ b. omega (arith, low.cells j ∙ lowered_no (in_row? to (row k moves n x) j) v (cost_in u j) b)) (test (in_row? to (row k moves n x) j))

      out : (j : ℕ) → (j < to) ⊎ (to + s ≤ j) → cost_in u' j ≡ cost_in u j
      out j a = low.cells j ∙ ⊎_elim
          (λ b. absurd (⊎_elim (λ lt. omega (arith, lt, leb→le to j (fst_of (leb to j) (bit (row k moves n x) (j - to)) b)))
          (λ ge. omega (arith, ge, bit_below s (row k moves n x) (j - to) (rows.small n l) (snd_of (leb to j) (bit (row k moves n x) (j - to)) b))) a))
          (λ b. lowered_no (in_row? to (row k moves n x) j) v (cost_in u j) b) (test (in_row? to (row k moves n x) j))

      now : (q r : ℕ) → q ≡ n → T (bit (row k moves q x) r) → cost_in u' (to + r) ≤ with_step (cost_in t (from + q)) more
      now q r eq b =
          let d : to + r - to ≡ r = omega arith in
          let m : T (in_row? to (row k moves n x) (to + r)) = both (leb to (to + r)) (bit (row k moves n x) (to + r - to)) (le→leb to (to + r) (omega arith))
          (subst (λ i. T (bit (row k moves n x) i)) (sym d) (subst (λ i. T (bit (row k moves i x) r)) eq b)) in
          omega (arith, low.cells (to + r) ∙ lowered_yes (in_row? to (row k moves n x) (to + r)) v (cost_in u (to + r)) m, v-is, ap (λ i. with_step (cost_in t (from + i)) more) eq)

      keep : (j : ℕ) → cost_in u' j ≡ cost_in u j → (cost_in u' j ≡ cost_in t j)
          ⊎ ((q r : ℕ) × (q < suc n) × T (bit (row k moves q x) r) × (j ≡ to + r) × (cost_in u' j ≡ with_step (cost_in t (from + q)) more))
      keep j s = ⊎_elim (λ o. inl (s ∙ o)) (λ o. inr (o.0, o.1, omega (arith, o.2), o.3, o.4, s ∙ o.5)) (h.by j)

  -- ---- back

  -- the cells of the row `to` are as they were
  pub back_still : (u : List ℕ) (n r : ℕ) → r < s → LedBack t u from to k s moves x more n → cost_in u (to + r) ≡ cost_in t (to + r)
  back_still u n r l h = h.outside (to + r) (⊎_elim (λ a. inr (omega (arith, a))) (λ a. inl (omega (arith, a, l))) rows.apart)

  pub back_more : (u u' : List ℕ) (n m v : ℕ) → n < s → Least u to (row k moves n x) m → v ≡ with_step m more → LedBack t u from to k s moves x more n
      → u' ≡ set u (from + n) (min v (cost_in u (from + n))) → LedBack t u' from to k s moves x more (suc n)
  back_more u u' n m v l least e h s-is = record {
    as_long = ap length s-is ∙ length-set u (from + n) (min v (cost_in u (from + n))) ∙ h.as_long;
    no_more = λ j. omega (arith, le j, h.no_more j);
    outside = λ j a. other j (λ q. ⊎_elim (λ lt. omega (arith, lt, q)) (λ ge. omega (arith, ge, q, l)) a) ∙ h.outside j a;
    led = λ q r a b. ⊎_elim (λ lt. omega (arith, le (from + q), h.led q r lt b)) (λ ge. now q r (omega (arith, a, ge)) b) (lt_or_le q n);
    by = λ j. ⊎_elim
        (λ q. ⊎_elim (λ z. keep j z) (λ z. new j q z) (min_one v (cost_in u j) (cost_in u' j) (here j q)))
        (λ ne. keep j (other j ne)) (same_or_not j (from + n));
  }
    where
      inside : from + n < length u
      inside = omega (arith, rows.first, h.as_long, l)

      other : (j : ℕ) → j ≢ from + n → cost_in u' j ≡ cost_in u j
      other j ne = ap (λ z. cost_in z j) s-is ∙ get_or-set_other u (from + n) j (min v (cost_in u (from + n))) none_cost ne

      here : (j : ℕ) → j ≡ from + n → cost_in u' j ≡ min v (cost_in u j)
      here j q = ap (λ z. cost_in z j) s-is ∙ ap (cost_in (set u (from + n) (min v (cost_in u (from + n))))) q
          ∙ get_or-set_same u (from + n) (min v (cost_in u (from + n))) none_cost inside ∙ sym (ap (λ i. min v (cost_in u i)) q)

      le : (j : ℕ) → cost_in u' j ≤ cost_in u j
      le j = ⊎_elim (λ q. omega (arith, here j q)) (λ ne. omega (arith, other j ne)) (same_or_not j (from + n))

      state : (r : ℕ) → T (bit (row k moves n x) r) → r < s
      state r b = bit_below s (row k moves n x) r (rows.small n l) b

      now : (q r : ℕ) → q ≡ n → T (bit (row k moves q x) r) → cost_in u' (from + q) ≤ with_step (cost_in t (to + r)) more
      now q r eq b =
          let b' = subst (λ i. T (bit (row k moves i x) r)) eq b in
          omega (arith, here (from + q) (ap (λ i. from + i) eq), e, least.no_less r b', back_still u n r (state r b') h)

      keep : (j : ℕ) → cost_in u' j ≡ cost_in u j → (cost_in u' j ≡ cost_in t j) ⊎ (cost_in u' j ≡ none_cost)
          ⊎ ((q r : ℕ) × (q < suc n) × T (bit (row k moves q x) r) × (j ≡ from + q) × (cost_in u' j ≡ with_step (cost_in t (to + r)) more))
      keep j s = ⊎_elim (λ o. inl (s ∙ o)) (λ o. ⊎_elim (λ z. inr (inl (s ∙ z))) (λ z. inr (inr (z.0, z.1, omega (arith, z.2), z.3, z.4, s ∙ z.5))) o) (h.by j)

      new : (j : ℕ) → j ≡ from + n → cost_in u' j ≡ v → (cost_in u' j ≡ cost_in t j) ⊎ (cost_in u' j ≡ none_cost)
          ⊎ ((q r : ℕ) × (q < suc n) × T (bit (row k moves q x) r) × (j ≡ from + q) × (cost_in u' j ≡ with_step (cost_in t (to + r)) more))
      new j q z = ⊎_elim (λ o. inr (inl (omega (arith, z, e, o))))
          (λ o. inr (inr (n, o.0, omega arith, o.1, q, z ∙ e ∙ ap (λ i. with_step i more) (o.2 ∙ back_still u n o.0 (state o.0 o.1) h))))
          least.is_one
