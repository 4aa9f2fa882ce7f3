-- Cells of the table of costs: those at most a number, cell by cell, and those that a loop clears, lowers or scans, where it begins and where it goes on.
use mathlib.Core.Path.{◌≡◌, refl, sym, ◌∙◌, ap, subst}
use mathlib.Core.Bool.{Bool, true, false, not, ◌&&◌, cond}
use mathlib.Core.Logic.{◌⊎◌, inl, inr, ⊎_elim, ◌≢◌}
use mathlib.Core.List.{List, [], ◌∷◌, ◌++◌}
use Prim.Native.Nat.{ℕ, suc, ◌+◌, ◌-◌, ◌≤◌, ◌<◌, min}
use native.Mathlib.Omega.{arith}
use lib.Dec.{T, T_not, not_T, eqb, eqb→eq, eqb_refl, leb, leb→le, le→leb, ltb, ltb→lt, lt→ltb}
use lib.ListN.{length, get_or, take, set}
use lib.Seq.{take-suc, get_or-set_other, get_or-set_same}
use Rattle.profile.specs.Traces.{bit}
use Rattle.profile.proofs.Lists.{both, filter_last_no, filter_last_yes, fst_of, lt_or_le, snd_of, test}
use Rattle.profile.specs.Lists.{filter}
use Rattle.profile.proofs.Sets.{t_eq, not_in_none}
use Rattle.costcells.specs.Cells.{at_most, cost_in, in_row?, none_cost}
use Rattle.costcells.proofs.Cells.{Scanned}
use Rattle.costrows.specs.Rows.{LedBack, LedOn, Rows}

-- ---- how many are at most v

more_at_most : (v : ℕ) (l : List ℕ) (m : ℕ) → m ≤ v → at_most v (l ++ (m ∷ [])) ≡ suc (at_most v l)
more_at_most v l m h = ap length (filter_last_yes (λ n. leb n v) l m (le→leb m v h)) ∙ length_last (filter (λ n. leb n v) l) m
  where
    length_last : (l : List ℕ) (m : ℕ) → length (l ++ (m ∷ [])) ≡ suc (length l)
    length_last [] m = refl
    length_last (a ∷ l) m = ap suc (length_last l m)

no_more_at_most : (v : ℕ) (l : List ℕ) (m : ℕ) → v < m → at_most v (l ++ (m ∷ [])) ≡ at_most v l
no_more_at_most v l m h = ap length (filter_last_no (λ n. leb n v) l m (not_T (leb m v) (λ t. omega (arith, leb→le m v t, h))))

pub at_most_on : (v i : ℕ) (l : List ℕ) → i < length l → get_or l i 0 ≤ v → at_most v (take (suc i) l) ≡ suc (at_most v (take i l))
at_most_on v i l h k = ap (at_most v) (take-suc l i 0 h) ∙ more_at_most v (take i l) (get_or l i 0) k

pub at_most_off : (v i : ℕ) (l : List ℕ) → i < length l → v < get_or l i 0 → at_most v (take (suc i) l) ≡ at_most v (take i l)
at_most_off v i l h k = ap (at_most v) (take-suc l i 0 h) ∙ no_more_at_most v (take i l) (get_or l i 0) k

-- ---- the least of a row, where none is scanned

pub scan_start : (t : List ℕ) (row S : ℕ) → Scanned t row S S none_cost
scan_start t row S = (λ q h. inr h, λ q h. h, inl refl)

-- ---- cells cleared

cond_yes : (b : Bool) (x y : ℕ) → T b → cond b x y ≡ x
cond_yes true x y t = refl
cond_yes false x y t = absurd t

cond_no : (b : Bool) (x y : ℕ) → T (not b) → cond b x y ≡ y
cond_no true x y t = absurd t
cond_no false x y t = refl

same_or_not : (m n : ℕ) → (m ≡ n) ⊎ (m ≢ n)
same_or_not m n = ⊎_elim (λ t. inl (eqb→eq m n t)) (λ t. inr (λ e. T_not (eqb m n) t (subst (λ z. T (eqb m z)) e (eqb_refl m)))) (test (eqb m n))

pub clear_none : (t : List ℕ) (at j : ℕ) → cost_in t j ≡ cond (leb at j && ltb j (at + 0)) none_cost (cost_in t j)
clear_none t at j = sym (cond_no (leb at j && ltb j (at + 0)) none_cost (cost_in t j) (not_T (leb at j && ltb j (at + 0))
    (λ k. omega (arith, leb→le at j (fst_of (leb at j) (ltb j (at + 0)) k), ltb→lt j (at + 0) (snd_of (leb at j) (ltb j (at + 0)) k)))))

pub clear_more : (t t₀ : List ℕ) (at i : ℕ) → at + i < length t
    → ((j : ℕ) → cost_in t j ≡ cond (leb at j && ltb j (at + i)) none_cost (cost_in t₀ j))
    → (j : ℕ) → cost_in (set t (at + i) none_cost) j ≡ cond (leb at j && ltb j (at + (i + 1))) none_cost (cost_in t₀ j)
clear_more t t₀ at i h inv j = ⊎_elim
    (λ e. ap (cost_in (set t (at + i) none_cost)) e ∙ get_or-set_same t (at + i) none_cost none_cost h
    ∙ sym (cond_yes (leb at j && ltb j (at + (i + 1))) none_cost (cost_in t₀ j)
    (both (leb at j) (ltb j (at + (i + 1))) (le→leb at j (omega (arith, e))) (lt→ltb j (at + (i + 1)) (omega (arith, e))))))
    (λ ne. get_or-set_other t (at + i) j none_cost none_cost ne ∙ inv j ∙ ap (λ b. cond b none_cost (cost_in t₀ j))
    (t_eq (leb at j && ltb j (at + i)) (leb at j && ltb j (at + (i + 1)))
    (λ k. both (leb at j) (ltb j (at + (i + 1))) (fst_of (leb at j) (ltb j (at + i)) k)
    (lt→ltb j (at + (i + 1)) (omega (arith, ltb→lt j (at + i) (snd_of (leb at j) (ltb j (at + i)) k)))))
    (λ k. both (leb at j) (ltb j (at + i)) (fst_of (leb at j) (ltb j (at + (i + 1))) k)
    (lt→ltb j (at + i) (below_but j (at + i) (omega (arith, ltb→lt j (at + (i + 1)) (snd_of (leb at j) (ltb j (at + (i + 1))) k))) ne)))))
    (same_or_not j (at + i))
  where
    below_but : (j n : ℕ) → j < n + 1 → j ≢ n → j < n
    below_but j n h ne = ⊎_elim (λ l. l) (λ l. absurd (ne (omega (arith, h, l)))) (lt_or_le j n)

-- ---- no state's cell is lowered, and no state leads

pub lower_none : (t : List ℕ) (row v j : ℕ) → cond (in_row? row 0 j) (min v (cost_in t j)) (cost_in t j) ≡ cost_in t j
lower_none t row v j = cond_no (in_row? row 0 j) (min v (cost_in t j)) (cost_in t j)
    (not_T (in_row? row 0 j) (λ k. not_in_none (j - row) (snd_of (leb row j) (bit 0 (j - row)) k)))

module _ (t : List ℕ) (from to k s : ℕ) (moves : List ℕ) (x more : ℕ) (rows : Rows t from to k s moves x) where
  pub led_none : LedOn t t from to k s moves x more 0
  led_none = record {
    as_long = refl;
    no_more = λ j. omega arith;
    outside = λ j h. refl;
    led = λ q r h b. absurd (omega (arith, h));
    by = λ j. inl refl;
  }

  pub back_none : LedBack t t from to k s moves x more 0
  back_none = record {
    as_long = refl;
    no_more = λ j. omega arith;
    outside = λ j h. refl;
    led = λ q r h b. absurd (omega (arith, h));
    by = λ j. inl refl;
  }
