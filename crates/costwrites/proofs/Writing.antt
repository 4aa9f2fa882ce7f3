-- Laws of cells that are lowered and cleared, for the loops over them.
use mathlib.Core.Path.{◌≡◌, refl, sym, ◌∙◌, ap, ap₂, subst}
use mathlib.Core.Bool.{Bool, true, false, cond}
use mathlib.Core.Logic.{◌⊎◌, inl, inr, ⊎_elim, ◌≢◌}
use mathlib.Core.List.{List}
use Prim.Native.Nat.{ℕ, ◌+◌, ◌-◌, ◌<◌, ◌^◌, min}
use native.Mathlib.Omega.{arith}
use lib.Bits.{bit_and}
use lib.Count.{count_trailing_zeros}
use lib.Dec.{T, T_not, eqb, eqb→eq, eqb_refl, leb, leb→le, le→leb}
use lib.ListN.{length, set}
use lib.Seq.{get_or-set_other, get_or-set_same}
use Rattle.profile.specs.Traces.{bit}
use Rattle.profile.proofs.Lists.{both, fst_of, snd_of, test}
use Rattle.profile.proofs.Sets.{t_eq}
use Rattle.theory.proofs.SetLoops.{rest_first, rest_in, rest_other}
use Rattle.costcells.specs.Cells.{cost_in, in_row?, none_cost}

-- ---- a cell stored

cond_yes : (b : Bool) (x y : ℕ) → T b → cond b x y ≡ x
cond_yes true x y t = refl
cond_yes false x y t = absurd t

cond_both : (b : Bool) (x y : ℕ) → x ≡ y → cond b x y ≡ y
cond_both true x y e = e
cond_both false x y e = refl

same_or_not : (m n : ℕ) → (m ≡ n) ⊎ (m ≢ n)
same_or_not m n = ⊎_elim (λ t. inl (eqb→eq m n t)) (λ t. inr (λ e. T_not (eqb m n) t (subst (λ z. T (eqb m z)) e (eqb_refl m)))) (test (eqb m n))

-- ---- a row lowered, state by state

-- u is t with the cost of state q lowered to v
module _ (t u : List ℕ) (row n v q j : ℕ) (p : 0 < n) (h : n < 2 ^ 32) (is-low : count_trailing_zeros 32 n ≡ q) where
  lower_here : j ≡ row + q → cost_in u j ≡ min v (cost_in t j)
      → cond (in_row? row (bit_and n (n - 1)) j) (min v (cost_in u j)) (cost_in u j) ≡ cond (in_row? row n j) (min v (cost_in t j)) (cost_in t j)
  lower_here e c =
      let d : j - row ≡ q = omega (arith, e) in
      let m : T (in_row? row n j) = both (leb row j) (bit n (j - row)) (le→leb row j (omega (arith, e))) (subst (λ i. T (bit n i)) (is-low ∙ sym d) (rest_first n p h)) in
      cond_both (in_row? row (bit_and n (n - 1)) j) (min v (cost_in u j)) (cost_in u j) (twice v (cost_in t j) (cost_in u j) c)
      ∙ c ∙ sym (cond_yes (in_row? row n j) (min v (cost_in t j)) (cost_in t j) m)
    where
      twice : (v x y : ℕ) → y ≡ min v x → min v y ≡ y
      twice v x y e = omega (arith, e)

  lower_other : j ≢ row + q → cost_in u j ≡ cost_in t j
      → cond (in_row? row (bit_and n (n - 1)) j) (min v (cost_in u j)) (cost_in u j) ≡ cond (in_row? row n j) (min v (cost_in t j)) (cost_in t j)
  lower_other ne c =
      ap₂ (λ b i. cond b (min v i) i) (t_eq (in_row? row (bit_and n (n - 1)) j) (in_row? row n j)
      (λ k. both (leb row j) (bit n (j - row)) (fst_of (leb row j) (bit (bit_and n (n - 1)) (j - row)) k)
      (rest_in n p h (j - row) (snd_of (leb row j) (bit (bit_and n (n - 1)) (j - row)) k)))
      (λ k.
      let le = leb→le row j (fst_of (leb row j) (bit n (j - row)) k) in
      both (leb row j) (bit (bit_and n (n - 1)) (j - row)) (fst_of (leb row j) (bit n (j - row)) k)
      (⊎_elim (λ e. absurd (ne (omega (arith, is-low, e, le)))) (λ m. m) (rest_other n p h (j - row) (snd_of (leb row j) (bit n (j - row)) k))))) c

pub lower_more : (t u : List ℕ) (row n v : ℕ) → 0 < n → n < 2 ^ 32 → row + count_trailing_zeros 32 n < length t
    → u ≡ set t (row + count_trailing_zeros 32 n) (min v (cost_in t (row + count_trailing_zeros 32 n))) → (j : ℕ)
    → cond (in_row? row (bit_and n (n - 1)) j) (min v (cost_in u j)) (cost_in u j) ≡ cond (in_row? row n j) (min v (cost_in t j)) (cost_in t j)
lower_more t u row n v p h l s j =
    let q = count_trailing_zeros 32 n in
    let x = min v (cost_in t (row + q)) in
    ⊎_elim
    (λ e. lower_here t u row n v q j p h refl e
    (ap (λ z. cost_in z j) s ∙ ap (cost_in (set t (row + q) x)) e ∙ get_or-set_same t (row + q) x none_cost l ∙ sym (ap (λ i. min v (cost_in t i)) e)))
    (λ ne. lower_other t u row n v q j p h refl ne (ap (λ z. cost_in z j) s ∙ get_or-set_other t (row + q) j x none_cost ne))
    (same_or_not j (row + q))
