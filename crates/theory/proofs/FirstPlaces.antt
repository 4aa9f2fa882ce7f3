-- The first place of a list that passes a test.
use mathlib.Core.Path.{◌≡◌, refl, sym, ◌∙◌, ap}
use mathlib.Core.Bool.{Bool, true, false, false≢true}
use mathlib.Core.List.{List, [], ◌∷◌}
use Prim.Native.Nat.{ℕ, zero, suc, ◌≤◌, ◌<◌}
use native.Mathlib.Omega.{arith}
use lib.ListN.{length, get_or}
use Rattle.profile.specs.Lists.{first_place}

module _ (p : ℕ → Bool) where
  pub first_yes : (a : ℕ) (l : List ℕ) → p a ≡ true → first_place p (a ∷ l) ≡ 0
  first_yes a l e = rw (e, first_place)

  pub first_no : (a : ℕ) (l : List ℕ) → p a ≡ false → first_place p (a ∷ l) ≡ suc (first_place p l)
  first_no a l e = rw (e, first_place)

  pub first_passes : (l : List ℕ) → first_place p l < length l → p (get_or l (first_place p l) 0) ≡ true
  first_passes [] h = absurd (omega arith)
  first_passes (a ∷ l) h = go (p a) refl (first_passes l)
    where
      go : (b : Bool) → p a ≡ b → (first_place p l < length l → p (get_or l (first_place p l) 0) ≡ true) → p (get_or (a ∷ l) (first_place p (a ∷ l)) 0) ≡ true
      go true e ih = ap (λ n. p (get_or (a ∷ l) n 0)) (first_yes a l e) ∙ e
      go false e ih = ap (λ n. p (get_or (a ∷ l) n 0)) (first_no a l e) ∙ ih (omega (arith, first_no a l e))

  -- no place before it passes
  pub first_least : (l : List ℕ) (i : ℕ) → i < length l → p (get_or l i 0) ≡ true → first_place p l ≤ i
  first_least [] i h e = absurd (omega arith)
  first_least (a ∷ l) i h e = go i (p a) refl e (first_least l) h
    where
      go : (i : ℕ) (b : Bool) → p a ≡ b → p (get_or (a ∷ l) i 0) ≡ true → ((j : ℕ) → j < length l → p (get_or l j 0) ≡ true → first_place p l ≤ j)
          → i < length (a ∷ l) → first_place p (a ∷ l) ≤ i
      go i true d q ih h = omega (arith, first_yes a l d)
      go zero false d q ih h = absurd (false≢true (sym d ∙ q))
      go (suc i) false d q ih h = omega (arith, first_no a l d, ih i (omega arith) q)
