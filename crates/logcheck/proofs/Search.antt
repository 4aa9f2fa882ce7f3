-- The first place of a list whose element passes a test, and whether there is one.
use mathlib.Core.Path.{◌≡◌, refl, sym, ◌∙◌, ap}
use mathlib.Core.Bool.{Bool, true, false}
use mathlib.Core.List.{List, [], ◌∷◌}
use Prim.Native.Nat.{ℕ, zero, suc, ◌+◌, ◌<◌, ◌≤◌}
use native.Mathlib.Omega.{arith}
use lib.Dec.{ltb, leb-suc-suc, leb-zero}
use lib.ListN.{length, get_or}
use Rattle.profile.specs.Lists.{any, first_place}

module _ {A : Type 0} (p : A → Bool) where
  -- none before place i passes, and that at i does, or i is the end
  pub first_at : (l : List A) (i : ℕ) (d : A) → ((j : ℕ) → j < i → p (get_or l j d) ≡ false) → i ≤ length l → (i < length l → p (get_or l i d) ≡ true)
      → first_place p l ≡ i
  first_at [] i d h k e = omega arith
  first_at (a ∷ l) zero d h k e = rw (e (omega arith), first_place)
  first_at (a ∷ l) (suc i) d h k e = rw (h 0 (omega arith), first_place)
      (ap suc (first_at l i d (λ j g. h (suc j) (omega arith)) (omega arith) (λ g. e (omega arith))))

  -- some element passes exactly when the first place is not the end
  pub any_first : (l : List A) → any p l ≡ ltb (first_place p l) (length l)
  any_first [] = refl
  any_first (a ∷ l) = go (p a) refl (any_first l)
    where
      go : (c : Bool) → p a ≡ c → any p l ≡ ltb (first_place p l) (length l) → any p (a ∷ l) ≡ ltb (first_place p (a ∷ l)) (length (a ∷ l))
      go true e ih = rw (e, first_place) (sym (leb-suc-suc 0 (length l) ∙ leb-zero (length l)))
      go false e ih = rw (e, first_place) (ih ∙ sym (leb-suc-suc (suc (first_place p l)) (length l)))
