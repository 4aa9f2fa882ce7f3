-- What a search through a list, or through the numbers below n, has found at its end.
use mathlib.Core.Path.{◌≡◌, refl, sym, ◌∙◌, ap}
use mathlib.Core.Bool.{Bool, true, false}
use mathlib.Core.List.Memᴰ
use mathlib.Core.List.{List, [], ◌∷◌}
use Prim.Native.Nat.{ℕ, ◌<◌, ◌≤◌}
use native.Mathlib.Omega.{arith}
use lib.ListN.{length, get_or}
use Rattle.profile.specs.Lists.{Mem, any, below}
use Rattle.profile.proofs.Lists.{any_of, below_at, below_of, is_true, mem_getd, mem_place}

module _ {A : Type 0} (p : A → Bool) where
  -- no element passes; none at a place below i, which is the end, passes; the one at place i does
  any_none : (l : List A) → ((a : A) → Mem a l → p a ≡ false) → any p l ≡ false
  any_none [] h = refl
  any_none (a ∷ l) h = rw (h a (Memᴰ.head refl)) (any_none l (λ b m. h b (Memᴰ.tail m)))

  pub any_none_at : (l : List A) (i : ℕ) (d : A) → length l ≤ i → ((j : ℕ) → j < i → p (get_or l j d) ≡ false) → any p l ≡ false
  any_none_at l i d k h = any_none l (λ a m. let q = mem_place d m in sym (ap p q.2) ∙ h q.0 (omega arith))

  pub any_some_at : (l : List A) (i : ℕ) (d : A) → i < length l → p (get_or l i d) ≡ true → any p l ≡ true
  any_some_at l i d h e = is_true (any p l) (any_of p (mem_getd l i d h) (rw e tt))

-- the same of the numbers below n
pub any_none_below : (p : ℕ → Bool) (n i : ℕ) → n ≤ i → ((j : ℕ) → j < i → p j ≡ false) → any p (below n) ≡ false
any_none_below p n i k h = any_none p (below n) (λ j m. h j (omega (arith, below_at n j m)))

pub any_some_below : (p : ℕ → Bool) (n i : ℕ) → i < n → p i ≡ true → any p (below n) ≡ true
any_some_below p n i h e = is_true (any p (below n)) (any_of p (below_of n i h) (rw e tt))
