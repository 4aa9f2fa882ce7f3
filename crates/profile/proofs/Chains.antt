-- What the chain of an iterator answers is told in std's words over lists; these are the words of the definitions.
use mathlib.Core.Path.{◌≡◌, refl, sym, ◌∙◌, ap}
use mathlib.Core.Bool.{Bool, true, false, cond, ◌&&◌, ◌||◌}
use mathlib.Core.List.{List, [], ◌∷◌}
use Prim.Native.Nat.{ℕ, zero, suc, ◌+◌, ◌-◌, ◌≤◌, min}
use native.Mathlib.Numerals.{add-one}
use native.Mathlib.Omega.{arith}
use lib.Dec.{ltb}
use lib.ListN.{length, drop, take, length-drop}
use lib.Seq.{take_all}
use Rattle.std.proofs.lemmas.List.{drop_min}
use borrow.Author.Tests.{le-ltb, lt-ltb}
use mathlib.Core.Logic.{⊎_elim}
use Rattle.std.specs.Prelude.{Option, Some, None, unwrap_or}
use Rattle.std.specs.List.{list_all, list_any, position_or_len, range_with_len}
use Rattle.std.proofs.lemmas.List.FromFn.{length-range_with_len}
use Rattle.profile.specs.Lists.{all, any, below, first_place, range}
use Rattle.profile.proofs.Lists.{lt_or_le}

module _ {A : Type 0} (p : A → Bool) where
  pub any_std : (l : List A) → list_any p l ≡ any p l
  any_std [] = refl
  any_std (a ∷ l) = ap (p a ||◌) (any_std l)

  pub all_std : (l : List A) → list_all p l ≡ all p l
  all_std [] = refl
  all_std (a ∷ l) = ap (p a &&◌) (all_std l)

  pub first_std : (l : List A) → position_or_len p l ≡ first_place p l
  first_std [] = refl
  first_std (a ∷ l) = go (p a) refl (first_std l)
    where
      go : (c : Bool) → p a ≡ c → position_or_len p l ≡ first_place p l → position_or_len p (a ∷ l) ≡ first_place p (a ∷ l)
      go true e ih = rw (e, first_place) refl
      go false e ih = let q : 1 + position_or_len p l ≡ suc (first_place p l) = omega (arith, ih) in rw (e, first_place) q

  pub first_place_most : (l : List A) → first_place p l ≤ length l
  first_place_most [] = omega arith
  first_place_most (a ∷ l) = go (p a) refl (first_place_most l)
    where
      go : (c : Bool) → p a ≡ c → first_place p l ≤ length l → first_place p (a ∷ l) ≤ length (a ∷ l)
      go true e h = rw (e, first_place) (omega arith)
      go false e h = rw (e, first_place) (omega (arith, h))

  -- the place that `position` tells, or the end
  pub first_or_end : (l : List A) {r : Option ℕ} {n : ℕ} → length l ≡ n
      → r ≡ cond (ltb (position_or_len p l) (length l)) (Some (position_or_len p l)) None → unwrap_or r n ≡ first_place p l
  first_or_end l {r} {n} k e =
      let i = position_or_len p l in
      ap (λ o. unwrap_or o n) e ∙ ⊎_elim
      (λ h. ap (λ b. unwrap_or (cond b (Some i) None) n) (lt-ltb i (length l) h) ∙ first_std l)
      (λ h. ap (λ b. unwrap_or (cond b (Some i) None) n) (le-ltb i (length l) h) ∙ let m = first_place_most l in omega (arith, h, m, k, first_std l))
      (lt_or_le i (length l))

pub range_std : (a n : ℕ) → range_with_len a n ≡ range a n
range_std a zero = refl
range_std a (suc n) = ap (◌∷◌ a) (range_std (a + 1) n ∙ ap (λ b. range b n) (add-one a))

-- the first number below n that passes, or n
pub first_below : (p : ℕ → Bool) (n : ℕ) {r : Option ℕ}
    → r ≡ cond (ltb (position_or_len p (range_with_len 0 n)) (length (range_with_len 0 n))) (Some (position_or_len p (range_with_len 0 n))) None
    → unwrap_or r n ≡ first_place p (below n)
first_below p n e = first_or_end p (range_with_len 0 n) (length-range_with_len 0 n) e ∙ ap (first_place p) (range_std 0 n)

-- what is left from place i on, where m is i, or the end
pub left_from : {A : Type 0} (l : List A) (i : ℕ) {m : ℕ} → m ≡ min i (length l) → take (length l - m) (drop m l) ≡ drop i l
left_from l i {m} e = take_all (length l - m) (drop m l) (omega (arith, length-drop m l)) ∙ ap (λ n. drop n l) e ∙ drop_min i l
