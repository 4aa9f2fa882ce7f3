-- A list whose first numbers are put, for loops; the others are as before.
use mathlib.Core.Path.{◌≡◌, refl, sym, ◌∙◌, ap}
use mathlib.Core.List.{List, [], ◌∷◌, ◌++◌, map, append_assoc}
use Prim.Native.Nat.{ℕ, suc, ◌+◌, ◌≤◌, ◌<◌}
use native.Mathlib.Omega.{arith}
use native.Mathlib.Numerals.{add-one}
use lib.ListN.{length, set, drop, length-append, length-drop, get_or-append}
use lib.Seq.{drop-cons, set_at}
use Rattle.profile.specs.Lists.{below}
use Rattle.profile.specs.Prefixes.{at}
use Rattle.profile.proofs.Lists.{below_suc}
use Rattle.theory.proofs.Counting.{at_map, length_range}

-- u stands at the front of l, and one number more is put behind it
pub front_set : (u l : List ℕ) (a n : ℕ) → length u ≡ n → n < length l → set (u ++ drop n l) n a ≡ (u ++ (a ∷ [])) ++ drop (n + 1) l
front_set u l a n e h =
    ap (λ r. set (u ++ r) n a) (drop-cons l n 0 h)
    ∙ set_at u (at l n) (drop (suc n) l) a n e
    ∙ sym (append_assoc u (a ∷ []) (drop (suc n) l))
    ∙ ap (λ m. (u ++ (a ∷ [])) ++ drop m l) (sym (add-one n))

pub front_put : (f : ℕ → ℕ) (cs : List ℕ) (x : ℕ) → x < length cs → set (map f (below x) ++ drop x cs) x (f x) ≡ map f (below (x + 1)) ++ drop (x + 1) cs
front_put f cs x h =
    front_set (map f (below x)) cs (f x) x (length_range f x 0) h
    ∙ ap (λ l. l ++ drop (x + 1) cs) (sym (map_last (below x)) ∙ ap (map f) (sym (below_suc x)) ∙ ap (λ n. map f (below n)) (sym (add-one x)))
  where
    map_last : (l : List ℕ) → map f (l ++ (x ∷ [])) ≡ map f l ++ (f x ∷ [])
    map_last [] = refl
    map_last (a ∷ l) = ap (◌∷◌ (f a)) (map_last l)

module _ (f : ℕ → ℕ) (cs : List ℕ) (k : ℕ) (h : k ≤ length cs) where
  pub front_whole : length (map f (below k) ++ drop k cs) ≡ length cs
  front_whole = omega (arith, length-append (map f (below k)) (drop k cs), length_range f k 0, length-drop k cs)

  -- number x of those that are put
  pub front_at : (x : ℕ) → x < k → at (map f (below k) ++ drop k cs) x ≡ f x
  front_at x lt =
      let e : 0 + x ≡ x = omega arith in
      get_or-append (map f (below k)) (drop k cs) 0 x (omega (arith, length_range f k 0)) ∙ at_map f k 0 x lt ∙ ap f e
