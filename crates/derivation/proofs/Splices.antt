-- Letters put into the order: part after part, in either order, is both at once.
use mathlib.Core.Path.{◌≡◌, refl, sym, ◌∙◌, ap, ap₂}
use mathlib.Core.List.{List, [], ◌∷◌, ◌++◌, append_assoc}
use Prim.Native.Nat.{ℕ, zero, suc, ◌+◌, ◌≤◌, ◌<◌}
use native.Mathlib.Omega.{arith}
use lib.ListN.{get_or, length, set, take, drop, length-append, length-drop}
use lib.Seq.{drop-append-add, length-take-le, set_at, split_at, take-append-le, take_at, drop_at}
use Rattle.derivation.specs.Deriving.{splice}

drop_drop : (m n : ℕ) (l : List ℕ) → drop n (drop m l) ≡ drop (m + n) l
drop_drop zero n l = let e : n ≡ 0 + n = omega arith in ap (λ k. drop k l) e
drop_drop (suc m) n [] = drop-none n ∙ sym (drop-none (suc m + n))
  where
    drop-none : (n : ℕ) → drop {A = ℕ} n [] ≡ []
    drop-none zero = refl
    drop-none (suc n) = refl
drop_drop (suc m) n (a ∷ l) = let e : suc (m + n) ≡ suc m + n = omega arith in drop_drop m n l ∙ ap (λ k. drop k (a ∷ l)) e

-- one letter
pub splice_one : (l : List ℕ) (t a : ℕ) → t < length l → set l t a ≡ splice l t (a ∷ [])
splice_one l t a h =
    let e : suc t ≡ t + 1 = omega arith in
    ap (λ m. set m t a) (split_at l t 0 h) ∙ set_at (take t l) (get_or l t 0) (drop (suc t) l) a t (length-take-le t l (omega arith)) ∙ ap (λ n. take t l ++ (a ∷ drop n l)) e

-- the first part, then the second
pub splice_right : (l : List ℕ) (t : ℕ) (u v : List ℕ) → t + length u ≤ length l → splice (splice l t u) (t + length u) v ≡ splice l t (u ++ v)
splice_right l t u v h =
    let A = take t l ++ u in
    let D = drop (t + length u) l in
    let n : length A ≡ t + length u = length-append (take t l) u ∙ ap (λ m. m + length u) (length-take-le t l (omega arith)) in
    let s : splice l t u ≡ A ++ D = sym (append_assoc (take t l) u D) in
    ap (λ x. splice x (t + length u) v) s
    ∙ ap₂ (λ x y. x ++ (v ++ y)) (take_at A D (t + length u) n)
    (ap (λ m. drop (m + length v) (A ++ D)) (sym n) ∙ drop-append-add A D (length v) ∙ drop_drop (t + length u) (length v) l)
    ∙ append_assoc (take t l) u (v ++ drop (t + length u + length v) l)
    ∙ ap (λ x. take t l ++ x) (sym (append_assoc u v (drop (t + length u + length v) l)))
    ∙ ap (λ m. take t l ++ ((u ++ v) ++ drop m l)) (both t u v)
  where
    both : (t : ℕ) (u v : List ℕ) → t + length u + length v ≡ t + length (u ++ v)
    both t u v = omega (arith, length-append u v)

-- the second part, then the first
pub splice_left : (l : List ℕ) (t : ℕ) (u v : List ℕ) → t + length u ≤ length l → splice (splice l (t + length u) v) t u ≡ splice l t (u ++ v)
splice_left l t u v h =
    let A = take (t + length u) l in
    let D = v ++ drop (t + length u + length v) l in
    let n : length A ≡ t + length u = length-take-le (t + length u) l h in
    ap₂ (λ x y. x ++ (u ++ y)) (take-append-le t A D (omega arith) ∙ take-take t (length u) l) (drop_at A D (t + length u) n)
    ∙ ap (λ x. take t l ++ x) (sym (append_assoc u v (drop (t + length u + length v) l)))
    ∙ ap (λ m. take t l ++ ((u ++ v) ++ drop m l)) (both t u v)
  where
    both : (t : ℕ) (u v : List ℕ) → t + length u + length v ≡ t + length (u ++ v)
    both t u v = omega (arith, length-append u v)

    take-take : (t n : ℕ) (l : List ℕ) → take t (take (t + n) l) ≡ take t l
    take-take zero n l = refl
    take-take (suc t) n [] = let e : suc t + n ≡ suc (t + n) = omega arith in ap (λ m. take (suc t) (take {A = ℕ} m [])) e
    take-take (suc t) n (a ∷ l) = let e : suc t + n ≡ suc (t + n) = omega arith in ap (λ m. take (suc t) (take m (a ∷ l))) e ∙ ap (◌∷◌ a) (take-take t n l)

pub splice_length : (l : List ℕ) (t : ℕ) (u : List ℕ) → t + length u ≤ length l → length (splice l t u) ≡ length l
splice_length l t u h = length-append (take t l) (u ++ drop (t + length u) l)
    ∙ omega (arith, length-append u (drop (t + length u) l), length-take-le t l (omega arith), length-drop (t + length u) l)
