-- Texts put one behind the other.
use mathlib.Core.Path.{◌≡◌, refl, sym, ◌∙◌, ap, ap₂, subst}
use mathlib.Core.List.{List, [], ◌∷◌, ◌++◌, append-nil, append_assoc}
use Prim.Native.Nat.{ℕ, zero, suc, ◌+◌, ◌≤◌, ◌<◌}
use native.Mathlib.Nat.{zero-add}
use native.Mathlib.Numerals.{add-one}
use native.Mathlib.Omega.{arith}
use lib.ListN.{length, get_or, set, take, drop, length-append, length-take}
use lib.Seq.{sets, drop_at, length-sets, sets-eq, take_at, take-suc}
use Rattle.profile.specs.Lists.{flat_map}
use Rattle.putting.specs.Putting.{Put}

module _ {A : Type 0} where
  pub sets_append : (l : List A) (i : ℕ) (u v : List A) → sets l i (u ++ v) ≡ sets (sets l i u) (i + length u) v
  sets_append l i [] v = let e : i ≡ i + 0 = omega arith in ap (λ n. sets l n v) e
  sets_append l i (a ∷ u) v = let e : suc i + length u ≡ i + suc (length u) = omega arith in sets_append (set l i a) (suc i) u v ∙ ap (λ n. sets (sets l i (a ∷ u)) n v) e

  -- from the start on
  pub sets_start : (l v : List A) (n : ℕ) → length v ≡ n → n ≤ length l → sets l 0 v ≡ v ++ drop n l
  sets_start l v n e h = sets-eq v l 0 (omega arith) ∙ ap (λ m. v ++ drop m l) (zero-add (length v) ∙ e)

-- with one byte more, for loops
pub sets_more : (l v : List ℕ) (at i : ℕ) → i < length v → set (sets l at (take i v)) (at + i) (get_or v i 0) ≡ sets l at (take (i + 1) v)
sets_more l v at i h =
    let e : length (take i v) ≡ i = length-take i v ∙ omega arith in
    sym (ap (λ n. sets l at (take n v)) (add-one i) ∙ ap (sets l at) (take-suc v i 0 h) ∙ sets_append l at (take i v) (get_or v i 0 ∷ [])
    ∙ ap (λ n. set (sets l at (take i v)) (at + n) (get_or v i 0)) e)

-- nothing is put
pub put_none : (l : List ℕ) (at : ℕ) → at ≤ length l → Put l at [] l at
put_none l at h = record { put = refl; behind = omega arith; room = h }

-- the buffer keeps its length
pub put_kept : {l m u : List ℕ} {at i : ℕ} → Put l at u m i → length m ≡ length l
put_kept {l} {u = u} {at = at} p = ap length p.put ∙ length-sets l at u

-- one text behind another
pub put_then : {l m n u v : List ℕ} {at i j : ℕ} → Put l at u m i → Put m i v n j → Put l at (u ++ v) n j
put_then {l} {u = u} {v = v} {at = at} p q = record {
  put = q.put ∙ ap₂ (λ m i. sets m i v) p.put p.behind ∙ sym (sets_append l at u v);
  behind = omega (arith, p.behind, q.behind, length-append u v);
  room = omega (arith, q.room, put_kept p);
}

-- a text equal to the one that is put
pub put_as : {l m u v : List ℕ} {at i : ℕ} → u ≡ v → Put l at u m i → Put l at v m i
put_as {l} {m} {at = at} {i = i} e p = subst (λ t. Put l at t m i) e p

-- what is put from the start on stands at the front; the other bytes stay
pub put_front : {l m t : List ℕ} {r : ℕ} → Put l 0 t m r → (take r m ≡ t) × (drop r m ≡ drop r l)
put_front {l} {t = t} {r = r} p =
    let e : length t ≡ r = omega (arith, p.behind) in
    let q = p.put ∙ sets_start l t r e p.room in
    (ap (take r) q ∙ take_at t (drop r l) r e, ap (drop r) q ∙ drop_at t (drop r l) r e)

pub length_three : (u v w : List ℕ) → length (u ++ (v ++ w)) ≡ length u + (length v + length w)
length_three u v w = omega (arith, length-append u (v ++ w), length-append v w)

-- the texts of a list, with that of one element more, for loops
module _ {A : Type 0} (f : A → List ℕ) where
  pub flat_map_more : (v : List A) (i : ℕ) (d : A) → i < length v → flat_map f (take i v) ++ f (get_or v i d) ≡ flat_map f (take (i + 1) v)
  flat_map_more v i d h = sym (ap (λ n. flat_map f (take n v)) (add-one i) ∙ ap (flat_map f) (take-suc v i d h) ∙ last (take i v) (get_or v i d))
    where
      last : (u : List A) (a : A) → flat_map f (u ++ (a ∷ [])) ≡ flat_map f u ++ f a
      last [] a = append-nil (f a)
      last (c ∷ u) a = ap (λ r. f c ++ r) (last u a) ∙ sym (append_assoc (f c) (flat_map f u) (f a))

  pub flat_map_room : (v : List A) (i : ℕ) (d : A) → i < length v → length (flat_map f (take i v)) + length (f (get_or v i d)) ≤ length (flat_map f v)
  flat_map_room [] i d h = absurd (omega arith)
  flat_map_room (a ∷ v) zero d h = omega (arith, length-append (f a) (flat_map f v))
  flat_map_room (a ∷ v) (suc i) d h =
      omega (arith, flat_map_room v i d (omega arith), length-append (f a) (flat_map f (take i v)), length-append (f a) (flat_map f v))
