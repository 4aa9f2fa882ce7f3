-- Numbers of a file as it has them and as loops store them, one more at a time.
use mathlib.Core.Path.{◌≡◌, sym, ◌∙◌, ap}
use mathlib.Core.Logic.{⊎_elim}
use mathlib.Core.List.{List, [], ◌∷◌, ◌++◌, map, map-append, append-nil, append_assoc}
use Prim.Native.Nat.{ℕ, suc, ◌+◌, ◌*◌, ◌/◌, ◌%◌, ◌≤◌, ◌<◌}
use native.Mathlib.Nat.{div-div-eq-div-mul, zero-add}
use native.Mathlib.Numerals.{add-one}
use native.Mathlib.Omega.{arith}
use lib.ListN.{length, get_or, take, set, drop_of_length-le, length-take, get_or-eq_default}
use lib.Seq.{sets, drop-cons, take-nil, take-suc}
use Rattle.profile.specs.Lists.{below, flat_map}
use Rattle.profile.specs.Tables.{pack}
use Rattle.theory.proofs.Counting.{length_range}
use Rattle.profile.proofs.Lists.{below_suc, flat_map_length, lt_or_le}
use Rattle.putting.proofs.Texts.{sets_append}
use Rattle.logfile.specs.Files.{half, number, word}
use Rattle.filewriter.specs.Written.{low_bytes}

-- ---- four bytes are two and two

pub low_four : (n : ℕ) → low_bytes 4 n ≡ low_bytes 2 n ++ low_bytes 2 (n / 65536)
low_four n = ap (λ m. n % 256 ∷ n / 256 % 256 ∷ low_bytes 2 m) (div-div-eq-div-mul n 256 256)

-- the first byte is the lowest; past the end there is 0
number_suc : (b : ℕ) (f : List ℕ) (i : ℕ) → number (suc b) f i ≡ get_or f i 0 + 256 * number b f (suc i)
number_suc b f i = ⊎_elim inside past (lt_or_le i (length f))
  where
    inside : i < length f → number (suc b) f i ≡ get_or f i 0 + 256 * number b f (suc i)
    inside h = ap (λ l. pack 8 (take (suc b) l)) (drop-cons f i 0 h)

    past : length f ≤ i → number (suc b) f i ≡ get_or f i 0 + 256 * number b f (suc i)
    past h =
        let e : number (suc b) f i ≡ 0 = ap (λ l. pack 8 (take (suc b) l)) (drop_of_length-le f h) in
        let d : number b f (suc i) ≡ 0 = ap (λ l. pack 8 (take b l)) (drop_of_length-le f {i = suc i} (omega arith)) ∙ ap (pack 8) (take-nil b) in
        omega (arith, get_or-eq_default f 0 h)

pub word_eq : (f : List ℕ) (i : ℕ) → word f i ≡ half f i + 65536 * half f (i + 2)
word_eq f i =
    let e : i + 2 ≡ suc (suc i) = omega arith in
    rw e (omega (arith, number_suc 3 f i, number_suc 2 f (suc i), number_suc 1 f i, number_suc 0 f (suc i)))

-- ---- stored

-- with one element more, for loops: of f of the numbers from 0 on, of the lists f a
pub map_more : (f : ℕ → ℕ) (l : List ℕ) (i : ℕ) → set (sets l 0 (map f (below i))) i (f i) ≡ sets l 0 (map f (below (i + 1)))
map_more f l i =
    sym (ap (λ n. sets l 0 (map f (below n))) (add-one i) ∙ ap (λ r. sets l 0 (map f r)) (below_suc i) ∙ ap (sets l 0) (map-append f (below i) (i ∷ []))
    ∙ sets_append l 0 (map f (below i)) (f i ∷ []) ∙ ap (λ n. set (sets l 0 (map f (below i))) n (f i)) (zero-add (length (map f (below i))) ∙ length_range f i 0))

module _ (f : ℕ → List ℕ) (b : ℕ) (even : (a : ℕ) → length (f a) ≡ b) where
  pub flat_map_more : (l v : List ℕ) (at i : ℕ) → i < length v
      → sets (sets l at (flat_map f (take i v))) (at + b * i) (f (get_or v i 0)) ≡ sets l at (flat_map f (take (i + 1) v))
  flat_map_more l v at i h =
      let e : length (take i v) ≡ i = length-take i v ∙ omega arith in
      sym (ap (λ n. sets l at (flat_map f (take n v))) (add-one i) ∙ ap (λ r. sets l at (flat_map f r)) (take-suc v i 0 h)
      ∙ ap (sets l at) (last (take i v) (get_or v i 0)) ∙ sets_append l at (flat_map f (take i v)) (f (get_or v i 0))
      ∙ ap (λ n. sets (sets l at (flat_map f (take i v))) (at + n) (f (get_or v i 0))) (flat_map_length f b even (take i v) ∙ ap (λ n. b * n) e))
    where
      last : (u : List ℕ) (a : ℕ) → flat_map f (u ++ (a ∷ [])) ≡ flat_map f u ++ f a
      last [] a = append-nil (f a)
      last (c ∷ u) a = ap (λ r. f c ++ r) (last u a) ∙ sym (append_assoc (f c) (flat_map f u) (f a))

-- four lists, each behind the one before
pub sets_four : (l a b c d : List ℕ) {i j k : ℕ} → i ≡ length a → j ≡ i + length b → k ≡ j + length c
    → sets (sets (sets (sets l 0 a) i b) j c) k d ≡ sets l 0 (a ++ (b ++ (c ++ d)))
sets_four l a b c d {i} {j} {k} p q r =
    let l₁ = sets l 0 a in
    let l₂ = sets l₁ i b in
    let e : i ≡ 0 + length a = omega arith in
    sym (sets_append l 0 a (b ++ (c ++ d)) ∙ ap (λ n. sets l₁ n (b ++ (c ++ d))) (sym e) ∙ sets_append l₁ i b (c ++ d) ∙ ap (λ n. sets l₂ n (c ++ d)) (sym q)
    ∙ sets_append l₂ j c d ∙ ap (λ n. sets (sets l₂ j c) n d) (sym r))
