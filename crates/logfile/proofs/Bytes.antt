-- Numbers in bytes, low byte first, and numbers put one behind the other.
use mathlib.Core.Path.{◌≡◌, refl, sym, ◌∙◌, ap, ap₂}
use mathlib.Core.Logic.{⊎_elim}
use mathlib.Core.List.{List, [], ◌∷◌, ◌++◌, map, map-append, append_assoc}
use Prim.Native.Nat.{ℕ, zero, suc, ◌+◌, ◌*◌, ◌≤◌, ◌<◌}
use native.Mathlib.Numerals.{add-one}
use native.Mathlib.Omega.{arith}
use lib.ListN.{length, get_or, take, drop, set, drop_of_length-le, get_or-eq_default}
use lib.Seq.{drop-cons, set_at, take-nil}
use Rattle.std.proofs.lemmas.List.{length-map}
use Rattle.profile.specs.Lists.{below, range}
use Rattle.profile.specs.Tables.{pack}
use Rattle.theory.proofs.Counting.{length_range}
use Rattle.profile.proofs.Lists.{below_suc, lt_or_le}
use Rattle.logfile.specs.Files.{half, number, numbers_from}

-- ---- read

-- the first byte is the lowest; past the end there is 0
number_suc : (b : ℕ) (f : List ℕ) (i : ℕ) → number (suc b) f i ≡ get_or f i 0 + 256 * number b f (suc i)
number_suc b f i = ⊎_elim inside past (lt_or_le i (length f))
  where
    inside : i < length f → number (suc b) f i ≡ get_or f i 0 + 256 * number b f (suc i)
    inside h = ap (λ l. pack 8 (take (suc b) l)) (drop-cons f i 0 h)

    past : length f ≤ i → number (suc b) f i ≡ get_or f i 0 + 256 * number b f (suc i)
    past h =
        let e : number (suc b) f i ≡ 0 = ap (λ l. pack 8 (take (suc b) l)) (drop_of_length-le f h) in
        let d : number b f (suc i) ≡ 0 = ap (λ l. pack 8 (take b l)) (drop_of_length-le f {i = suc i} (omega arith)) ∙ ap (pack 8) (take-nil b) in
        omega (arith, get_or-eq_default f 0 h)

pub half_eq : (f : List ℕ) (i : ℕ) → half f i ≡ get_or f i 0 + 256 * get_or f (i + 1) 0
half_eq f i = rw add-one (omega (arith, number_suc 1 f i, number_suc 0 f (suc i)))

pub numbers_length : (b : ℕ) (f : List ℕ) (i n : ℕ) → length (numbers_from b f i n) ≡ n
numbers_length b f i n = length_range (λ j. number b f (i + b * j)) n 0

-- ---- put

range_length : (n a : ℕ) → length (range a n) ≡ n
range_length zero a = refl
range_length (suc n) a = ap suc (range_length n (suc a))

-- the first numbers are put, and one more behind them
pub front_more : {A : Type 0} (f : ℕ → A) (l : List A) (i : ℕ) → i < length l → set (map f (below i) ++ drop i l) i (f i) ≡ map f (below (i + 1)) ++ drop (i + 1) l
front_more f l i h =
    ap (λ r. set (map f (below i) ++ r) i (f i)) (drop-cons l i (f i) h)
    ∙ set_at (map f (below i)) (get_or l i (f i)) (drop (suc i) l) (f i) i (length-map (below i) f ∙ range_length i 0)
    ∙ sym (append_assoc (map f (below i)) (f i ∷ []) (drop (suc i) l))
    ∙ ap₂ (λ u m. u ++ drop m l) (sym (map-append f (below i) (i ∷ [])) ∙ ap (map f) (sym (below_suc i)) ∙ ap (λ n. map f (below n)) (sym (add-one i))) (sym (add-one i))
