-- The counts in one number.
use Rattle.std.proofs.Common.{◌≡◌, ℕ, zero, suc, ◌+◌, ◌*◌, ◌/◌, ◌%◌, ◌^◌, ◌<◌, T, ltb, List, [], ◌∷◌, map, length, sym, refl, ap, ◌∙◌, mod-lt, mod-eq_of_lt, div-one, arith, lt→ltb, pow_pos, shr-shr}
use native.Mathlib.Nat.{mod-one}
use lib.Pow.{mod-pow-add}
use Rattle.profile.specs.Lists.{all, below, flat_map, range}
use Rattle.profile.specs.Tables.{Layout, layout, pack}
use Rattle.profile.proofs.Lists.{both}
use Rattle.theory.proofs.Counting.{length_range}
use Rattle.counts.specs.declared.Counts.{Counts}
use Rattle.counts.specs.Counts.{counts_in, word_count, word_counts, words}

pub word_counts_length : (L : Layout) (w : ℕ) → length (word_counts L w) ≡ L.per
word_counts_length L w = length_range (word_count L w) L.per 0

-- a count is below 2 ^ width
pub word_counts_below : (L : Layout) (w : ℕ) → T (all (λ n. ltb n (2 ^ L.width)) (word_counts L w))
unfolding word_count
word_counts_below L w = go (below L.per)
  where
    go : (l : List ℕ) → T (all (λ n. ltb n (2 ^ L.width)) (map (word_count L w) l))
    go [] = tt
    go (x ∷ l) =
        both (ltb (word_count L w x) (2 ^ L.width)) (all (λ n. ltb n (2 ^ L.width)) (map (word_count L w) l))
        (lt→ltb (word_count L w x) (2 ^ L.width) (mod-lt (w / 2 ^ (L.width * x)) (pow_pos L.width))) (go l)

-- a number is its counts packed
pub pack_word_counts : (L : Layout) (w : ℕ) → w < 2 ^ (L.width * L.per) → pack L.width (word_counts L w) ≡ w
unfolding word_count
pack_word_counts L w h = from L.per 0 ∙ ap (λ m. w / 2 ^ m % 2 ^ (L.width * L.per)) zero_bits ∙ ap (λ m. m % 2 ^ (L.width * L.per)) (div-one w) ∙ mod-eq_of_lt h
  where
    zero_bits : L.width * 0 ≡ 0
    zero_bits = omega arith

    -- n counts from place x on
    from : (n x : ℕ) → pack L.width (map (word_count L w) (range x n)) ≡ w / 2 ^ (L.width * x) % 2 ^ (L.width * n)
    from zero x = sym (ap (λ m. w / 2 ^ (L.width * x) % 2 ^ m) zero_bits ∙ mod-one (w / 2 ^ (L.width * x)))
    from (suc n) x =
        let b = L.width in
        let u = w / 2 ^ (b * x) in
        let e : b * suc x ≡ b * x + b = omega arith in
        let f : b * n + b ≡ b * suc n = omega arith in
        let s : w / 2 ^ (b * suc x) ≡ u / 2 ^ b = ap (λ m. w / 2 ^ m) e ∙ sym (shr-shr w (b * x) b) in
        let p : pack b (map (word_count L w) (range (suc x) n)) ≡ u / 2 ^ b % 2 ^ (b * n) = from n (suc x) ∙ ap (λ m. m % 2 ^ (b * n)) s in
        let q : u / 2 ^ b % 2 ^ (b * n) * 2 ^ b + u % 2 ^ b ≡ u % 2 ^ (b * suc n) = sym (mod-pow-add u (b * n) b) ∙ ap (λ m. u % 2 ^ m) f in
        omega (arith, ap (λ m. 2 ^ b * m) p, q)

-- numbers of the same counts are the same
pub word_counts_inj : (L : Layout) (v w : ℕ) → v < 2 ^ (L.width * L.per) → w < 2 ^ (L.width * L.per) → word_counts L v ≡ word_counts L w → v ≡ w
word_counts_inj L v w h k e = sym (pack_word_counts L v h) ∙ ap (pack L.width) e ∙ pack_word_counts L w k

-- the counts of a record, a number at a time
pub counts_by_word : (c : Counts) → counts_in layout (words c) ≡ flat_map (word_counts layout) (words c)
unfolding word_count
counts_by_word c = refl
