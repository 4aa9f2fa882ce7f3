-- Counts, packed: one more of a letter, equality, order and total, for any layout.
use Rattle.std.proofs.Common.{◌≡◌, ℕ, zero, suc, ◌+◌, ◌-◌, ◌*◌, ◌/◌, ◌%◌, ◌^◌, ◌<◌, ◌≤◌, Bool, true, cond, not, T, ltb, List, [], ◌∷◌, ◌++◌, map, length, get_or, take, drop, set, replicate, sym, refl, ap, ◌∙◌, subst, ap₂, ⊎_elim, lt_of_lt_of_le, mod-eq_of_lt, div-lt_iff_lt-mul, mul-le-mul_left, zero-add, arith, length-append, take-append-drop, length-take, get_or-set_same, get_or-append-add, ext_get_or, pow_mono}
use lib.ListN.{length-replicate, get_or-replicate, get_or-append, get_or-eq_default}
use Rattle.profile.specs.Lists.{all, equal?, flat_map}
use Rattle.profile.specs.Orders.{no_later?}
use Rattle.profile.specs.Prefixes.{at, total}
use Rattle.profile.specs.Tables.{Layout, count_field, pack, packed}
use Rattle.profile.proofs.Lists.{all_split, equal_test, is_false, is_true, lt_or_le, test}
use Rattle.profile.proofs.Sets.{t_eq}
use Rattle.theory.proofs.Counting.{at_map, length_range}
use Rattle.theory.proofs.Levels.{bump}
use Rattle.theory.proofs.Packing.{field_packed, pack_below, packed_bump, packed_inj, packed_length}
use Rattle.counts.specs.Counts.{add_count, before?, counts_in}
use Rattle.counts.proofs.Order.{no_later_append, no_later_self}

-- the counts v are below 2 ^ width, so that each has its own bits
abbrev pub Small : Layout → List ℕ → Type 0
Small L v = T (all (λ n. ltb n (2 ^ L.width)) v)

-- ---- one more

-- a test that all elements pass, the first n pass, and those behind them
all_parts : (p : ℕ → Bool) (n : ℕ) (l : List ℕ) → T (all p l) → T (all p (take n l)) × T (all p (drop n l))
all_parts p n l h = all_split p (take n l) (drop n l) (subst (λ m. T (all p m)) (sym (take-append-drop n l)) h)

-- a number of packed counts has no bit from width * per on
number_below : (L : Layout) (v : List ℕ) (j : ℕ) → j < L.numbers → Small L v → get_or (packed L v) j 0 < 2 ^ (L.width * L.per)
number_below L v j lt h =
    let rest = drop ((0 + j) * L.per) v in
    let w = take L.per rest in
    let k : Small L w = (all_parts (λ n. ltb n (2 ^ L.width)) L.per rest (all_parts (λ n. ltb n (2 ^ L.width)) ((0 + j) * L.per) v h).1).0 in
    let short : length w ≤ L.per = omega (arith, length-take L.per rest) in
    subst (λ m. m < 2 ^ (L.width * L.per)) (sym (at_map (λ j. pack L.width (take L.per (drop (j * L.per) v))) L.numbers 0 j lt))
    (lt_of_lt_of_le (pack_below L.width w k) (pow_mono (mul-le-mul_left L.width short)))

-- one more of letter a in the numbers is one more of a in the counts, where its count stays below 2 ^ width: no carry
pub add_packed : (L : Layout) (v : List ℕ) (a : ℕ) → L.width * L.per ≡ 32 → a < length v → length v ≤ L.per * L.numbers → Small L (bump v a)
    → add_count L (packed L v) a ≡ packed L (bump v a)
add_packed L v a e lt le h =
    let q = a / L.per in
    let n = get_or (packed L v) q 0 + 2 ^ (L.width * (a % L.per)) in
    let b = packed_bump L v a lt le in
    let positive : 0 < L.per =
    ⊎_elim (λ p. p) (λ z. let e₀ : L.per ≡ 0 = omega arith in absurd (omega (arith, ap (λ m. L.width * m) e₀))) (lt_or_le 0 L.per) in
    let hq : q < L.numbers = (div-lt_iff_lt-mul {x = a} positive).1 (omega arith) in
    let value : get_or (packed L (bump v a)) q 0 ≡ n = ap (λ t. get_or t q 0) b ∙ get_or-set_same (packed L v) q n 0 (omega (arith, packed_length L v)) in
    let small : n < 2 ^ 32 = subst (λ m. n < 2 ^ m) e (subst (λ m. m < 2 ^ (L.width * L.per)) value (number_below L (bump v a) q hq h)) in
    ap (set (packed L v) q) (mod-eq_of_lt small) ∙ sym b

-- ---- equality and order

-- equality by numbers
pub same_packed : (L : Layout) (v w : List ℕ) → length v ≡ length w → length v ≤ L.per * L.numbers → Small L v → Small L w
    → equal? (packed L v) (packed L w) ≡ equal? v w
same_packed L v w e le h k = t_eq (equal? (packed L v) (packed L w)) (equal? v w)
    (λ t. (equal_test v w).1 (packed_inj L v w e le h k ((equal_test (packed L v) (packed L w)).0 t)))
    (λ t. (equal_test (packed L v) (packed L w)).1 (ap (packed L) ((equal_test v w).0 t)))

-- the counts of the letters from n on, none of them counted
abbrev pub zeros : Layout → ℕ → List ℕ
zeros L n = replicate (L.per * L.numbers - n) 0

-- packed counts are read back, with 0 for the letters past the last
pub counts_in_packed : (L : Layout) (v : List ℕ) → length v ≤ L.per * L.numbers → Small L v
    → counts_in L (packed L v) ≡ v ++ zeros L (length v)
counts_in_packed L v le h = ext_get_or 0 (counts_in L (packed L v)) (v ++ rest) (all-counted ∙ sym whole) (λ i lt.
    let k : i < L.per * L.numbers = omega (arith, all-counted) in
    at_map (count_field L (packed L v)) (L.per * L.numbers) 0 i k ∙ ap (count_field L (packed L v)) (zero-add i) ∙ field_packed L v i h k
    ∙ ⊎_elim (λ s. sym (get_or-append v rest 0 i s)) (past i k) (lt_or_le i (length v)))
  where
    rest : List ℕ
    rest = zeros L (length v)

    all-counted : length (counts_in L (packed L v)) ≡ L.per * L.numbers
    all-counted = length_range (count_field L (packed L v)) (L.per * L.numbers) 0

    whole : length (v ++ rest) ≡ L.per * L.numbers
    whole = omega (arith, length-append v rest, length-replicate {A = ℕ} (L.per * L.numbers - length v) 0)

    past : (i : ℕ) → i < L.per * L.numbers → length v ≤ i → at v i ≡ get_or (v ++ rest) i 0
    past i k g =
        let e : length v + (i - length v) ≡ i = omega arith in
        get_or-eq_default v 0 g
        ∙ sym (ap (λ j. get_or (v ++ rest) j 0) (sym e) ∙ get_or-append-add v rest (i - length v) 0
        ∙ get_or-replicate (L.per * L.numbers - length v) (i - length v) 0 0 (omega arith))

-- the same counts behind both do not count
pub same_tail : (u v x : List ℕ) → length u ≡ length v → no_later? (u ++ x) (v ++ x) ≡ no_later? u v
same_tail u v x e = no_later_append u v x x e ∙ ⊎_elim
    (λ t. ap (λ p. cond p (no_later? x x) (no_later? u v)) (is_true (equal? u v) t) ∙ no_later_self x
    ∙ subst (λ z. true ≡ no_later? u z) ((equal_test u v).0 t) (sym (no_later_self u)))
    (λ t. ap (λ p. cond p (no_later? x x) (no_later? u v)) (is_false (equal? u v) t)) (test (equal? u v))

-- the order of packed counts is the order of counts
pub before_packed : (L : Layout) (v w : List ℕ) → length v ≡ length w → length v ≤ L.per * L.numbers → Small L v → Small L w
    → before? L (packed L v) (packed L w) ≡ not (no_later? w v)
before_packed L v w e le h k =
    ap not (ap₂ no_later? (counts_in_packed L w (omega arith) k) (counts_in_packed L v le h)
    ∙ ap (λ n. no_later? (w ++ zeros L (length w)) (v ++ zeros L n)) e ∙ same_tail w v (zeros L (length w)) (sym e))

-- ---- total

pub total_append : (u x : List ℕ) → total (u ++ x) ≡ total u + total x
total_append [] x = omega arith
total_append (n ∷ u) x = omega (arith, total_append u x)

-- the total of lists in a row
pub total_flat : (f : ℕ → List ℕ) (t : List ℕ) → total (flat_map f t) ≡ total (map (λ w. total (f w)) t)
total_flat f [] = refl
total_flat f (w ∷ t) = total_append (f w) (flat_map f t) ∙ ap (λ n. total (f w) + n) (total_flat f t)

-- the total of packed counts is the total of the counts
pub total_packed : (L : Layout) (v : List ℕ) → length v ≤ L.per * L.numbers → Small L v → total (counts_in L (packed L v)) ≡ total v
total_packed L v le h = ap total (counts_in_packed L v le h) ∙ total_append v (zeros L (length v)) ∙ omega (arith, none (L.per * L.numbers - length v))
  where
    none : (n : ℕ) → total (replicate n 0) ≡ 0
    none zero = refl
    none (suc n) = omega (arith, none n)
