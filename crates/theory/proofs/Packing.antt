-- Counts in one number and in the numbers of a record; the lexicographic order of lists of counts, as a number.
use mathlib.Core.Path.{◌≡◌, refl, sym, ◌∙◌, ap, ap₂, subst, fun_ext}
use mathlib.Core.Bool.{Bool, not}
use mathlib.Core.Logic.{⊎_elim, ◌≢◌}
use mathlib.Core.List.{List, [], ◌∷◌, map}
use Prim.Native.Nat.{ℕ, zero, suc, ◌+◌, ◌-◌, ◌*◌, ◌/◌, ◌%◌, ◌^◌, ◌≤◌, ◌<◌}
use native.Mathlib.Omega.{arith}
use native.Mathlib.Nat.{zero-add, add-mul-div_left, add-mul-mod_self_left, div-add-mod', div-div-eq-div-mul, div-eq_of_lt, div-lt_iff_lt-mul, div-one, mod-eq_of_lt, mod-lt, pow-succ', pow-zero, zero-div, zero-mod, zero-mul, mul-le-mul_right}
use lib.Arith.{digits_lt, lt_of_le-ne}
use lib.Pow.{pow-add, pow_pos}
use lib.Dec.{T, T_not, eqb, eqb→eq, eqb_refl, ltb, ltb→lt}
use lib.ListN.{length, get_or, take, drop, set, length-drop, length-set, length-take, take-append-drop}
use lib.Seq.{ext_get_or, get_or-drop, get_or-take, get_or-set_same, get_or-set_other, drop-set-add, drop-set-lt, take-set-le, take-set-lt}
use Rattle.profile.specs.Lists.{all, below}
use Rattle.profile.specs.Prefixes.{at}
use Rattle.profile.specs.Orders.{Earlier, NoLater, agrees, ends, smaller}
use Rattle.profile.specs.Tables.{Layout, count_field, pack, packed}
use Rattle.profile.proofs.Lists.{all_split, fst_of, lt_or_le, snd_of, test}
use Rattle.theory.proofs.Counting.{at_map, length_range}
use Rattle.theory.proofs.Earliest.{no_later_antisym}
use Rattle.theory.proofs.Levels.{bump}

-- ---- one number

-- the first count is below B, and so are the others
head_below : (B n : ℕ) (c : List ℕ) → T (all (λ m. ltb m B) (n ∷ c)) → n < B
head_below B n c h = ltb→lt n B (fst_of (ltb n B) (all (λ m. ltb m B) c) h)

tail_below : (B n : ℕ) (c : List ℕ) → T (all (λ m. ltb m B) (n ∷ c)) → T (all (λ m. ltb m B) c)
tail_below B n c h = snd_of (ltb n B) (all (λ m. ltb m B) c) h

-- the bits of a count start at b times its place
bits_suc : (b x : ℕ) → 2 ^ (b * suc x) ≡ 2 ^ b * 2 ^ (b * x)
bits_suc b x = let e : b * suc x ≡ b + b * x = omega arith in ap (λ n. 2 ^ n) e ∙ pow-add 2 b (b * x)

bits_zero : (b : ℕ) → 2 ^ (b * 0) ≡ 1
bits_zero b = let e : b * 0 ≡ 0 = omega arith in ap (λ n. 2 ^ n) e

-- the count at place x is read from its bits; past the end it is 0
pub pack_digit : (b : ℕ) (c : List ℕ) (x : ℕ) → T (all (λ n. ltb n (2 ^ b)) c) → pack b c / 2 ^ (b * x) % 2 ^ b ≡ at c x
pack_digit b [] x h = ap (λ n. n % 2 ^ b) (zero-div (2 ^ (b * x))) ∙ zero-mod (2 ^ b)
pack_digit b (n ∷ c) zero h =
    let lt = head_below (2 ^ b) n c h in
    ap (λ m. (n + 2 ^ b * pack b c) / m % 2 ^ b) (bits_zero b) ∙ ap (λ m. m % 2 ^ b) (div-one (n + 2 ^ b * pack b c)) ∙ add-mul-mod_self_left n (2 ^ b) (pack b c)
    ∙ mod-eq_of_lt lt
pack_digit b (n ∷ c) (suc x) h =
    let lt = head_below (2 ^ b) n c h in
    let e : (n + 2 ^ b * pack b c) / 2 ^ b ≡ pack b c = omega (arith, add-mul-div_left n (pack b c) (pow_pos b), div-eq_of_lt lt) in
    ap (λ m. (n + 2 ^ b * pack b c) / m % 2 ^ b) (bits_suc b x) ∙ ap (λ m. m % 2 ^ b) (sym (div-div-eq-div-mul (n + 2 ^ b * pack b c) (2 ^ b) (2 ^ (b * x))))
    ∙ ap (λ m. m / 2 ^ (b * x) % 2 ^ b) e ∙ pack_digit b c x (tail_below (2 ^ b) n c h)

pub pack_below : (b : ℕ) (c : List ℕ) → T (all (λ n. ltb n (2 ^ b)) c) → pack b c < 2 ^ (b * length c)
pack_below b [] h = omega (arith, bits_zero b)
pack_below b (n ∷ c) h =
    let lt = head_below (2 ^ b) n c h in
    omega (arith, digits_lt (pack_below b c (tail_below (2 ^ b) n c h)) lt, bits_suc b (length c))

-- one x more adds 1 at its bits
pub pack_bump : (b : ℕ) (c : List ℕ) (x : ℕ) → x < length c → pack b (bump c x) ≡ pack b c + 2 ^ (b * x)
pack_bump b [] x h = absurd (omega arith)
pack_bump b (n ∷ c) zero h = omega (arith, bits_zero b)
pack_bump b (n ∷ c) (suc x) h = omega (arith, ap (λ m. 2 ^ b * m) (pack_bump b c x (omega arith)), bits_suc b x)

-- ---- the numbers of a record

-- a test that all counts pass, the counts of a window pass
window_all : (p : ℕ → Bool) (n m : ℕ) (c : List ℕ) → T (all p c) → T (all p (take n (drop m c)))
window_all p n m c h =
    let r = (all_split p (take m c) (drop m c) (subst (λ l. T (all p l)) (sym (take-append-drop m c)) h)).1 in
    (all_split p (take n (drop m c)) (drop n (drop m c)) (subst (λ l. T (all p l)) (sym (take-append-drop n (drop m c))) r)).0

-- what is below a product has a factor above 0
factor_pos : (p n : ℕ) {i : ℕ} → i < p * n → 0 < p
factor_pos zero n h = absurd (omega (arith, zero-mul n))
factor_pos (suc p) n h = omega arith

pub packed_length : (L : Layout) (c : List ℕ) → length (packed L c) ≡ L.numbers
packed_length L c = length_range (λ j. pack L.width (take L.per (drop (j * L.per) c))) L.numbers 0

-- number j holds the counts from j * per on, as many as one number takes
packed_number : (L : Layout) (c : List ℕ) (j : ℕ) → j < L.numbers → get_or (packed L c) j 0 ≡ pack L.width (take L.per (drop (j * L.per) c))
packed_number L c j h =
    at_map (λ j. pack L.width (take L.per (drop (j * L.per) c))) L.numbers 0 j h
    ∙ ap (λ m. pack L.width (take L.per (drop (m * L.per) c))) (zero-add j)

-- place i is place i % per of number i / per
window_lt : (L : Layout) (i : ℕ) → i < L.per * L.numbers → (i / L.per < L.numbers) × (i % L.per < L.per) × (i / L.per * L.per + i % L.per ≡ i)
window_lt L i h =
    let pos = factor_pos L.per L.numbers h in
    ((div-lt_iff_lt-mul {x = i} pos).1 (omega arith), mod-lt i pos, div-add-mod' i L.per)

pub field_packed : (L : Layout) (c : List ℕ) (i : ℕ) → T (all (λ n. ltb n (2 ^ L.width)) c) → i < L.per * L.numbers → count_field L (packed L c) i ≡ at c i
field_packed L c i h lt =
    let q = i / L.per in
    let r = i % L.per in
    let w = window_lt L i lt in
    ap (λ n. n / 2 ^ (L.width * r) % 2 ^ L.width) (packed_number L c q w.0)
    ∙ pack_digit L.width (take L.per (drop (q * L.per) c)) r (window_all (λ n. ltb n (2 ^ L.width)) L.per (q * L.per) c h)
    ∙ get_or-take L.per (drop (q * L.per) c) r 0 w.1 ∙ get_or-drop (q * L.per) c r 0 ∙ ap (at c) w.2

-- equality by words
pub packed_inj : (L : Layout) (c d : List ℕ) → length c ≡ length d → length c ≤ L.per * L.numbers
    → T (all (λ n. ltb n (2 ^ L.width)) c) → T (all (λ n. ltb n (2 ^ L.width)) d) → packed L c ≡ packed L d → c ≡ d
packed_inj L c d e le h k q = ext_get_or 0 c d e (λ i lt.
    sym (field_packed L c i h (omega arith)) ∙ ap (λ t. count_field L t i) q ∙ field_packed L d i k (omega arith))

-- the window of number j, after one x more: for the number of x one more at its place there, for the others as before
window_same : (p q r : ℕ) (c : List ℕ) → r < p → take p (drop (q * p) (bump c (q * p + r))) ≡ bump (take p (drop (q * p) c)) r
window_same p q r c h =
    let e : at c (q * p + r) ≡ at (take p (drop (q * p) c)) r = sym (get_or-take p (drop (q * p) c) r 0 h ∙ get_or-drop (q * p) c r 0) in
    ap (take p) (drop-set-add (q * p) c r (suc (at c (q * p + r)))) ∙ take-set-lt p (drop (q * p) c) r (suc (at c (q * p + r))) h
    ∙ ap (λ n. set (take p (drop (q * p) c)) r (suc n)) e

window_other : (p q r j : ℕ) (c : List ℕ) → r < p → j ≢ q → take p (drop (j * p) (bump c (q * p + r))) ≡ take p (drop (j * p) c)
window_other p q r j c h ne = ⊎_elim before after (lt_or_le j q)
  where
    before : j < q → take p (drop (j * p) (bump c (q * p + r))) ≡ take p (drop (j * p) c)
    before lt =
        let le : j * p + p ≤ q * p = omega (arith, mul-le-mul_right {m = suc j} {n = q} p (omega arith)) in
        let e : q * p + r ≡ j * p + (q * p + r - j * p) = omega arith in
        ap (λ x. take p (drop (j * p) (set c x (suc (at c (q * p + r)))))) e
        ∙ ap (take p) (drop-set-add (j * p) c (q * p + r - j * p) (suc (at c (q * p + r))))
        ∙ take-set-le p (drop (j * p) c) (q * p + r - j * p) (suc (at c (q * p + r))) (omega arith)

    after : q ≤ j → take p (drop (j * p) (bump c (q * p + r))) ≡ take p (drop (j * p) c)
    after le =
        let lt : q < j = lt_of_le-ne le (λ e. ne (sym e)) in
        let m : q * p + p ≤ j * p = omega (arith, mul-le-mul_right {m = suc q} {n = j} p (omega arith)) in
        ap (take p) (drop-set-lt (j * p) c (q * p + r) (suc (at c (q * p + r))) (omega arith))

-- one more at place r of number q
bump_at : (L : Layout) (c : List ℕ) (q r : ℕ) → q < L.numbers → r < L.per → q * L.per + r < length c
    → packed L (bump c (q * L.per + r)) ≡ set (packed L c) q (get_or (packed L c) q 0 + 2 ^ (L.width * r))
bump_at L c q r hq hr h = ext_get_or 0 (packed L d) (set (packed L c) q v) (packed_length L d ∙ sym (length-set (packed L c) q v ∙ packed_length L c))
    (λ j lt. let k : j < L.numbers = omega (arith, packed_length L d) in packed_number L d j k ∙ ⊎_elim (same j) (other j k) (test (eqb j q)))
  where
    d : List ℕ
    d = bump c (q * L.per + r)

    v : ℕ
    v = get_or (packed L c) q 0 + 2 ^ (L.width * r)

    same : (j : ℕ) → T (eqb j q) → pack L.width (take L.per (drop (j * L.per) d)) ≡ get_or (set (packed L c) q v) j 0
    same j t =
        let w = take L.per (drop (q * L.per) c) in
        let in_window : r < length w = simp (length-take, length-drop) (omega arith) in
        subst (λ j. pack L.width (take L.per (drop (j * L.per) d)) ≡ get_or (set (packed L c) q v) j 0) (sym (eqb→eq j q t))
        (ap (pack L.width) (window_same L.per q r c hr) ∙ pack_bump L.width w r in_window
        ∙ ap (λ n. n + 2 ^ (L.width * r)) (sym (packed_number L c q hq))
        ∙ sym (get_or-set_same (packed L c) q v 0 (omega (arith, packed_length L c))))

    other : (j : ℕ) → j < L.numbers → T (not (eqb j q)) → pack L.width (take L.per (drop (j * L.per) d)) ≡ get_or (set (packed L c) q v) j 0
    other j k t =
        let ne : j ≢ q = λ e. T_not (eqb j q) t (subst (λ z. T (eqb j z)) e (eqb_refl j)) in
        ap (pack L.width) (window_other L.per q r j c hr ne) ∙ sym (packed_number L c j k) ∙ sym (get_or-set_other (packed L c) q j v 0 ne)

-- one x more adds 1 at its bits of its number
pub packed_bump : (L : Layout) (c : List ℕ) (x : ℕ) → x < length c → length c ≤ L.per * L.numbers
    → packed L (bump c x) ≡ set (packed L c) (x / L.per) (get_or (packed L c) (x / L.per) 0 + 2 ^ (L.width * (x % L.per)))
packed_bump L c x h le =
    let q = x / L.per in
    let r = x % L.per in
    let w = window_lt L x (omega arith) in
    subst (λ y. packed L (bump c y) ≡ set (packed L c) q (get_or (packed L c) q 0 + 2 ^ (L.width * r))) w.2 (bump_at L c q r w.0 w.1 (omega (arith, w.2)))

-- counts that are all 0
pack_zero : (b : ℕ) (c : List ℕ) → T (all (eqb 0) c) → pack b c ≡ 0
pack_zero b [] h = refl
pack_zero b (n ∷ c) h =
    omega (arith, eqb→eq 0 n (fst_of (eqb 0 n) (all (eqb 0) c) h), ap (λ m. 2 ^ b * m) (pack_zero b c (snd_of (eqb 0 n) (all (eqb 0) c) h)))

pub packed_zero : (L : Layout) (k : ℕ) → packed L (map (λ x. 0) (below k)) ≡ map (λ x. 0) (below L.numbers)
packed_zero L k = ap (λ f. map f (below L.numbers))
    (fun_ext (λ j. pack_zero L.width (take L.per (drop (j * L.per) zeros)) (window_all (eqb 0) L.per (j * L.per) zeros (zeros-all (below k)))))
  where
    zeros : List ℕ
    zeros = map (λ x. 0) (below k)

    zeros-all : (l : List ℕ) → T (all (eqb 0) (map (λ x. 0) l))
    zeros-all [] = tt
    zeros-all (x ∷ l) = zeros-all l

-- ---- the order of counts: letter 0 first, the smaller first

-- the counts as the digits of one number to the base B, the first highest
abbrev pub rank : ℕ → List ℕ → ℕ
rank B [] = 0
rank B (n ∷ c) = n * B ^ length c + rank B c

pub rank_below : (B : ℕ) (c : List ℕ) → T (all (λ n. ltb n B) c) → rank B c < B ^ length c
rank_below B [] h = omega (arith, pow-zero B)
rank_below B (n ∷ c) h = omega (
  arith,
  digits_lt (head_below B n c h) (rank_below B c (tail_below B n c h)),
  pow-succ' B (length c),
)

-- one x more adds the value of its place
pub rank_bump : (B : ℕ) (c : List ℕ) (x : ℕ) → x < length c → rank B (bump c x) ≡ rank B c + B ^ (length c - 1 - x)
rank_bump B [] x h = absurd (omega arith)
rank_bump B (n ∷ c) zero h = let e : suc (length c) - 1 - 0 ≡ length c = omega arith in omega (arith, ap (λ m. B ^ m) e)
rank_bump B (n ∷ c) (suc x) h =
    let e : suc (length c) - 1 - suc x ≡ length c - 1 - x = omega arith in
    omega (arith, ap (λ m. B ^ m) e, ap (λ m. n * B ^ m) (length-set c x (suc (at c x))), rank_bump B c x (omega arith))

-- lists of as many counts, all below B, are in the order of their ranks
module _ (B : ℕ) where
  rank_le_of : {c d : List ℕ} → length c ≡ length d → T (all (λ n. ltb n B) c) → NoLater c d → rank B c ≤ rank B d
  rank_le_of l h ends = omega arith
  rank_le_of l h (smaller {a = n} {b = m} {u = c} {v = d} lt) =
      let p = digits_lt lt (rank_below B c (tail_below B n c h)) in
      let e : length c ≡ length d = omega arith in
      omega (arith, ap (λ z. m * B ^ z) e)
  rank_le_of l h (agrees {a = n} {b = m} {u = c} {v = d} e r) =
      let q = rank_le_of (omega arith) (tail_below B n c h) r in
      let f : length c ≡ length d = omega arith in
      omega (arith, ap₂ (λ y z. y * B ^ z) e f)

  rank_le_at : (c d : List ℕ) → length c ≡ length d → T (all (λ n. ltb n B) c) → T (all (λ n. ltb n B) d) → rank B c ≤ rank B d → NoLater c d
  rank_le_at [] d l h k le = ends
  rank_le_at (n ∷ c) [] l h k le = absurd (omega arith)
  rank_le_at (n ∷ c) (m ∷ d) l h k le =
      let e : length c ≡ length d = omega arith in
      let a = rank_below B c (tail_below B n c h) in
      let b = rank_below B d (tail_below B m d k) in
      ⊎_elim smaller
      (λ g. ⊎_elim (λ lt. absurd (omega (arith, digits_lt lt b, ap (λ z. n * B ^ z) e)))
      (λ f. let q : n ≡ m = omega arith in
      agrees q (rank_le_at c d e (tail_below B n c h) (tail_below B m d k) (omega (arith, ap₂ (λ y z. y * B ^ z) q e)))) (lt_or_le m n)) (lt_or_le n m)

  pub rank_inj : (c d : List ℕ) → length c ≡ length d → T (all (λ n. ltb n B) c) → T (all (λ n. ltb n B) d) → rank B c ≡ rank B d → c ≡ d
  rank_inj c d l h k e = no_later_antisym (rank_le_at c d l h k (omega arith)) (rank_le_at d c (sym l) k h (omega arith))

  pub rank_lt_of : (c d : List ℕ) → length c ≡ length d → T (all (λ n. ltb n B) c) → T (all (λ n. ltb n B) d) → Earlier c d → rank B c < rank B d
  rank_lt_of c d l h k e = lt_of_le-ne (rank_le_of l h e.0) (λ q. e.1 (rank_inj c d l h k q))

  pub rank_lt_at : (c d : List ℕ) → length c ≡ length d → T (all (λ n. ltb n B) c) → T (all (λ n. ltb n B) d) → rank B c < rank B d → Earlier c d
  rank_lt_at c d l h k lt = (rank_le_at c d l h k (omega arith), λ e. omega (arith, ap (rank B) e))
