-- Sets in loops: a union that takes number after number, the numbers that pass a test, a set that is gone through from its lowest member on.
use mathlib.Core.Path.{◌≡◌, refl, sym, ◌∙◌, ap, subst}
use mathlib.Core.Bool.{Bool, true, false, cond}
use mathlib.Core.List.Memᴰ
use mathlib.Core.List.{List, [], ◌∷◌, ◌++◌}
use mathlib.Core.Logic.{◌⊎◌, inl, inr, ⊎_elim}
use Prim.Native.Nat.{ℕ, zero, suc, ◌+◌, ◌-◌, ◌*◌, ◌/◌, ◌%◌, ◌^◌, ◌<◌}
use native.Mathlib.Nat.{div-div-eq-div-mul, div-one, pow-suc, pow-succ'}
use native.Mathlib.Numerals.{add-one}
use native.Mathlib.Omega.{arith}
use lib.Bits.{bit_and, bit_or, and_self, and_step, or_block, or_lt, or_shifted_r}
use lib.Count.{count_trailing_zeros, under}
use lib.Dec.{T, eqb}
use lib.Pow.{pow-lt, pow_pos}
use Rattle.profile.specs.Automata.{union}
use Rattle.profile.specs.Lists.{Mem, below, filter}
use Rattle.profile.specs.Traces.{bit}
use Rattle.profile.proofs.Lists.{below_at, below_of, below_suc, either, filter_at, filter_last_no, filter_last_yes, filter_of, or_left, or_right}
use Rattle.profile.proofs.Sets.{t_eq, bit_of_or, bit_self, bit_single, union_at, union_last, union_of}

-- the numbers below n + 1: the set of n is united where the test passes
pub union_next : (f : ℕ → ℕ) (p : ℕ → Bool) (n : ℕ) (c : Bool) → p n ≡ c
    → union f (filter p (below (n + 1))) ≡ cond c (bit_or (union f (filter p (below n))) (f n)) (union f (filter p (below n)))
union_next f p n c e = ap (λ k. union f (filter p (below k))) (add-one n) ∙ ap (λ l. union f (filter p l)) (below_suc n) ∙ go c e
  where
    go : (c : Bool) → p n ≡ c → union f (filter p (below n ++ (n ∷ []))) ≡ cond c (bit_or (union f (filter p (below n))) (f n)) (union f (filter p (below n)))
    go true e = ap (union f) (filter_last_yes p (below n) n (rw e tt)) ∙ union_last f (filter p (below n)) n
    go false e = ap (union f) (filter_last_no p (below n) n (rw e tt))

-- ---- the numbers below k that pass a test, as a set

-- number x is in it when it passes
pub passing_bit : (p : ℕ → Bool) (k x : ℕ) → x < k → bit (union (λ x. 2 ^ x) (filter p (below k))) x ≡ p x
passing_bit p k x lt = t_eq (bit (union (λ x. 2 ^ x) (filter p (below k))) x) (p x)
    (λ t.
    let n = union_at (λ x. 2 ^ x) (filter p (below k)) x t in
    subst (λ y. T (p y)) (bit_single n.0 x n.2) (filter_at p (below k) n.1).1)
    (λ t. union_of (λ x. 2 ^ x) x (filter_of p (below_of k x lt) t) (bit_self x))

-- the set has no bit from k on
pub passing_below : (p : ℕ → Bool) (k : ℕ) → union (λ x. 2 ^ x) (filter p (below k)) < 2 ^ k
passing_below p k = go (filter p (below k)) (λ x m. below_at k x (filter_at p (below k) m).0)
  where
    go : (l : List ℕ) → ((x : ℕ) → Mem x l → x < k) → union (λ x. 2 ^ x) l < 2 ^ k
    go [] h = pow_pos k
    go (x ∷ l) h = or_lt k (2 ^ x) (union (λ x. 2 ^ x) l) (pow-lt (h x (Memᴰ.head refl))) (go l (λ y m. h y (Memᴰ.tail m)))

-- ---- the lowest member is in the set, and what is left has all others

-- a set is its lowest member beside the rest
pub lowest : (k n : ℕ) → 0 < n → n < 2 ^ k → bit_or (2 ^ count_trailing_zeros k n) (bit_and n (n - 1)) ≡ n
unfolding count_trailing_zeros
lowest zero n p h = absurd (omega arith)
lowest (suc k) n p h = go (n % 2) refl (lowest k (n / 2))
  where
    go : (d : ℕ) → n % 2 ≡ d → (0 < n / 2 → n / 2 < 2 ^ k → bit_or (2 ^ count_trailing_zeros k (n / 2)) (bit_and (n / 2) (n / 2 - 1)) ≡ n / 2)
        → bit_or (2 ^ under d (count_trailing_zeros k (n / 2))) (bit_and n (n - 1)) ≡ n
    go zero e ih =
        let t = count_trailing_zeros k (n / 2) in
        let z = bit_and (n / 2) (n / 2 - 1) in
        let a : (n - 1) / 2 ≡ n / 2 - 1 = omega arith in
        let b : (n - 1) % 2 ≡ 1 = omega arith in
        let x : bit_and n (n - 1) ≡ z * 2 ^ 1 + 0 = rw (and_step n (n - 1), a, b, e) (omega arith) in
        let y : 2 ^ suc t ≡ 2 ^ t * 2 ^ 1 + 0 = omega (arith, pow-suc 2 t) in
        let l : n / 2 < 2 ^ k = omega (arith, pow-suc 2 k) in
        rw (x, y) (or_block 1 (2 ^ t) z 0 0 (omega arith) (omega arith) ∙ rw (ih (omega arith) l) (omega arith))
    go (suc zero) e ih =
        let a : (n - 1) / 2 ≡ n / 2 = omega arith in
        let b : (n - 1) % 2 ≡ 0 = omega arith in
        let x : bit_and n (n - 1) ≡ n / 2 * 2 ^ 1 = rw (and_step n (n - 1), a, b, e, and_self (n / 2)) (omega arith) in
        rw x (or_shifted_r (n / 2) 1 1 (omega arith) ∙ omega arith)
    go (suc (suc d)) e ih = absurd (omega arith)

bit_half : (s q : ℕ) → bit s (suc q) ≡ bit (s / 2) q
bit_half s q = rw (div-div-eq-div-mul s 2 (2 ^ q), pow-succ' 2 q)

bit_double : (z q : ℕ) → bit (z * 2) (suc q) ≡ bit z q
bit_double z q = let e : z * 2 / 2 ≡ z = omega arith in bit_half (z * 2) q ∙ ap (λ n. bit n q) e

-- the lowest is not left
pub rest_without : (k n : ℕ) → 0 < n → n < 2 ^ k → T (bit (bit_and n (n - 1)) (count_trailing_zeros k n)) → ⊥
unfolding count_trailing_zeros
rest_without zero n p h m = absurd (omega arith)
rest_without (suc k) n p h m = go (n % 2) refl (rest_without k (n / 2)) m
  where
    go : (d : ℕ) → n % 2 ≡ d → (0 < n / 2 → n / 2 < 2 ^ k → T (bit (bit_and (n / 2) (n / 2 - 1)) (count_trailing_zeros k (n / 2))) → ⊥)
        → T (bit (bit_and n (n - 1)) (under d (count_trailing_zeros k (n / 2)))) → ⊥
    go zero e ih m =
        let t = count_trailing_zeros k (n / 2) in
        let z = bit_and (n / 2) (n / 2 - 1) in
        let a : (n - 1) / 2 ≡ n / 2 - 1 = omega arith in
        let b : (n - 1) % 2 ≡ 1 = omega arith in
        let x : bit_and n (n - 1) ≡ z * 2 = rw (and_step n (n - 1), a, b, e) (omega arith) in
        let l : n / 2 < 2 ^ k = omega (arith, pow-suc 2 k) in
        ih (omega arith) l (subst T (ap (λ s. bit s (suc t)) x ∙ bit_double z t) m)
    go (suc zero) e ih m =
        let a : (n - 1) / 2 ≡ n / 2 = omega arith in
        let b : (n - 1) % 2 ≡ 0 = omega arith in
        let x : bit_and n (n - 1) ≡ n / 2 * 2 = rw (and_step n (n - 1), a, b, e, and_self (n / 2)) (omega arith) in
        let y : n / 2 * 2 % 2 ≡ 0 = omega arith in
        subst T (ap (λ s. eqb (s % 2) 1) (div-one (bit_and n (n - 1)) ∙ x) ∙ ap (λ d. eqb d 1) y) m
    go (suc (suc d)) e ih m = absurd (omega arith)

module _ (n : ℕ) (p : 0 < n) (h : n < 2 ^ 32) where
  abbrev x : ℕ
  x = count_trailing_zeros 32 n

  abbrev r : ℕ
  r = bit_and n (n - 1)

  pub rest_first : T (bit n x)
  rest_first = subst (λ m. T (bit m x)) (lowest 32 n p h) (rw (bit_of_or (2 ^ x) r x) (or_left (bit (2 ^ x) x) (bit r x) (bit_self x)))

  pub rest_in : (y : ℕ) → T (bit r y) → T (bit n y)
  rest_in y m = subst (λ z. T (bit z y)) (lowest 32 n p h) (rw (bit_of_or (2 ^ x) r y) (or_right (bit (2 ^ x) y) (bit r y) m))

  pub rest_other : (y : ℕ) → T (bit n y) → (x ≡ y) ⊎ T (bit r y)
  rest_other y m =
      let t : T (bit (bit_or (2 ^ x) r) y) = subst (λ z. T (bit z y)) (sym (lowest 32 n p h)) m in
      ⊎_elim (λ a. inl (bit_single x y a)) (λ a. inr a) (either (bit (2 ^ x) y) (bit r y) (rw (bit_of_or (2 ^ x) r y) at t))
