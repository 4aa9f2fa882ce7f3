-- The letters that are not in a set of letters.
use mathlib.Core.Path.{◌≡◌, refl, sym, ◌∙◌, ap, subst}
use mathlib.Core.Bool.{Bool, true, false, not}
use Prim.Native.Nat.{ℕ, zero, suc, ◌-◌, ◌/◌, ◌%◌, ◌^◌, ◌<◌}
use native.Mathlib.Nat.{div-one, div-div-eq-div-mul, pow-suc, pow-succ'}
use native.Mathlib.Omega.{arith}
use lib.Dec.{T, eqb}
use Rattle.profile.specs.Traces.{bit}
use Rattle.profile.proofs.Sets.{not_in_none, sets_eq}

-- the lowest bit, and the others
bit_zero : (S : ℕ) → bit S 0 ≡ eqb (S % 2) 1
bit_zero S = ap (λ n. eqb (n % 2) 1) (div-one S)

bit_half : (S q : ℕ) → bit S (suc q) ≡ bit (S / 2) q
bit_half S q = rw (div-div-eq-div-mul S 2 (2 ^ q), pow-succ' 2 q)

flip_digit : (d : ℕ) → d < 2 → eqb (1 - d) 1 ≡ not (eqb d 1)
flip_digit zero h = refl
flip_digit (suc zero) h = refl
flip_digit (suc (suc d)) h = absurd (omega arith)

-- of the numbers below n, those that are not in S
pub complement_bit : (n S q : ℕ) → S < 2 ^ n → q < n → bit (2 ^ n - 1 - S) q ≡ not (bit S q)
complement_bit zero S q h l = absurd (omega arith)
complement_bit (suc n) S zero h l =
    let p = pow-suc 2 n in
    let e : (2 ^ suc n - 1 - S) % 2 ≡ 1 - S % 2 = omega arith in
    bit_zero (2 ^ suc n - 1 - S) ∙ ap (λ d. eqb d 1) e ∙ flip_digit (S % 2) (omega arith) ∙ sym (ap not (bit_zero S))
complement_bit (suc n) S (suc q) h l =
    let p = pow-suc 2 n in
    let e : (2 ^ suc n - 1 - S) / 2 ≡ 2 ^ n - 1 - S / 2 = omega arith in
    bit_half (2 ^ suc n - 1 - S) q ∙ ap (λ d. bit d q) e ∙ complement_bit n (S / 2) q (omega arith) (omega arith) ∙ sym (ap not (bit_half S q))

-- a set of numbers below n is below 2 to the n
pub bits_below : (n S : ℕ) → ((q : ℕ) → T (bit S q) → q < n) → S < 2 ^ n
bits_below zero S h = let e : S ≡ 0 = sets_eq S 0 (λ q t. absurd (omega (arith, h q t))) (λ q t. absurd (not_in_none q t)) in omega arith
bits_below (suc n) S h = omega (arith, pow-suc 2 n, bits_below n (S / 2) (λ q t. omega (arith, h (suc q) (subst T (sym (bit_half S q)) t))))
