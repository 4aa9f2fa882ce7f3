-- A number's decimal digits: how many there are, and that `io::decimal` gives them.
use borrow.Author.Tests.{le-ltb, lt-ltb}
use mathlib.Core.Path.{◌≡◌, sym, ◌∙◌, ap, ap₂}
use mathlib.Core.Bool.{cond}
use mathlib.Core.Logic.{⊎_elim}
use mathlib.Core.List.{List, [], ◌∷◌, ◌++◌}
use Prim.Native.Nat.{ℕ, zero, suc, ◌+◌, ◌-◌, ◌/◌, ◌%◌, ◌^◌, ◌≤◌, ◌<◌}
use native.Mathlib.Nat.{one-le-pow, pow-suc}
use native.Mathlib.Omega.{arith}
use lib.ListN.{length, take, drop, length-append}
use Rattle.io.specs.Digits.{IsDigitCount, last_digits, hex_digit_ascii}
use Rattle.profile.proofs.Lists.{lt_or_le}
use Rattle.report.specs.Report.{decimal, digits_within}

-- one digit, or the digits of the tenth part and the last one
within_one : (m n : ℕ) → n < 10 → digits_within (suc m) n ≡ (48 + n) ∷ []
within_one m n h = let e = lt-ltb n 10 h in rw (e, digits_within)

within_more : (m n : ℕ) → 10 ≤ n → digits_within (suc m) n ≡ digits_within m (n / 10) ++ ((48 + n % 10) ∷ [])
within_more m n h = let e = le-ltb n 10 h in rw (e, digits_within)

-- a number below 10 ^ k has at most k digits, where k is not 0
within_short : (k m n : ℕ) → n < 10 ^ suc k → length (digits_within m n) ≤ suc k
within_short k zero n h = omega arith
within_short zero (suc m) n h = let e = ap length (within_one m n h) in omega arith
within_short (suc k) (suc m) n h = ⊎_elim
    (λ l. let e = ap length (within_one m n l) in omega arith)
    (λ l.
    let e = ap length (within_more m n l) in
    let d = length-append (digits_within m (n / 10)) ((48 + n % 10) ∷ []) in
    let p = pow-suc 10 (suc k) in
    let i = within_short k m (n / 10) (omega arith) in omega arith)
    (lt_or_le n 10)

pub decimal_short : (k n : ℕ) → n < 10 ^ suc k → length (decimal n) ≤ suc k
decimal_short k n h = within_short k (suc n) n h

last_digit : (n : ℕ) → hex_digit_ascii (n % 10) ≡ 48 + n % 10
last_digit n = let h : n % 10 < 10 = omega arith in ap (λ b. cond b (48 + n % 10) (87 + n % 10)) (lt-ltb (n % 10) 10 h)

-- the digits of `io::decimal`, of which there are the fewest that hold n
within_digits : (k m n : ℕ) → n < m → IsDigitCount 10 1 n k → last_digits 10 k n ≡ digits_within m n
within_digits zero m n l f = absurd (omega (arith, f.0))
within_digits (suc zero) zero n l f = absurd (omega arith)
within_digits (suc zero) (suc m) n l f =
    let h : n < 10 = f.1 in
    let e : n % 10 ≡ n = omega arith in
    ap (λ d. d ∷ []) (last_digit n ∙ ap (λ d. 48 + d) e) ∙ sym (within_one m n h)
within_digits (suc (suc k)) zero n l f = absurd (omega arith)
within_digits (suc (suc k)) (suc m) n l f =
    let p = pow-suc 10 (suc k) in
    let q = pow-suc 10 k in
    let o : 1 ≤ 10 ^ k = one-le-pow k 10 (omega arith) in
    let e : suc (suc k) - 1 ≡ suc k = omega arith in
    let b : 10 ^ suc k ≤ n = rw e at (f.2 (omega arith)) in
    let h : 10 ≤ n = omega arith in
    ap₂ (λ l d. l ++ (d ∷ [])) (within_digits (suc k) m (n / 10) (omega arith) (omega arith, omega (arith, f.1), λ s. let z : suc k - 1 ≡ k = omega arith in rw z (omega arith))) (last_digit n) ∙ sym (within_more m n h)

pub decimal_digits : {k n : ℕ} → IsDigitCount 10 1 n k → last_digits 10 k n ≡ decimal n
decimal_digits {k} {n} f = within_digits k (suc n) n (omega arith) f

-- what `io::decimal` leaves at the front of its buffer
pub first_digits : (t : List ℕ) {k n : ℕ} → IsDigitCount 10 1 n k → take k t ≡ last_digits 10 k n → take (k - 0) (drop 0 t) ≡ decimal n
first_digits t {k} f e = let z : k - 0 ≡ k = omega arith in ap (λ m. take m t) z ∙ e ∙ decimal_digits f
