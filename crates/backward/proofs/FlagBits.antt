-- Flags in the free bits of counts: they are read as they were set, and clearing them leaves the counts.
use Rattle.std.proofs.Common.{◌≡◌, ℕ, zero, suc, ◌+◌, ◌-◌, ◌*◌, ◌/◌, ◌%◌, ◌^◌, ◌<◌, ◌≤◌, eqb, List, [], ◌∷◌, get_or, take, sym, refl, ap, ◌∙◌, arith, pow-add}
use native.Mathlib.Nat.{div-div-eq-div-mul}
use Rattle.profile.specs.Tables.{pack}
use Rattle.profile.specs.Traces.{bit}
use Rattle.backward.specs.Backward.{flag_bit, flags, with_flags, without_flags}

-- a number of two counts
pub pack_two : (l : List ℕ) → pack 16 (take 2 l) ≡ get_or l 0 0 + 65536 * get_or l 1 0
pack_two [] = refl
pack_two (a ∷ []) = omega arith
pack_two (a ∷ b ∷ l) = omega arith

below_eight : (P : ℕ → Type 0) → P 0 → P 1 → P 2 → P 3 → P 4 → P 5 → P 6 → P 7 → (x : ℕ) → x < 8 → P x
below_eight P a b c d e f g h zero l = a
below_eight P a b c d e f g h (suc zero) l = b
below_eight P a b c d e f g h (suc (suc zero)) l = c
below_eight P a b c d e f g h (suc (suc (suc zero))) l = d
below_eight P a b c d e f g h (suc (suc (suc (suc zero)))) l = e
below_eight P a b c d e f g h (suc (suc (suc (suc (suc zero))))) l = f
below_eight P a b c d e f g h (suc (suc (suc (suc (suc (suc zero)))))) l = g
below_eight P a b c d e f g h (suc (suc (suc (suc (suc (suc (suc zero))))))) l = h
below_eight P a b c d e f g h (suc (suc (suc (suc (suc (suc (suc (suc x)))))))) l = absurd (omega arith)

-- two counts below 4,096
module _ (low high : ℕ) (l : low < 4096) (h : high < 4096) where
  -- with flags they fit their number
  with_is : (S : ℕ) → with_flags (low + 65536 * high) S ≡ low + 65536 * high + (4096 * (S % 16) + 268435456 * (S / 16 % 16))
  unfolding with_flags flags
  with_is S = omega arith

  pub without_with : (S : ℕ) → without_flags (with_flags (low + 65536 * high) S) ≡ low + 65536 * high
  unfolding without_flags
  without_with S = ap without_flags (with_is S) ∙ omega arith

  -- the flags of the first eight letters
  pub flag_low : (S x : ℕ) → x < 8 → bit (with_flags (low + 65536 * high) S) (flag_bit x) ≡ bit S x
  flag_low S x lt = ap (λ n. bit n (flag_bit x)) (with_is S) ∙ below_eight (λ x. bit n (flag_bit x) ≡ bit S x) (ap (λ n. eqb n 1) e0) (ap (λ n. eqb n 1) e1) (ap (λ n. eqb n 1) e2) (ap (λ n. eqb n 1) e3) (ap (λ n. eqb n 1) e4) (ap (λ n. eqb n 1) e5) (ap (λ n. eqb n 1) e6) (ap (λ n. eqb n 1) e7) x lt
    where
      n : ℕ
      n = low + 65536 * high + (4096 * (S % 16) + 268435456 * (S / 16 % 16))

      e0 : n / 2 ^ 12 % 2 ≡ S / 2 ^ 0 % 2
      e0 = omega arith

      e1 : n / 2 ^ 13 % 2 ≡ S / 2 ^ 1 % 2
      e1 = omega arith

      e2 : n / 2 ^ 14 % 2 ≡ S / 2 ^ 2 % 2
      e2 = omega arith

      e3 : n / 2 ^ 15 % 2 ≡ S / 2 ^ 3 % 2
      e3 = omega arith

      e4 : n / 2 ^ 28 % 2 ≡ S / 2 ^ 4 % 2
      e4 = omega arith

      top : n / 2 ^ 28 ≡ S / 16 % 16
      top = omega arith

      shifted : (m : ℕ) → n / (2 ^ 28 * m) ≡ S / 16 % 16 / m
      shifted m = sym (div-div-eq-div-mul n (2 ^ 28) m) ∙ ap (λ v. v / m) top

      e5 : n / 2 ^ 29 % 2 ≡ S / 2 ^ 5 % 2
      e5 = ap (λ v. v % 2) (shifted 2) ∙ omega arith

      e6 : n / 2 ^ 30 % 2 ≡ S / 2 ^ 6 % 2
      e6 = ap (λ v. v % 2) (shifted 4) ∙ omega arith

      e7 : n / 2 ^ 31 % 2 ≡ S / 2 ^ 7 % 2
      e7 = ap (λ v. v % 2) (shifted 8) ∙ omega arith

  -- those of the next eight, in the other number
  pub flag_high : (S x : ℕ) → 8 ≤ x → x < 16 → bit (with_flags (low + 65536 * high) (S / 256)) (flag_bit x) ≡ bit S x
  flag_high S x le lt =
      let y = x - 8 in
      let a : x % 4 ≡ y % 4 = omega arith in
      let b : x / 4 ≡ 2 + y / 4 = omega arith in
      let d : x / 4 % 2 ≡ y / 4 % 2 = omega arith in
      let e : flag_bit x ≡ flag_bit y = omega arith in
      let s : 8 + y ≡ x = omega arith in
      ap (bit (with_flags (low + 65536 * high) (S / 256))) e ∙ flag_low (S / 256) y (omega arith)
      ∙ ap (λ n. eqb (n % 2) 1) (div-div-eq-div-mul S 256 (2 ^ y) ∙ ap (λ n. S / n) (sym (pow-add 2 8 y))) ∙ ap (bit S) s
