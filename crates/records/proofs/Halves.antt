-- The last number of a record while the table is built: its lower half has the letters that can be added, its upper half those of which one can be taken
-- away.
use mathlib.Core.Path.{◌≡◌, sym, ◌∙◌, ap}
use mathlib.Core.List.{List}
use Prim.Native.Nat.{ℕ, suc, ◌+◌, ◌-◌, ◌*◌, ◌/◌, ◌%◌, ◌^◌, ◌≤◌, ◌<◌}
use native.Mathlib.Nat.{add-mul-div_left, mul_assoc, mul_comm, pow-suc}
use native.Mathlib.Omega.{arith}
use lib.Dec.{eqb}
use lib.Pow.{pow-add, pow_mono, pow_pos}
use Rattle.profile.specs.Limits.{most_letters}
use Rattle.profile.specs.Prefixes.{addable?, at}
use Rattle.profile.specs.Rules.{Rules}
use Rattle.profile.specs.Traces.{bit}
use Rattle.theory.proofs.Prefixes.{removable?}
use Rattle.theory.proofs.SetLoops.{passing_below, passing_bit}
use Rattle.records.specs.Drafts.{addable_set, letters_set, removable_set}

-- a set of letters below k is below 65,536
few_letters : (k n : ℕ) → k ≤ most_letters → n < 2 ^ k → n < 65536
few_letters k n le lt = let h : 2 ^ k ≤ 2 ^ 16 = pow_mono le in omega arith

-- a bit of the lower half is that bit of what stands in it
pub low_bit : (A R x : ℕ) → x < 16 → bit (A + 65536 * R) x ≡ bit A x
low_bit A R x lt =
    let j = 15 - x in
    let s : x + suc j ≡ 16 = omega arith in
    let e : 65536 ≡ 2 ^ x * (2 ^ j * 2) = ap (λ n. 2 ^ n) (sym s) ∙ pow-add 2 x (suc j) ∙ ap (λ n. 2 ^ x * n) (pow-suc 2 j) in
    let d : (A + 65536 * R) / 2 ^ x ≡ A / 2 ^ x + 2 ^ j * 2 * R =
    ap (λ n. (A + n * R) / 2 ^ x) e ∙ ap (λ n. (A + n) / 2 ^ x) (mul_assoc (2 ^ x) (2 ^ j * 2) R) ∙ add-mul-div_left A (2 ^ j * 2 * R) (pow_pos x) in
    let m : 2 ^ j * 2 * R ≡ 2 * (2 ^ j * R) = ap (λ n. n * R) (mul_comm (2 ^ j) 2) ∙ mul_assoc 2 (2 ^ j) R in
    let h : (A + 65536 * R) / 2 ^ x % 2 ≡ A / 2 ^ x % 2 = omega arith in
    ap (λ n. eqb n 1) h

module _ (p : Rules) (w c : List ℕ) (few : p.profile.k ≤ most_letters) where
  pub addable_few : addable_set p w c < 65536
  addable_few = few_letters p.profile.k (addable_set p w c) few (passing_below (addable? p.may p.letter w (at c)) p.profile.k)

  pub removable_few : removable_set p w c < 65536
  removable_few = few_letters p.profile.k (removable_set p w c) few (passing_below (removable? p.may p.letter w (at c)) p.profile.k)

  pub lower_half : letters_set p w c % 65536 ≡ addable_set p w c
  lower_half = omega (arith, addable_few)

  pub upper_half : letters_set p w c / 65536 ≡ removable_set p w c
  upper_half = omega (arith, addable_few)

  pub letters_fit : letters_set p w c < 2 ^ 32
  letters_fit = omega (arith, addable_few, removable_few)

  -- whether letter x can be added, and whether one can be taken away
  pub bit_lower : (x : ℕ) → x < p.profile.k → bit (letters_set p w c) x ≡ addable? p.may p.letter w (at c) x
  bit_lower x lt =
      low_bit (addable_set p w c) (removable_set p w c) x (omega arith) ∙ passing_bit (addable? p.may p.letter w (at c)) p.profile.k x lt

  pub bit_upper : (x : ℕ) → x < p.profile.k → bit (letters_set p w c / 65536) x ≡ removable? p.may p.letter w (at c) x
  bit_upper x lt = ap (λ n. bit n x) upper_half ∙ passing_bit (removable? p.may p.letter w (at c)) p.profile.k x lt
