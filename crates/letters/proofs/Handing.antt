-- The letters that can be added are what is handed on and what passes the test of the others.
use mathlib.Core.Path.{◌≡◌, refl, sym, ◌∙◌, ap, subst}
use mathlib.Core.Bool.{Bool, true, false, not, ◌||◌}
use mathlib.Core.Logic.{⊎_elim}
use mathlib.Core.List.{List}
use Prim.Native.Nat.{ℕ, ◌-◌, ◌^◌, ◌≤◌, ◌<◌}
use native.Mathlib.Omega.{arith}
use lib.Bits.{bit_or}
use lib.Dec.{T}
use lib.Pow.{pow_pos}
use Rattle.profile.specs.Limits.{most_letters}
use Rattle.profile.specs.Automata.{union}
use Rattle.profile.specs.Lists.{below, filter}
use Rattle.profile.specs.Traces.{bit}
use Rattle.profile.proofs.Lists.{below_at, below_of, both, either, filter_at, filter_of, or_left, or_right, test}
use Rattle.profile.proofs.Sets.{bit_of_and, bit_below, bit_none, bit_of_or, sets_eq, union_at, union_of}
use Rattle.theory.proofs.SetLoops.{passing_below, passing_bit}
use Rattle.parents.proofs.Complements.{bits_below, complement_bit}
use Rattle.events.specs.Events.{comes_next?}
use Rattle.letters.specs.Letters.{Hands, letter_by, letters_by, neither, next_by, tested_by}
use Rattle.letters.proofs.Tests.{letter_at, letter_of}

module _ (may : ℕ → ℕ → Bool) (k n : ℕ) (starts places t : List ℕ) (few : k ≤ most_letters) (I P : ℕ) (small : I < 2 ^ 32) (little : P < 2 ^ 32)
    (hands : Hands false (letters_by may k n starts places t) I P) where
  abbrev comes : ℕ → Bool
  comes = comes_next? may k n (next_by k starts places t)

  abbrev one : ℕ → ℕ
  one = letter_by may k n starts places t

  abbrev U : ℕ
  U = union (λ x. 2 ^ x) (letters_by may k n starts places t)

  abbrev G : ℕ
  G = neither k I P

  abbrev S : ℕ
  S = tested_by may k n starts places t G

  both_few : bit_or I P < 2 ^ 32
  both_few = bits_below 32 (bit_or I P) (λ q b. ⊎_elim (bit_below 32 I q small) (bit_below 32 P q little) (either (bit I q) (bit P q) (subst T (bit_of_or I P q) b)))

  -- a letter in neither set is tested
  open_of : (q : ℕ) → q < k → T (not (bit I q)) → T (not (bit P q)) → T (bit G q)
  open_of q h i j =
      let z : 2 ^ k - 1 - 0 ≡ 2 ^ k - 1 = omega arith in
      let a : T (bit (2 ^ k - 1) q) = subst (λ R. T (bit R q)) z (subst T (sym (complement_bit k 0 q (pow_pos k) h ∙ ap not (bit_none q))) tt) in
      let b : T (bit (2 ^ 32 - 1 - bit_or I P) q) = subst T (sym (complement_bit 32 (bit_or I P) q both_few (omega arith) ∙ ap not (bit_of_or I P q ∙ nor (bit I q) (bit P q) i j))) tt in
      subst T (sym (bit_of_and (2 ^ k - 1) (2 ^ 32 - 1 - bit_or I P) q)) (both (bit (2 ^ k - 1) q) (bit (2 ^ 32 - 1 - bit_or I P) q) a b)
    where
      nor : (x y : Bool) → T (not x) → T (not y) → (x || y) ≡ false
      nor true y a b = absurd a
      nor false true a b = absurd b
      nor false false a b = refl

  pub handed_tested : bit_or I S ≡ U
  handed_tested = sets_eq (bit_or I S) U into from
    where
      into : (q : ℕ) → T (bit (bit_or I S) q) → T (bit U q)
      into q b = ⊎_elim
          (λ i. let m = filter_at comes (below k) (hands.0 q i) in subst T (sym (passing_bit comes k q (below_at k q m.0))) m.1)
          (λ s.
          let u = union_at one (filter (bit G) (below k)) q s in
          let h = below_at k u.0 (filter_at (bit G) (below k) u.1).0 in
          let c = letter_at u.0 q (comes u.0) u.2 in
          subst (λ z. T (bit U z)) c.1 (subst T (sym (passing_bit comes k u.0 h)) c.0))
          (either (bit I q) (bit S q) (subst T (bit_of_or I S q) b))

      from : (q : ℕ) → T (bit U q) → T (bit (bit_or I S) q)
      from q b =
          let h : q < k = bit_below k U q (passing_below comes k) b in
          let a = subst T (passing_bit comes k q h) b in
          subst T (sym (bit_of_or I S q)) (⊎_elim (or_left (bit I q) (bit S q))
          (λ i. ⊎_elim (λ g. or_left (bit I q) (bit S q) (hands.1 refl q (filter_of comes (below_of k q h) a) g))
          (λ g. or_right (bit I q) (bit S q) (union_of one q (filter_of (bit G) (below_of k q h) (open_of q h i g)) (letter_of q (comes q) a)))
          (test (bit P q)))
          (test (bit I q)))
