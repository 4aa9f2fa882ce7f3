-- The test of a rule, by what it gives.
use mathlib.Core.Path.{◌≡◌, refl, sym, ap}
use mathlib.Core.Bool.{Bool, true, false, ◌||◌}
use Prim.Native.Nat.{ℕ, ◌<◌}
use lib.Dec.{leb}
use borrow.Author.Tests.{lt-ltb, ne_eqb}
use native.Mathlib.Omega.{arith}
use Rattle.grammars.specs.Grammars.{first_of, kind_of, letter_of, name_of, rule_out_of_range, second_of}

or_false : (b : Bool) → (b || false) ≡ b
or_false true = refl
or_false false = refl

or_true : (b : Bool) → (b || true) ≡ true
or_true true = refl
or_true false = refl

module _ (k names x n : ℕ) (e : n ≡ name_of x) where
  pub letter_test : (a : ℕ) → kind_of x ≡ 0 → a ≡ letter_of x → (leb names n || leb k a) ≡ rule_out_of_range k names x
  letter_test a d f = rw (e, f, d) (ap (λ b. leb names (name_of x) || b) (sym (or_false (leb k (letter_of x)))))

  pub names_test : (l r : ℕ) → kind_of x ≡ 1 → l ≡ first_of x → r ≡ second_of x → (leb names n || (leb names l || leb names r)) ≡ rule_out_of_range k names x
  names_test l r d f g = rw (e, f, g, d) (ap (λ b. leb names (name_of x) || b) (sym (or_false (leb names (first_of x) || leb names (second_of x)))))

pub neither_test : (k names x : ℕ) → 1 < kind_of x → true ≡ rule_out_of_range k names x
neither_test k names x h =
    rw (ne_eqb (kind_of x) 0 (λ e. omega arith), ne_eqb (kind_of x) 1 (λ e. omega arith), lt-ltb 1 (kind_of x) h) (sym (or_true (leb names (name_of x))))
