-- The first number below n that passes a test, and whether one does.
use borrow.Author.Tests.{le-leb, lt-leb}
use mathlib.Core.Path.{◌≡◌, sym, ◌∙◌, ap}
use mathlib.Core.Bool.{Bool, true, false, not}
use Prim.Native.Nat.{ℕ, ◌≤◌, ◌<◌}
use native.Mathlib.Omega.{arith}
use mathlib.Core.Logic.{⊎_elim}
use lib.Dec.{leb, not_T}
use Rattle.profile.specs.Lists.{any, below, first_place}
use Rattle.profile.proofs.Lists.{any_of, below_of, is_false, is_true, lt_or_le}
use Rattle.terms.proofs.Meanings.{first_inside, first_stands}

module _ (p : ℕ → Bool) where
  -- none below n passes, or one does, by the first that passes
  stands_none : (n : ℕ) → n ≤ first_place p (below n) → not (any p (below n)) ≡ true
  stands_none n h = ap not (is_false (any p (below n)) (not_T (any p (below n)) (λ t. let lt = first_inside p n t in not-less h lt)))
    where
      not-less : {a b : ℕ} → a ≤ b → b < a → ⊥
      not-less x y = omega arith

  stands_some : (n : ℕ) → first_place p (below n) < n → not (any p (below n)) ≡ false
  stands_some n h = ap not (is_true (any p (below n)) (any_of p (below_of n (first_place p (below n)) h) (first_stands p n h)))

  -- the first that passes is not below n exactly when none is
  pub stands : (n : ℕ) → leb n (first_place p (below n)) ≡ not (any p (below n))
  stands n = ⊎_elim (λ l. lt-leb n (first_place p (below n)) l ∙ sym (stands_some n l)) (λ h. le-leb n (first_place p (below n)) h ∙ sym (stands_none n h))
      (lt_or_le (first_place p (below n)) n)
