-- The test with terms, one branch after the other, and for all letters below k.
use borrow.Author.Tests.{eq-eqb, ne_eqb, le-ltb, lt-ltb}
use mathlib.Core.Path.{◌≡◌, sym, ◌∙◌, ap, subst}
use mathlib.Core.Bool.{Bool, true, false, not}
use mathlib.Core.Logic.{◌≢◌}
use Prim.Native.Nat.{ℕ, ◌+◌, ◌/◌, ◌%◌, ◌≤◌, ◌<◌}
use native.Mathlib.Numerals.{add-one}
use lib.Dec.{T, T_not, not_T, ltb}
use Rattle.profile.specs.Lists.{all, below}
use Rattle.profile.proofs.Lists.{all_append, all_at, below_of, below_suc, both, is_false}
use Rattle.turns.specs.Turns.{place_bound}
use Rattle.term_events.specs.InTerms.{lets_in?}

module _ (f g : ℕ → ℕ) (x y : ℕ) where
  pub lets_own : y ≡ x → true ≡ lets_in? f g x y
  lets_own e = rw (eq-eqb y x e)

  module _ (ne : y ≢ x) where
    pub lets_late : f x < f y → true ≡ lets_in? f g x y
    lets_late h = rw (ne_eqb y x ne, lt-ltb (f x) (f y) h)

    module _ (le : f y ≤ f x) where
      pub lets_apart : g y / place_bound ≢ g x / place_bound → false ≡ lets_in? f g x y
      lets_apart h = rw (ne_eqb y x ne, le-ltb (f x) (f y) le, ne_eqb (g y / place_bound) (g x / place_bound) h)

      pub lets_turn : g y / place_bound ≡ g x / place_bound → ltb (f x) (g y % place_bound) ≡ lets_in? f g x y
      lets_turn h = rw (ne_eqb y x ne, le-ltb (f x) (f y) le, eq-eqb (g y / place_bound) (g x / place_bound) h)

-- a test of all numbers below k, for a loop over them
module _ (p : ℕ → Bool) where
  pub all_more : (y : ℕ) → T (all p (below y)) → T (p y) → T (all p (below (y + 1)))
  all_more y h t = subst (λ l. T (all p l)) (sym (ap below (add-one y) ∙ below_suc y)) (all_append p (below y) _ h (both (p y) true t tt))

  pub all_stopped : (k y : ℕ) → y < k → T (not (p y)) → false ≡ all p (below k)
  all_stopped k y h t = sym (is_false (all p (below k)) (not_T (all p (below k)) (λ a. T_not (p y) t (all_at p a (below_of k y h)))))
