-- The answers, from the refusals of their parts.
use mathlib.Core.Path.{◌≡◌, refl, sym, ◌∙◌, ap}
use mathlib.Core.Bool.{Bool}
use mathlib.Core.List.{List, [], ◌∷◌, ◌++◌}
use mathlib.Core.Option.{Option, none, some}
use Prim.Native.Nat.{ℕ, ◌≤◌, ◌<◌}
use borrow.Author.Tests.{le-ltb, lt-ltb}
use lib.ListN.{drop, length}
use Rattle.profile.specs.declared.Refusal.{Refusal}
use Rattle.profile.specs.declared.Refusal.TheVariants.{ShortBuffer}
use Rattle.profile.specs.Refusals.{first_order_refusal, log_refusals, lowest, relation_refusals, short_buffer}
use Rattle.theory.proofs.Refusals.{lowest_append, lowest_first}
use Rattle.order.specs.Order.{first_letters, ordered_as, ordered_buffer, ordered_values, ordering, unless_refused}
use Rattle.profile.proofs.Edges.{told}

module _ (k : ℕ) (masks w : List ℕ) (n : ℕ) where
  short : List (Bool × Refusal)
  short = (short_buffer n w, ShortBuffer) ∷ []

  pub ordered_relation : {r : Refusal} → lowest (relation_refusals k masks) ≡ some r → first_order_refusal k masks w n ≡ some r
  unfolding short
  ordered_relation e = lowest_first (relation_refusals k masks) (log_refusals k w ++ short) e

  module _ (e₀ : lowest (relation_refusals k masks) ≡ none) where
    past_masks : first_order_refusal k masks w n ≡ lowest (log_refusals k w ++ short)
    unfolding short
    past_masks = lowest_append (relation_refusals k masks) (log_refusals k w ++ short) e₀

    pub ordered_log : {r : Refusal} → lowest (log_refusals k w) ≡ some r → first_order_refusal k masks w n ≡ some r
    ordered_log e = past_masks ∙ lowest_first (log_refusals k w) short e

    module _ (e₁ : lowest (log_refusals k w) ≡ none) where
      past_log : first_order_refusal k masks w n ≡ lowest short
      past_log = past_masks ∙ lowest_append (log_refusals k w) short e₁

      pub ordered_short : n < length w → first_order_refusal k masks w n ≡ some ShortBuffer
      unfolding short
      ordered_short h = past_log ∙ rw (lt-ltb n (length w) h, lowest)

      pub ordered_none : length w ≤ n → first_order_refusal k masks w n ≡ none
      unfolding short
      ordered_none h = past_log ∙ rw (le-ltb n (length w) h, lowest)

-- the answer and the buffer, by the refusal
pub answers : (k : ℕ) (masks w before : List ℕ) {o : Option Refusal} → first_order_refusal k masks w (length before) ≡ o
    → (ordered_as o ≡ ordering k masks w (length before)) × (unless_refused o (first_letters masks w ++ drop (length w) before) before ≡ ordered_buffer k masks w before)
answers k masks w before e = (ap ordered_as (sym e), ap (λ o. unless_refused o (first_letters masks w ++ drop (length w) before) before) (sym e))

-- document 01's values: a first order tells of a refusal number and place
pub ordering_told : (k : ℕ) (masks w : List ℕ) (n : ℕ) → ordered_values (ordering k masks w n) ≡ told (first_order_refusal k masks w n)
ordering_told k masks w n = go (first_order_refusal k masks w n)
  where
    go : (o : Option Refusal) → ordered_values (ordered_as o) ≡ told o
    go none = refl
    go (some r) = refl
