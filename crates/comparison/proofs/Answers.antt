-- The answers, from the refusals of their parts.
use mathlib.Core.Path.{◌≡◌, refl, ◌∙◌, ap, ap₂}
use mathlib.Core.Bool.{Bool, true, false}
use mathlib.Core.List.{List, [], ◌∷◌, ◌++◌}
use mathlib.Core.Option.{Option, none, some, none-ne-some, some-ne-none, some-injective}
use Prim.Native.Nat.{ℕ}
use Rattle.profile.specs.declared.Refusal.{Refusal}
use Rattle.profile.specs.Orders.{same?}
use Rattle.profile.specs.Refusals.{log_refusals, lowest, of_log, relation_refusals, same_refusal}
use Rattle.profile.specs.Traces.{independent}
use Rattle.theory.proofs.Refusals.{lowest_append, lowest_first}
use Rattle.std.specs.Prelude.{Err}
use Rattle.comparison.specs.Comparison.{compared_as, compared_values, comparison}
use Rattle.profile.proofs.Edges.{told_same}

-- the lowest refusal, with a log
of_log_none : (n : ℕ) (l : List (Bool × Refusal)) → lowest l ≡ none → lowest (of_log n l) ≡ none
of_log_none n [] e = refl
of_log_none n (c ∷ l) e = go c.0 refl (of_log_none n l)
  where
    go : (b : Bool) → c.0 ≡ b → (lowest l ≡ none → lowest (of_log n l) ≡ none) → lowest (of_log n (c ∷ l)) ≡ none
    go true q ih = absurd (some-ne-none _ (rw (q, lowest) at e))
    go false q ih = rw (q, lowest) (ih (rw (q, lowest) at e))

of_log_some : (n : ℕ) (l : List (Bool × Refusal)) {r : Refusal} → lowest l ≡ some r → lowest (of_log n l) ≡ some (r, n)
of_log_some n [] e = absurd (none-ne-some _ e)
of_log_some n (c ∷ l) {r} e = go c.0 refl (of_log_some n l)
  where
    go : (b : Bool) → c.0 ≡ b → (lowest l ≡ some r → lowest (of_log n l) ≡ some (r, n)) → lowest (of_log n (c ∷ l)) ≡ some (r, n)
    go true q ih = rw (q, lowest) (ap (λ z. some (z, n)) (some-injective _ _ (rw (q, lowest) at e)))
    go false q ih = rw (q, lowest) (ih (rw (q, lowest) at e))

module _ (k : ℕ) (masks v w : List ℕ) where
  refused_as : {r : Refusal} {n : ℕ} → same_refusal k masks v w ≡ some (r, n) → comparison k masks v w ≡ Err (record { refusal = r; log = n })
  refused_as e = ap (λ o. compared_as o (same? (independent masks) k v w)) e

  pub compared_relation : {r : Refusal} → lowest (relation_refusals k masks) ≡ some r → comparison k masks v w ≡ Err (record { refusal = r; log = 0 })
  compared_relation e = refused_as (lowest_first (of_log 0 (relation_refusals k masks)) (of_log 1 (log_refusals k v) ++ of_log 2 (log_refusals k w)) (of_log_some 0 (relation_refusals k masks) e))

  module _ (e₀ : lowest (relation_refusals k masks) ≡ none) where
    past_relation : same_refusal k masks v w ≡ lowest (of_log 1 (log_refusals k v) ++ of_log 2 (log_refusals k w))
    past_relation = lowest_append (of_log 0 (relation_refusals k masks)) (of_log 1 (log_refusals k v) ++ of_log 2 (log_refusals k w)) (of_log_none 0 (relation_refusals k masks) e₀)

    pub compared_first : {r : Refusal} → lowest (log_refusals k v) ≡ some r → comparison k masks v w ≡ Err (record { refusal = r; log = 1 })
    compared_first e = refused_as (past_relation ∙ lowest_first (of_log 1 (log_refusals k v)) (of_log 2 (log_refusals k w)) (of_log_some 1 (log_refusals k v) e))

    module _ (e₁ : lowest (log_refusals k v) ≡ none) where
      past_first : same_refusal k masks v w ≡ lowest (of_log 2 (log_refusals k w))
      past_first = past_relation ∙ lowest_append (of_log 1 (log_refusals k v)) (of_log 2 (log_refusals k w)) (of_log_none 1 (log_refusals k v) e₁)

      pub compared_second : {r : Refusal} → lowest (log_refusals k w) ≡ some r → comparison k masks v w ≡ Err (record { refusal = r; log = 2 })
      compared_second e = refused_as (past_first ∙ of_log_some 2 (log_refusals k w) e)

      module _ (e₂ : lowest (log_refusals k w) ≡ none) where
        pub compared_same : {b : Bool} → same? (independent masks) k v w ≡ b → comparison k masks v w ≡ compared_as none b
        compared_same e = ap₂ compared_as (past_first ∙ of_log_none 2 (log_refusals k w) e₂) e

-- document 01's values: a comparison tells 1 for the same and 0 for different logs, and of a refusal number, place and log
pub comparison_told : (k : ℕ) (masks v w : List ℕ) → compared_values (comparison k masks v w) ≡ told_same (same_refusal k masks v w) (same? (independent masks) k v w)
comparison_told k masks v w = go (same_refusal k masks v w) (same? (independent masks) k v w)
  where
    go : (o : Option (Refusal × ℕ)) (b : Bool) → compared_values (compared_as o b) ≡ told_same o b
    go none true = refl
    go none false = refl
    go (some r) b = refl
