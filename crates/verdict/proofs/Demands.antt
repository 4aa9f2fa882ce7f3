-- Demands 1 and 3 as theorems about what `judge` promises: `Promise p w order order' table table' r` is what holds of a call with profile p and log w that
-- was lent `order` and `table`, whatever these held, left `order'` and `table'`, and answered r. They are those of any rules (Promises), for letters.
use mathlib.Core.Path.{◌≡◌, sym, ◌∙◌, subst}
use Rattle.std.specs.Prelude.{Result, Err}
use mathlib.Core.Logic.{◌⊎◌, ◌↔◌, ◌≢◌}
use mathlib.Core.List.{List, map-id}
use mathlib.Core.Option.{none, some}
use Prim.Native.Nat.{ℕ, ◌+◌, ◌*◌, ◌≤◌, ◌<◌}
use lib.ListN.{length, get_or, take, drop}
use Rattle.profile.specs.Traces.{Reachable, independent}
use Rattle.profile.specs.Automata.{Profile}
use Rattle.profile.specs.Rules.{plain}
use Rattle.profile.specs.Tables.{layout, record_length}
use Rattle.profile.specs.Orders.{Earlier, NoLater, Same}
use Rattle.profile.specs.Refusals.{judge_refusal}
use Rattle.profile.specs.declared.Refusal.{Refusal}
use Rattle.profile.specs.declared.Refusal.TheVariants.{FullTable}
use Rattle.theory.proofs.Demands.{Witness, admitted_events, prefixes_of}
use Rattle.theory.proofs.Refusals.{GoodEvents}
use Rattle.table.specs.Table.{Spared}
use Rattle.verdict.specs.Verdict.{Promise, verdict_number}
use Rattle.verdict.specs.declared.Judged.{Judged}
use Rattle.verdict.proofs.Judging.{admitted}
use Rattle.verdict.proofs.Promises.{counted_reach_by, fields_same_by, judged_reach_by, judged_same_by, no_order_exactly_by, order_exactly_by, refused_exactly_by, told_looks, told_prefixes, verdict_cases_by}

-- ---- demand 1

module _ (p : Profile) (w order order' table table' : List ℕ) where
  -- a call is refused by r exactly when r is the lowest that applies; else there is a verdict
  pub refused_exactly : (j : Result Judged Refusal) → Promise p w order order' table table' j → (r : Refusal) → (j ≡ Err r) ↔ (judge_refusal p w (length order) (length table) ≡ some r)
  refused_exactly = refused_exactly_by (plain p) w order order' table table' (judge_refusal p w (length order) (length table))

  -- "A refused call changes nothing it was lent, save the work table at refusal 10", and of that the usable numbers alone
  pub refused_unchanged : (r : Refusal) → Promise p w order order' table table' (Err r) → (order' ≡ order) × (r ≢ FullTable → table' ≡ table) × Spared table table'
  refused_unchanged r h = h.told

-- ---- demand 3

-- the call is not refused: the log is admitted, and its prefixes fit the table
module _ (p : Profile) (w order order' table table' : List ℕ) (unrefused : judge_refusal p w (length order) (length table) ≡ none) where
  -- there is a verdict, 0 or 1
  pub verdict_cases : (j : Result Judged Refusal) → Promise p w order order' table table' j → (verdict_number j ≡ some 0) ⊎ (verdict_number j ≡ some 1)
  verdict_cases = verdict_cases_by (plain p) w order order' table table' (judge_refusal p w (length order) (length table)) unrefused

  -- "The log gets 'no order' exactly when no log reachable from it by exchanges is accepted."
  pub no_order_exactly : (j : Result Judged Refusal) → Promise p w order order' table table' j → (verdict_number j ≡ some 0) ↔ ((v : List ℕ) → Witness p w v → ⊥)
  no_order_exactly = no_order_exactly_by (plain p) w order order' table table' (judge_refusal p w (length order) (length table)) unrefused

  -- "Otherwise the order returned is reachable from it, accepted, and earlier in letter order than every other log that is both"; the other bytes stay
  pub order_exactly : (j : Result Judged Refusal) → Promise p w order order' table table' j → verdict_number j ≡ some 1
      → Witness p w (take (length w) order') × ((u : List ℕ) → Witness p w u → u ≢ take (length w) order' → Earlier (take (length w) order') u)
      × (drop (length w) order' ≡ drop (length w) order)
  order_exactly j h e =
      let x = order_exactly_by (plain p) w order order' table table' (judge_refusal p w (length order) (length table)) unrefused j h e in (
        subst (Witness p w) (sym (map-id x.0.0) ∙ x.0.1) x.0.2,
        (λ u a ne. subst (Earlier (take (length w) order')) (map-id u) (x.1 u a (λ i. ne (sym (map-id u) ∙ i)))),
        x.2,
      )

-- two calls that are not refused, whatever buffers each was lent
module _ (p : Profile) (v w : List ℕ) (order₁ order₁' table₁ table₁' order₂ order₂' table₂ table₂' : List ℕ)
    (first : judge_refusal p v (length order₁) (length table₁) ≡ none) (second : judge_refusal p w (length order₂) (length table₂) ≡ none) where
  good : GoodEvents (plain p) v
  good = admitted_events p v (admitted p v order₁ table₁ first)

  good' : GoodEvents (plain p) w
  good' = admitted_events p w (admitted p w order₂ table₂ second)

  -- "Any two such logs with the same profile that are reachable from each other get the same verdict, the same order if there is one, and the same prefix
  -- count …, whatever buffers each was lent. This holds for one log judged twice, so a larger table changes none of these three." "Logs reachable from each
  -- other then also show equal looks" (document 02, Paper 2)
  module _ (same : Same (independent p.masks) v w) where
    pub judged_same : (i j : Result Judged Refusal) → Promise p v order₁ order₁' table₁ table₁' i → Promise p w order₂ order₂' table₂ table₂' j
        → (verdict_number i ≡ verdict_number j) × (told_prefixes i ≡ told_prefixes j) × (told_looks i ≡ told_looks j)
        × (verdict_number i ≡ some 1 → take (length v) order₁' ≡ take (length w) order₂')
    judged_same = judged_same_by (plain p) v w good good' order₁ order₁' table₁ table₁' order₂ order₂' table₂ table₂' _ _ first second same

    -- Paper 5: "Logs reachable from each other in both directions must, where both get a verdict, leave equal count fields, record by record"
    pub fields_same : (i j : Result Judged Refusal) → Promise p v order₁ order₁' table₁ table₁' i → Promise p w order₂ order₂' table₂ table₂' j
        → (r n : ℕ) → r < prefixes_of p v → n < layout.numbers
        → get_or table₁' (record_length layout * r + n) 0 ≡ get_or table₂' (record_length layout * r + n) 0
    fields_same = fields_same_by (plain p) v w good good' order₁ order₁' table₁ table₁' order₂ order₂' table₂ table₂' _ _ first second same

  -- Paper 4: "If log v is reachable from log w and v has an accepted order, then w has one that is no later in letter order". P of v is at most P of w
  module _ (reach : Reachable (independent p.masks) w v) where
    pub judged_reach : (i j : Result Judged Refusal) → Promise p v order₁ order₁' table₁ table₁' i → Promise p w order₂ order₂' table₂ table₂' j → verdict_number i ≡ some 1
        → (verdict_number j ≡ some 1) × NoLater (take (length w) order₂') (take (length v) order₁')
    judged_reach = judged_reach_by (plain p) v w good good' order₁ order₁' table₁ table₁' order₂ order₂' table₂ table₂' _ _ first second reach

    pub counted_reach : (i j : Result Judged Refusal) → Promise p v order₁ order₁' table₁ table₁' i → Promise p w order₂ order₂' table₂ table₂' j
        → (P Q : ℕ) → told_prefixes i ≡ some P → told_prefixes j ≡ some Q → P ≤ Q
    counted_reach = counted_reach_by (plain p) v w good good' order₁ order₁' table₁ table₁' order₂ order₂' table₂ table₂' _ _ first second reach
