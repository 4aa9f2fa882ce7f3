-- Demand 3 in its own words, "any lent buffers, whatever they held before, with which the log is admitted and its prefixes fit the table", over what the judge
-- promises; and that a call gets no refusal exactly then, and an admitted log 10 exactly where its prefixes do not fit.
use Rattle.std.specs.Prelude.{Result, Ok, Err}
use mathlib.Core.Path.{◌≡◌, refl, sym, ◌∙◌}
use mathlib.Core.Logic.{◌⊎◌, ◌↔◌, ◌≢◌}
use mathlib.Core.List.{List}
use mathlib.Core.Option.{none, some}
use Prim.Native.Nat.{ℕ, ◌+◌, ◌*◌, ◌≤◌, ◌<◌}
use lib.ListN.{length, get_or, take, drop}
use Rattle.profile.specs.Automata.{Profile}
use Rattle.profile.specs.Orders.{Earlier, NoLater, Same}
use Rattle.profile.specs.Refusals.{admission_refusals, full_table, judge_refusal, judge_refusals, lowest}
use Rattle.profile.specs.Rules.{plain, prefixes_by}
use Rattle.profile.specs.Tables.{capacity, layout, record_length}
use Rattle.profile.specs.Traces.{Reachable, independent, itself}
use Rattle.profile.specs.declared.Refusal.{Refusal}
use Rattle.profile.specs.declared.Refusal.TheVariants.{FullTable}
use Rattle.theory.proofs.Demands.{Witness}
use Rattle.theory.proofs.Refusals as known
use Rattle.table.specs.Table as table
use Rattle.table.specs.declared.Filled.{Filled}
use Rattle.verdict.specs.Verdict.{Promise, refused_by, verdict_number}
use Rattle.verdict.specs.declared.Judged.{Judged}
use Rattle.verdict.proofs.Promises.{told_looks, told_prefixes}
use Rattle.verdict.proofs.Demands as judge
use Rattle.demands.specs.Admitted.{Admitted, Buildable, Judgeable}
use Rattle.demands.proofs.Admission.{none_exactly, or_none, ten_exactly, unrefused_exactly}

-- ---- admitted

-- whether the log is admitted does not depend on the table
pub admitted_any_table : (p : Profile) (w : List ℕ) (n m m' : ℕ) → Admitted (judge_refusals p w n m) → Admitted (judge_refusals p w n m')
admitted_any_table p w n m m' a = a

-- it is admitted exactly when none of the refusals before 10 applies; what is then known of profile, log and buffer
pub admitted_exactly : (p : Profile) (w : List ℕ) (n m : ℕ) → Admitted (judge_refusals p w n m) ↔ (lowest (admission_refusals p w n) ≡ none)
admitted_exactly p w n m = (λ a. (none_exactly (admission_refusals p w n)).1 (a, refl), λ e. ((none_exactly (admission_refusals p w n)).0 e).0)

pub admitted_known : (p : Profile) (w : List ℕ) (n m : ℕ) → Admitted (judge_refusals p w n m) → known.Admitted p w n
admitted_known p w n m a = known.admitted_at p w n ((admitted_exactly p w n m).0 a)

-- nothing refuses the call exactly when the log is admitted and its prefixes fit
pub judgeable : (p : Profile) (w : List ℕ) (n m : ℕ) → (judge_refusal p w n m ≡ none) ↔ Judgeable p w n m
judgeable p w n m = unrefused_exactly (judge_refusals p w n m) (prefixes_by (plain p) w) m (or_none (full_table (prefixes_by (plain p) w) m))

module _ (p : Profile) (w order order' table table' : List ℕ) (j : Result Judged Refusal) (call : Promise p w order order' table table' j) where
  pub unrefused_admitted : (refused_by j ≡ none) ↔ Judgeable p w (length order) (length table)
  unrefused_admitted = let h = judgeable p w (length order) (length table) in (λ e. h.0 (sym call.refused ∙ e), λ a. call.refused ∙ h.1 a)

  pub ten_admitted : Admitted (judge_refusals p w (length order) (length table)) → (j ≡ Err FullTable) ↔ (capacity layout (length table) < prefixes_by (plain p) w)
  ten_admitted a =
      let h = ten_exactly (judge_refusals p w (length order) (length table)) (prefixes_by (plain p) w) (length table) (or_none (full_table (prefixes_by (plain p) w) (length table))) a in
      let r = judge.refused_exactly p w order order' table table' j call FullTable in
      (λ e. h.0 (r.0 e), λ lt. r.1 (h.1 lt))

-- the same of `table::build`
module _ (p : Profile) (w before after : List ℕ) (b : Result Filled Refusal) (call : table.Promise p w before after b) where
  pub built_admitted : (refused_by b ≡ none) ↔ Buildable p w (length before)
  built_admitted =
      let h = unrefused_exactly (table.build_refusals p w (length before)) (prefixes_by (plain p) w) (length before) (or_none (full_table (prefixes_by (plain p) w) (length before))) in
      (λ e. h.0 (sym call.refused ∙ e), λ a. call.refused ∙ h.1 a)

  pub build_ten_admitted : Admitted (table.build_refusals p w (length before)) → (refused_by b ≡ some FullTable) ↔ (capacity layout (length before) < prefixes_by (plain p) w)
  build_ten_admitted a =
      let h = ten_exactly (table.build_refusals p w (length before)) (prefixes_by (plain p) w) (length before) (or_none (full_table (prefixes_by (plain p) w) (length before))) a in
      (λ e. h.0 (sym call.refused ∙ e), λ lt. call.refused ∙ h.1 lt)

-- ---- demand 3

module _ (p : Profile) (w order order' table table' : List ℕ) (ready : Judgeable p w (length order) (length table))
    (j : Result Judged Refusal) (call : Promise p w order order' table table' j) where
  unrefused : judge_refusal p w (length order) (length table) ≡ none
  unrefused = (judgeable p w (length order) (length table)).1 ready

  -- there is a verdict, 0 or 1
  pub verdict_given : (verdict_number j ≡ some 0) ⊎ (verdict_number j ≡ some 1)
  verdict_given = judge.verdict_cases p w order order' table table' unrefused j call

  -- "The log gets 'no order' exactly when no log reachable from it by exchanges is accepted."
  pub no_order_exactly : (verdict_number j ≡ some 0) ↔ ((v : List ℕ) → Witness p w v → ⊥)
  no_order_exactly = judge.no_order_exactly p w order order' table table' unrefused j call

  -- "Otherwise the order returned is reachable from it, accepted, and earlier in letter order than every other log that is both"; the other bytes stay
  pub order_exactly : verdict_number j ≡ some 1
      → Witness p w (take (length w) order') × ((u : List ℕ) → Witness p w u → u ≢ take (length w) order' → Earlier (take (length w) order') u)
      × (drop (length w) order' ≡ drop (length w) order)
  order_exactly = judge.order_exactly p w order order' table table' unrefused j call

-- two calls, whatever buffers each was lent
module _ (p : Profile) (v w : List ℕ) (order₁ order₁' table₁ table₁' order₂ order₂' table₂ table₂' : List ℕ)
    (first : Judgeable p v (length order₁) (length table₁)) (second : Judgeable p w (length order₂) (length table₂))
    (i j : Result Judged Refusal) (g : Promise p v order₁ order₁' table₁ table₁' i) (h : Promise p w order₂ order₂' table₂ table₂' j) where
  e₁ : judge_refusal p v (length order₁) (length table₁) ≡ none
  e₁ = (judgeable p v (length order₁) (length table₁)).1 first

  e₂ : judge_refusal p w (length order₂) (length table₂) ≡ none
  e₂ = (judgeable p w (length order₂) (length table₂)).1 second

  -- "Any two such logs with the same profile that are reachable from each other get the same verdict, the same order if there is one, and the same prefix
  -- count …, whatever buffers each was lent." "Logs reachable from each other then also show equal looks" (document 02, Paper 2)
  module _ (same : Same (independent p.masks) v w) where
    pub judged_same : (verdict_number i ≡ verdict_number j) × (told_prefixes i ≡ told_prefixes j) × (told_looks i ≡ told_looks j)
        × (verdict_number i ≡ some 1 → take (length v) order₁' ≡ take (length w) order₂')
    judged_same = judge.judged_same p v w order₁ order₁' table₁ table₁' order₂ order₂' table₂ table₂' e₁ e₂ same i j g h

    -- Paper 5: "Logs reachable from each other in both directions must, where both get a verdict, leave equal count fields, record by record"
    pub fields_same : (r n : ℕ) → r < prefixes_by (plain p) v → n < layout.numbers
        → get_or table₁' (record_length layout * r + n) 0 ≡ get_or table₂' (record_length layout * r + n) 0
    fields_same = judge.fields_same p v w order₁ order₁' table₁ table₁' order₂ order₂' table₂ table₂' e₁ e₂ same i j g h

  -- Paper 4: "If log v is reachable from log w and v has an accepted order, then w has one that is no later in letter order". P of v is at most P of w
  module _ (reach : Reachable (independent p.masks) w v) where
    pub judged_reach : verdict_number i ≡ some 1 → (verdict_number j ≡ some 1) × NoLater (take (length w) order₂') (take (length v) order₁')
    judged_reach = judge.judged_reach p v w order₁ order₁' table₁ table₁' order₂ order₂' table₂ table₂' e₁ e₂ reach i j g h

    pub counted_reach : (P Q : ℕ) → told_prefixes i ≡ some P → told_prefixes j ≡ some Q → P ≤ Q
    counted_reach = judge.counted_reach p v w order₁ order₁' table₁ table₁' order₂ order₂' table₂ table₂' e₁ e₂ reach i j g h

-- "This holds for one log judged twice, so a larger table changes none of these three."
module _ (p : Profile) (w : List ℕ) (order₁ order₁' table₁ table₁' order₂ order₂' table₂ table₂' : List ℕ)
    (first : Judgeable p w (length order₁) (length table₁)) (second : Judgeable p w (length order₂) (length table₂))
    (i j : Result Judged Refusal) (g : Promise p w order₁ order₁' table₁ table₁' i) (h : Promise p w order₂ order₂' table₂ table₂' j) where
  pub judged_twice : (verdict_number i ≡ verdict_number j) × (told_prefixes i ≡ told_prefixes j) × (told_looks i ≡ told_looks j)
      × (verdict_number i ≡ some 1 → take (length w) order₁' ≡ take (length w) order₂')
  judged_twice = judged_same p w w order₁ order₁' table₁ table₁' order₂ order₂' table₂ table₂' first second i j g h (itself, itself)
