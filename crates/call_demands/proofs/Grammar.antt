-- "The judge's statement keeps the existence half and the equal verdicts and P" (Paper 13), over the numbers of `fumarehi_grammar`: `Judging k masks names rules w
-- order order' table table' sets sets' code told` is what holds of a call that returned `code` and told `told`.
use mathlib.Core.Path.{◌≡◌, sym, ◌∙◌, ap}
use mathlib.Core.Logic.{◌⊎◌, inl, inr, ⊎_elim, ◌↔◌}
use mathlib.Core.List.{List, [], ◌∷◌}
use mathlib.Core.Option.{none, some}
use Prim.Native.Nat.{ℕ, ◌<◌}
use lib.ListN.{length, take, drop}
use Rattle.profile.specs.Orders.{Same}
use Rattle.profile.specs.Refusals.{full_table, refusal_number, refusal_place}
use Rattle.profile.specs.Tables.{capacity, layout}
use Rattle.profile.specs.Traces.{independent, itself}
use Rattle.profile.specs.declared.Refusal.{Refusal}
use Rattle.profile.specs.declared.Refusal.TheVariants.{FullTable}
use Rattle.verdict.specs.Verdict.{judged_code, judged_told, refused_by, verdict_number}
use Rattle.grammars.specs.Grammars.{Derivable, grammar_of}
use Rattle.bare.specs.Bare.{prefixes_of}
use Rattle.grammar_judge.specs.GrammarJudge.{grammar_refusal, grammar_refusals}
use Rattle.grammar_judge.proofs.Demands as grammar
use Rattle.grammar_calls.specs.GrammarCalls as numbers
use Rattle.demands.specs.Admitted.{Admitted}
use Rattle.demands.proofs.Admission.{or_none, ten_exactly, unrefused_exactly}
use Rattle.call_demands.specs.Told.{GrammarJudgeable, looks_in, prefixes_in, verdict_in}
use Rattle.call_demands.proofs.Numbers.{code_ten, code_zero, told_equal, verdict_is}

-- nothing refuses the call exactly when the log is admitted, which takes in that the second table has P × P entries, and its prefixes fit the work table
pub judgeable : (k : ℕ) (masks : List ℕ) (names : ℕ) (rules w : List ℕ) (n m z : ℕ)
    → (grammar_refusal k masks names rules w n m z ≡ none) ↔ GrammarJudgeable k masks names rules w n m z
judgeable k masks names rules w n m z = unrefused_exactly (grammar_refusals k masks names rules w n m z) (prefixes_of k masks w) m (or_none (full_table (prefixes_of k masks w) m))

module _ (k : ℕ) (masks : List ℕ) (names : ℕ) (rules w order order' table table' sets sets' : List ℕ) (code : ℕ) (told : List ℕ)
    (call : numbers.Judging k masks names rules w order order' table table' sets sets' code told) where
  -- 0 is returned exactly when the log is admitted and its prefixes fit the work table
  pub zero_admitted : (code ≡ 0) ↔ GrammarJudgeable k masks names rules w (length order) (length table) (length sets)
  zero_admitted =
      let z = code_zero call.answer code told call.code_is call.told_is in
      let a = judgeable k masks names rules w (length order) (length table) (length sets) in
      (λ e. a.0 (sym call.promise.refused ∙ z.0 e), λ r. z.1 (call.promise.refused ∙ a.1 r))

  -- an admitted log gets 10 exactly when they do not
  pub ten_admitted : Admitted (grammar_refusals k masks names rules w (length order) (length table) (length sets))
      → (code ≡ 10) ↔ (capacity layout (length table) < prefixes_of k masks w)
  ten_admitted h =
      let P = prefixes_of k masks w in
      let z = code_ten call.answer code told call.code_is call.told_is in
      let a = ten_exactly (grammar_refusals k masks names rules w (length order) (length table) (length sets)) P (length table) (or_none (full_table P (length table))) h in
      let r = grammar.refused_exactly k masks names rules w order order' table table' sets sets' call.answer call.promise FullTable in
      (λ e. a.0 (r.0 (z.0 e)), λ lt. z.1 (r.1 (a.1 lt)))

  -- a refusal gives its number and its place, "with no verdict or counts"
  pub refusal_told : (r : Refusal) → grammar_refusal k masks names rules w (length order) (length table) (length sets) ≡ some r
      → (code ≡ refusal_number r) × (told ≡ refusal_place r ∷ 0 ∷ 0 ∷ 0 ∷ [])
  refusal_told r e =
      let q = (grammar.refused_exactly k masks names rules w order order' table table' sets sets' call.answer call.promise r).1 e in
      (call.code_is ∙ ap judged_code q, call.told_is ∙ ap judged_told q)

  module _ (ready : GrammarJudgeable k masks names rules w (length order) (length table) (length sets)) where
    unrefused : grammar_refusal k masks names rules w (length order) (length table) (length sets) ≡ none
    unrefused = (judgeable k masks names rules w (length order) (length table) (length sets)).1 ready

    answered : refused_by call.answer ≡ none
    answered = call.promise.refused ∙ unrefused

    told_as : (v : ℕ) → (verdict_in told ≡ v) ↔ (verdict_number call.answer ≡ some v)
    told_as v = verdict_is call.answer code told call.code_is call.told_is answered v

    pub verdict_told : (verdict_in told ≡ 0) ⊎ (verdict_in told ≡ 1)
    verdict_told = ⊎_elim (λ e. inl ((told_as 0).1 e)) (λ e. inr ((told_as 1).1 e))
        (grammar.verdict_cases k masks names rules w order order' table table' sets sets' unrefused call.answer call.promise)

    -- "The verdict is 1 exactly when some reachable log can be derived from name 0": 0 exactly when none can
    pub no_order_told : (verdict_in told ≡ 0) ↔ ((v : List ℕ) → Derivable (grammar_of rules) (independent masks) w v → ⊥)
    no_order_told =
        let h = grammar.no_order_exactly k masks names rules w order order' table table' sets sets' unrefused call.answer call.promise in
        (λ e. h.0 ((told_as 0).0 e), λ f. (told_as 0).1 (h.1 f))

    -- "and such a log is returned"; the other bytes stay
    pub order_told : verdict_in told ≡ 1
        → Derivable (grammar_of rules) (independent masks) w (take (length w) order') × (drop (length w) order' ≡ drop (length w) order)
    order_told e = grammar.order_exactly k masks names rules w order order' table table' sets sets' unrefused call.answer call.promise ((told_as 1).0 e)

-- two logs reachable from each other: the same verdict, P and looks, whatever buffers each call was lent. Which log is returned is free
module _ (k : ℕ) (masks : List ℕ) (names : ℕ) (rules v w : List ℕ) (order₁ order₁' table₁ table₁' sets₁ sets₁' order₂ order₂' table₂ table₂' sets₂ sets₂' : List ℕ)
    (code₁ code₂ : ℕ) (told₁ told₂ : List ℕ) (g : numbers.Judging k masks names rules v order₁ order₁' table₁ table₁' sets₁ sets₁' code₁ told₁)
    (h : numbers.Judging k masks names rules w order₂ order₂' table₂ table₂' sets₂ sets₂' code₂ told₂)
    (first : GrammarJudgeable k masks names rules v (length order₁) (length table₁) (length sets₁))
    (second : GrammarJudgeable k masks names rules w (length order₂) (length table₂) (length sets₂)) where
  pub told_same : Same (independent masks) v w → (verdict_in told₁ ≡ verdict_in told₂) × (prefixes_in told₁ ≡ prefixes_in told₂) × (looks_in told₁ ≡ looks_in told₂)
  told_same same =
      let a = (judgeable k masks names rules v (length order₁) (length table₁) (length sets₁)).1 first in
      let b = (judgeable k masks names rules w (length order₂) (length table₂) (length sets₂)).1 second in
      let x = grammar.judged_same k masks names rules v w order₁ order₁' table₁ table₁' sets₁ sets₁' order₂ order₂' table₂ table₂' sets₂ sets₂' a b
      g.answer h.answer g.promise h.promise same in
      told_equal g.answer h.answer code₁ code₂ told₁ told₂ g.code_is g.told_is
      h.code_is h.told_is (g.promise.refused ∙ a) (h.promise.refused ∙ b) x.0 x.1 x.2

-- one log judged twice
module _ (k : ℕ) (masks : List ℕ) (names : ℕ) (rules w : List ℕ) (order₁ order₁' table₁ table₁' sets₁ sets₁' order₂ order₂' table₂ table₂' sets₂ sets₂' : List ℕ)
    (code₁ code₂ : ℕ) (told₁ told₂ : List ℕ) (g : numbers.Judging k masks names rules w order₁ order₁' table₁ table₁' sets₁ sets₁' code₁ told₁)
    (h : numbers.Judging k masks names rules w order₂ order₂' table₂ table₂' sets₂ sets₂' code₂ told₂)
    (first : GrammarJudgeable k masks names rules w (length order₁) (length table₁) (length sets₁))
    (second : GrammarJudgeable k masks names rules w (length order₂) (length table₂) (length sets₂)) where
  pub told_twice : (verdict_in told₁ ≡ verdict_in told₂) × (prefixes_in told₁ ≡ prefixes_in told₂) × (looks_in told₁ ≡ looks_in told₂)
  told_twice = told_same k masks names rules w w order₁ order₁' table₁ table₁' sets₁ sets₁' order₂ order₂' table₂ table₂' sets₂ sets₂' code₁ code₂ told₁ told₂ g h first second (itself, itself)
