-- Demand 3 over the numbers of `fumarehi_judge_terms` (Paper 8): `TermJudging p w days terms order order' table table' code told` is what holds of a call that
-- returned `code` and told `told`. A log with terms is its events, each with its day; exchanges are inside a term.
use mathlib.Core.Path.{◌≡◌, sym, ◌∙◌, ap}
use mathlib.Core.Logic.{◌⊎◌, inl, inr, ⊎_elim, ◌↔◌, ◌≢◌}
use mathlib.Core.List.{List, [], ◌∷◌, map}
use mathlib.Core.Option.{none, some}
use Prim.Native.Nat.{ℕ, ◌<◌}
use lib.ListN.{length, take, drop}
use Rattle.profile.specs.Automata.{Profile}
use Rattle.profile.specs.Orders.{Earlier, Same}
use Rattle.profile.specs.Refusals.{full_table, refusal_number, refusal_place}
use Rattle.profile.specs.Rules.{prefixes_by}
use Rattle.profile.specs.Tables.{capacity, layout}
use Rattle.profile.specs.Traces.{itself}
use Rattle.profile.specs.declared.Refusal.{Refusal}
use Rattle.profile.specs.declared.Refusal.TheVariants.{FullTable}
use Rattle.theory.proofs.Calls.{WitnessBy}
use Rattle.terms.specs.Terms.{dated_refusal, dated_refusals, events, letter_of, may_in, with_terms}
use Rattle.verdict.specs.Verdict.{judged_code, judged_told, refused_by, verdict_number}
use Rattle.termed.proofs.Demands as termed
use Rattle.term_calls.specs.TermCalls.{TermJudging}
use Rattle.demands.specs.Admitted.{Admitted}
use Rattle.demands.proofs.Admission.{or_none, ten_exactly, unrefused_exactly}
use Rattle.call_demands.specs.Told.{TermsJudgeable, looks_in, prefixes_in, verdict_in}
use Rattle.call_demands.proofs.Numbers.{code_ten, code_zero, told_equal, verdict_is}

-- nothing refuses the call exactly when the log is admitted and its prefixes fit
pub judgeable : (p : Profile) (w days terms : List ℕ) (n m : ℕ) → (dated_refusal p w days terms n m ≡ none) ↔ TermsJudgeable p w days terms n m
judgeable p w days terms n m = unrefused_exactly (dated_refusals p w days terms n m) (prefixes_by (with_terms p terms) (events w days)) m
    (or_none (full_table (prefixes_by (with_terms p terms) (events w days)) m))

module _ (p : Profile) (w days terms order order' table table' : List ℕ) (code : ℕ) (told : List ℕ) (call : TermJudging p w days terms order order' table table' code told) where
  -- 0 is returned exactly when the log is admitted and its prefixes fit the table
  pub zero_admitted : (code ≡ 0) ↔ TermsJudgeable p w days terms (length order) (length table)
  zero_admitted =
      let z = code_zero call.answer code told call.code_is call.told_is in
      let a = judgeable p w days terms (length order) (length table) in
      (λ e. a.0 (sym call.promise.refused ∙ z.0 e), λ r. z.1 (call.promise.refused ∙ a.1 r))

  -- an admitted log gets 10 exactly when they do not
  pub ten_admitted : Admitted (dated_refusals p w days terms (length order) (length table))
      → (code ≡ 10) ↔ (capacity layout (length table) < prefixes_by (with_terms p terms) (events w days))
  ten_admitted h =
      let P = prefixes_by (with_terms p terms) (events w days) in
      let z = code_ten call.answer code told call.code_is call.told_is in
      let a = ten_exactly (dated_refusals p w days terms (length order) (length table)) P (length table) (or_none (full_table P (length table))) h in
      let r = termed.refused_exactly p w days terms order order' table table' call.answer call.promise FullTable in
      (λ e. a.0 (r.0 (z.0 e)), λ lt. z.1 (r.1 (a.1 lt)))

  -- a refusal gives its number and its place, "with no verdict or counts"
  pub refusal_told : (r : Refusal) → dated_refusal p w days terms (length order) (length table) ≡ some r
      → (code ≡ refusal_number r) × (told ≡ refusal_place r ∷ 0 ∷ 0 ∷ 0 ∷ [])
  refusal_told r e =
      let q = (termed.refused_exactly p w days terms order order' table table' call.answer call.promise r).1 e in
      (call.code_is ∙ ap judged_code q, call.told_is ∙ ap judged_told q)

  module _ (ready : TermsJudgeable p w days terms (length order) (length table)) where
    unrefused : dated_refusal p w days terms (length order) (length table) ≡ none
    unrefused = (judgeable p w days terms (length order) (length table)).1 ready

    answered : refused_by call.answer ≡ none
    answered = call.promise.refused ∙ unrefused

    told_as : (v : ℕ) → (verdict_in told ≡ v) ↔ (verdict_number call.answer ≡ some v)
    told_as v = verdict_is call.answer code told call.code_is call.told_is answered v

    pub verdict_told : (verdict_in told ≡ 0) ⊎ (verdict_in told ≡ 1)
    verdict_told = ⊎_elim (λ e. inl ((told_as 0).1 e)) (λ e. inr ((told_as 1).1 e))
        (termed.verdict_cases p w days terms order order' table table' unrefused call.answer call.promise)

    -- "The log gets 'no order' exactly when no log reachable from it by exchanges is accepted."
    pub no_order_told : (verdict_in told ≡ 0) ↔ ((v : List ℕ) → WitnessBy (with_terms p terms) (events w days) v → ⊥)
    no_order_told =
        let h = termed.no_order_exactly p w days terms order order' table table' unrefused call.answer call.promise in
        (λ e. h.0 ((told_as 0).0 e), λ f. (told_as 0).1 (h.1 f))

    -- "Otherwise the order returned is reachable from it, accepted, and earlier in letter order than every other log that is both"; the other bytes stay
    pub order_told : verdict_in told ≡ 1
        → ((x : List ℕ) × (map letter_of x ≡ take (length w) order') × WitnessBy (with_terms p terms) (events w days) x)
        × ((u : List ℕ) → WitnessBy (with_terms p terms) (events w days) u → map letter_of u ≢ take (length w) order' → Earlier (take (length w) order') (map letter_of u))
        × (drop (length w) order' ≡ drop (length w) order)
    order_told e = termed.order_exactly p w days terms order order' table table' unrefused call.answer call.promise ((told_as 1).0 e)

-- "two such logs being judged with the same terms", reachable from each other: the same verdict, P, looks and order, whatever buffers each was lent
module _ (p : Profile) (terms v days₁ w days₂ order₁ order₁' table₁ table₁' order₂ order₂' table₂ table₂' : List ℕ) (code₁ code₂ : ℕ) (told₁ told₂ : List ℕ)
    (g : TermJudging p v days₁ terms order₁ order₁' table₁ table₁' code₁ told₁) (h : TermJudging p w days₂ terms order₂ order₂' table₂ table₂' code₂ told₂)
    (first : TermsJudgeable p v days₁ terms (length order₁) (length table₁)) (second : TermsJudgeable p w days₂ terms (length order₂) (length table₂)) where
  pub told_same : Same (may_in p.masks terms) (events v days₁) (events w days₂)
      → (verdict_in told₁ ≡ verdict_in told₂) × (prefixes_in told₁ ≡ prefixes_in told₂) × (looks_in told₁ ≡ looks_in told₂)
      × (verdict_in told₁ ≡ 1 → take (length v) order₁' ≡ take (length w) order₂')
  told_same same =
      let a = unrefused p v days₁ terms order₁ order₁' table₁ table₁' code₁ told₁ g first in
      let b = unrefused p w days₂ terms order₂ order₂' table₂ table₂' code₂ told₂ h second in
      let x = termed.judged_same p terms v days₁ w days₂ order₁ order₁' table₁ table₁' order₂ order₂' table₂ table₂' a b same g.answer h.answer g.promise h.promise in
      let t = told_equal g.answer h.answer code₁ code₂ told₁ told₂ g.code_is g.told_is h.code_is h.told_is
      (g.promise.refused ∙ a) (h.promise.refused ∙ b) x.0 x.1 x.2 in
      (t.0, t.1, t.2, λ e. x.3 ((told_as p v days₁ terms order₁ order₁' table₁ table₁' code₁ told₁ g first 1).0 e))

-- one log with terms judged twice
module _ (p : Profile) (w days terms order₁ order₁' table₁ table₁' order₂ order₂' table₂ table₂' : List ℕ) (code₁ code₂ : ℕ) (told₁ told₂ : List ℕ)
    (g : TermJudging p w days terms order₁ order₁' table₁ table₁' code₁ told₁) (h : TermJudging p w days terms order₂ order₂' table₂ table₂' code₂ told₂)
    (first : TermsJudgeable p w days terms (length order₁) (length table₁)) (second : TermsJudgeable p w days terms (length order₂) (length table₂)) where
  pub told_twice : (verdict_in told₁ ≡ verdict_in told₂) × (prefixes_in told₁ ≡ prefixes_in told₂) × (looks_in told₁ ≡ looks_in told₂)
      × (verdict_in told₁ ≡ 1 → take (length w) order₁' ≡ take (length w) order₂')
  told_twice = told_same p terms w days w days order₁ order₁' table₁ table₁' order₂ order₂' table₂ table₂' code₁ code₂ told₁ told₂ g h first second (itself, itself)
