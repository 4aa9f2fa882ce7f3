-- Demands 2 and 3 over the numbers of `fumarehi_judge`: `Judging p w order order' table table' code told` is what holds of a call that returned `code` and told
-- `told`: place, verdict, P and looks.
use mathlib.Core.Path.{◌≡◌, sym, ◌∙◌, ap}
use mathlib.Core.Logic.{◌⊎◌, inl, inr, ⊎_elim, ◌↔◌, ◌≢◌}
use mathlib.Core.List.{List, [], ◌∷◌}
use mathlib.Core.Option.{none, some, some-injective}
use Prim.Native.Nat.{ℕ, ◌<◌}
use lib.ListN.{length, take, drop}
use Rattle.profile.specs.Automata.{Profile, automaton}
use Rattle.profile.specs.Orders.{Earlier, Same}
use Rattle.profile.specs.Refusals.{judge_refusal, judge_refusals, refusal_number, refusal_place}
use Rattle.profile.specs.Rules.{plain, prefixes_by}
use Rattle.profile.specs.Source.{InLanguage}
use Rattle.profile.specs.Tables.{capacity, layout}
use Rattle.profile.specs.Traces.{Symmetric, independent, itself}
use Rattle.profile.specs.declared.Refusal.{Refusal}
use Rattle.theory.proofs.Agreement.{Representatives}
use Rattle.theory.proofs.Demands.{Witness}
use Rattle.verdict.specs.Verdict.{judged_code, judged_told, refused_by, verdict_number}
use Rattle.verdict.proofs.Demands as judge
use Rattle.capi.specs.Numbers.{Judging}
use Rattle.demands.specs.Admitted.{Admitted, Judgeable}
use Rattle.demands.specs.Traces.{HoldsTraces}
use Rattle.demands.proofs.Demand2 as two
use Rattle.demands.proofs.Demand3 as three
use Rattle.call_demands.specs.Told.{looks_in, prefixes_in, verdict_in}
use Rattle.call_demands.proofs.Numbers.{code_ten, code_zero, told_count, told_equal, verdict_is}

module _ (p : Profile) (w order order' table table' : List ℕ) (code : ℕ) (told : List ℕ) (call : Judging p w order order' table table' code told) where
  -- 0 is returned exactly when the log is admitted and its prefixes fit the table
  pub zero_admitted : (code ≡ 0) ↔ Judgeable p w (length order) (length table)
  zero_admitted =
      let z = code_zero call.answer code told call.code_is call.told_is in
      let a = three.unrefused_admitted p w order order' table table' call.answer call.promise in
      (λ e. a.0 (z.0 e), λ r. z.1 (a.1 r))

  -- an admitted log gets 10 exactly when they do not
  pub ten_admitted : Admitted (judge_refusals p w (length order) (length table)) → (code ≡ 10) ↔ (capacity layout (length table) < prefixes_by (plain p) w)
  ten_admitted h =
      let z = code_ten call.answer code told call.code_is call.told_is in
      let a = three.ten_admitted p w order order' table table' call.answer call.promise h in
      (λ e. a.0 (z.0 e), λ r. z.1 (a.1 r))

  -- a refusal gives its number and its place, "with no verdict or counts"
  pub refusal_told : (r : Refusal) → judge_refusal p w (length order) (length table) ≡ some r → (code ≡ refusal_number r) × (told ≡ refusal_place r ∷ 0 ∷ 0 ∷ 0 ∷ [])
  refusal_told r e =
      let q = (judge.refused_exactly p w order order' table table' call.answer call.promise r).1 e in
      (call.code_is ∙ ap judged_code q, call.told_is ∙ ap judged_told q)

  module _ (ready : Judgeable p w (length order) (length table)) where
    answered : refused_by call.answer ≡ none
    answered = (three.unrefused_admitted p w order order' table table' call.answer call.promise).1 ready

    told_as : (v : ℕ) → (verdict_in told ≡ v) ↔ (verdict_number call.answer ≡ some v)
    told_as v = verdict_is call.answer code told call.code_is call.told_is answered v

    pub verdict_told : (verdict_in told ≡ 0) ⊎ (verdict_in told ≡ 1)
    verdict_told = ⊎_elim (λ e. inl ((told_as 0).1 e)) (λ e. inr ((told_as 1).1 e)) (three.verdict_given p w order order' table table' ready call.answer call.promise)

    -- "The log gets 'no order' exactly when no log reachable from it by exchanges is accepted."
    pub no_order_told : (verdict_in told ≡ 0) ↔ ((v : List ℕ) → Witness p w v → ⊥)
    no_order_told =
        let h = three.no_order_exactly p w order order' table table' ready call.answer call.promise in
        (λ e. h.0 ((told_as 0).0 e), λ f. (told_as 0).1 (h.1 f))

    -- "Otherwise the order returned is reachable from it, accepted, and earlier in letter order than every other log that is both"; the other bytes stay
    pub order_told : verdict_in told ≡ 1
        → Witness p w (take (length w) order') × ((u : List ℕ) → Witness p w u → u ≢ take (length w) order' → Earlier (take (length w) order') u)
        × (drop (length w) order' ≡ drop (length w) order)
    order_told e = three.order_exactly p w order order' table table' ready call.answer call.promise ((told_as 1).0 e)

    -- demand 2, where the masks are symmetric
    module _ (symmetric : Symmetric (independent p.masks)) where
      pub verdict_trace : (verdict_in told ≡ 1) ↔ InLanguage (independent p.masks) (λ a. a) (automaton p) w
      verdict_trace =
          let h = two.verdict_trace p symmetric w order order' table table' call.answer call.promise answered in
          (λ e. h.0 ((told_as 1).0 e), λ l. (told_as 1).1 (h.1 l))

      pub prefixes_trace : (l : List (List ℕ)) → Representatives (independent p.masks) w l → prefixes_in told ≡ length l
      prefixes_trace l r = some-injective _ _
          (sym (told_count call.answer code told call.code_is call.told_is answered) ∙ two.prefixes_trace p symmetric w order order' table table' call.answer call.promise answered l r)

      pub table_trace : HoldsTraces p w table' (prefixes_in told)
      table_trace = two.table_trace p symmetric w order order' table table' call.answer call.promise answered (prefixes_in told)
          (told_count call.answer code told call.code_is call.told_is answered)

-- "Any two such logs with the same profile that are reachable from each other get the same verdict, the same order if there is one, and the same prefix count
-- …, whatever buffers each was lent"; and the same looks
module _ (p : Profile) (v w : List ℕ) (order₁ order₁' table₁ table₁' order₂ order₂' table₂ table₂' : List ℕ) (code₁ code₂ : ℕ) (told₁ told₂ : List ℕ)
    (g : Judging p v order₁ order₁' table₁ table₁' code₁ told₁) (h : Judging p w order₂ order₂' table₂ table₂' code₂ told₂)
    (first : Judgeable p v (length order₁) (length table₁)) (second : Judgeable p w (length order₂) (length table₂)) where
  pub told_same : Same (independent p.masks) v w
      → (verdict_in told₁ ≡ verdict_in told₂) × (prefixes_in told₁ ≡ prefixes_in told₂) × (looks_in told₁ ≡ looks_in told₂)
      × (verdict_in told₁ ≡ 1 → take (length v) order₁' ≡ take (length w) order₂')
  told_same same =
      let x = three.judged_same p v w order₁ order₁' table₁ table₁' order₂ order₂' table₂ table₂' first second g.answer h.answer g.promise h.promise same in
      let a = answered p v order₁ order₁' table₁ table₁' code₁ told₁ g first in
      let b = answered p w order₂ order₂' table₂ table₂' code₂ told₂ h second in
      let t = told_equal g.answer h.answer code₁ code₂ told₁ told₂ g.code_is g.told_is h.code_is h.told_is a b x.0 x.1 x.2 in
      (t.0, t.1, t.2, λ e. x.3 ((told_as p v order₁ order₁' table₁ table₁' code₁ told₁ g first 1).0 e))

-- "This holds for one log judged twice, so a larger table changes none of these three."
module _ (p : Profile) (w : List ℕ) (order₁ order₁' table₁ table₁' order₂ order₂' table₂ table₂' : List ℕ) (code₁ code₂ : ℕ) (told₁ told₂ : List ℕ)
    (g : Judging p w order₁ order₁' table₁ table₁' code₁ told₁) (h : Judging p w order₂ order₂' table₂ table₂' code₂ told₂)
    (first : Judgeable p w (length order₁) (length table₁)) (second : Judgeable p w (length order₂) (length table₂)) where
  pub told_twice : (verdict_in told₁ ≡ verdict_in told₂) × (prefixes_in told₁ ≡ prefixes_in told₂) × (looks_in told₁ ≡ looks_in told₂)
      × (verdict_in told₁ ≡ 1 → take (length w) order₁' ≡ take (length w) order₂')
  told_twice = told_same p w w order₁ order₁' table₁ table₁' order₂ order₂' table₂ table₂' code₁ code₂ told₁ told₂ g h first second (itself, itself)
