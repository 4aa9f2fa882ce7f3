-- Demand 3 over the numbers of `fumarehi_view` (Paper 12), "read of visible parts": `Viewing p visible w order order' table table' code told` is what holds of a
-- call with the mask `visible` that returned `code` and told `told`.
use mathlib.Core.Path.{◌≡◌, sym, ◌∙◌, ap}
use mathlib.Core.Logic.{◌⊎◌, inl, inr, ⊎_elim, ◌↔◌, ◌≢◌}
use mathlib.Core.List.{List, [], ◌∷◌}
use mathlib.Core.Option.{none, some}
use Prim.Native.Nat.{ℕ, ◌<◌}
use lib.ListN.{length, take, drop}
use Rattle.profile.specs.Automata.{Profile}
use Rattle.profile.specs.Orders.{Earlier, Same}
use Rattle.profile.specs.Refusals.{full_table, refusal_number, refusal_place}
use Rattle.profile.specs.Tables.{capacity, layout}
use Rattle.profile.specs.Traces.{independent, itself}
use Rattle.profile.specs.declared.Refusal.{Refusal}
use Rattle.profile.specs.declared.Refusal.TheVariants.{FullTable}
use Rattle.verdict.specs.Verdict.{judged_code, judged_told, refused_by, verdict_number}
use Rattle.verdict.proofs.Promises.{told_looks, told_prefixes}
use Rattle.views.specs.Views.{Shown, seen, view_looks, view_order, view_prefixes, view_refusal, view_refusals}
use Rattle.seeing.proofs.Told.{refused_told}
use Rattle.view.proofs.Demands as viewed
use Rattle.view_calls.specs.ViewCalls.{Viewing}
use Rattle.demands.specs.Admitted.{Admitted}
use Rattle.demands.proofs.Admission.{or_none, ten_exactly, unrefused_exactly}
use Rattle.call_demands.specs.Told.{Viewable, looks_in, prefixes_in, verdict_in}
use Rattle.call_demands.proofs.Numbers.{code_ten, code_zero, told_equal, verdict_is}

-- nothing refuses the call exactly when the log is admitted and the prefixes of its visible part fit
pub viewable : (p : Profile) (visible : ℕ) (w : List ℕ) (n m : ℕ) → (view_refusal p visible w n m ≡ none) ↔ Viewable p visible w n m
viewable p visible w n m = unrefused_exactly (view_refusals p visible w n m) (view_prefixes p visible w) m (or_none (full_table (view_prefixes p visible w) m))

module _ (p : Profile) (visible : ℕ) (w order order' table table' : List ℕ) (code : ℕ) (told : List ℕ) (call : Viewing p visible w order order' table table' code told) where
  refusal_is : refused_by call.answer ≡ view_refusal p visible w (length order) (length table)
  refusal_is = ap refused_by call.promise.told ∙ refused_told (view_refusal p visible w (length order) (length table)) (view_order p visible w)
      (view_prefixes p visible w) (view_looks p visible w)

  -- 0 is returned exactly when the log is admitted and the prefixes of its visible part fit the table
  pub zero_admitted : (code ≡ 0) ↔ Viewable p visible w (length order) (length table)
  zero_admitted =
      let z = code_zero call.answer code told call.code_is call.told_is in
      let a = viewable p visible w (length order) (length table) in
      (λ e. a.0 (sym refusal_is ∙ z.0 e), λ r. z.1 (refusal_is ∙ a.1 r))

  -- an admitted log gets 10 exactly when they do not
  pub ten_admitted : Admitted (view_refusals p visible w (length order) (length table)) → (code ≡ 10) ↔ (capacity layout (length table) < view_prefixes p visible w)
  ten_admitted h =
      let P = view_prefixes p visible w in
      let z = code_ten call.answer code told call.code_is call.told_is in
      let a = ten_exactly (view_refusals p visible w (length order) (length table)) P (length table) (or_none (full_table P (length table))) h in
      let r = viewed.refused_exactly p visible w order order' table table' call.answer call.promise FullTable in
      (λ e. a.0 (r.0 (z.0 e)), λ lt. z.1 (r.1 (a.1 lt)))

  -- a refusal gives its number and its place, "with no verdict or counts"
  pub refusal_told : (r : Refusal) → view_refusal p visible w (length order) (length table) ≡ some r → (code ≡ refusal_number r) × (told ≡ refusal_place r ∷ 0 ∷ 0 ∷ 0 ∷ [])
  refusal_told r e =
      let q = (viewed.refused_exactly p visible w order order' table table' call.answer call.promise r).1 e in
      (call.code_is ∙ ap judged_code q, call.told_is ∙ ap judged_told q)

  module _ (ready : Viewable p visible w (length order) (length table)) where
    unrefused : view_refusal p visible w (length order) (length table) ≡ none
    unrefused = (viewable p visible w (length order) (length table)).1 ready

    answered : refused_by call.answer ≡ none
    answered = refusal_is ∙ unrefused

    told_as : (v : ℕ) → (verdict_in told ≡ v) ↔ (verdict_number call.answer ≡ some v)
    told_as v = verdict_is call.answer code told call.code_is call.told_is answered v

    pub verdict_told : (verdict_in told ≡ 0) ⊎ (verdict_in told ≡ 1)
    verdict_told = ⊎_elim (λ e. inl ((told_as 0).1 e)) (λ e. inr ((told_as 1).1 e))
        (viewed.verdict_cases p visible w order order' table table' call.answer call.promise unrefused)

    -- "Verdict 1 means that some list of letters … has a visible part reachable from that part": verdict 0 exactly when none does
    pub no_order_told : (verdict_in told ≡ 0) ↔ ((u : List ℕ) → Shown p visible w u → ⊥)
    no_order_told =
        let h = viewed.no_order_exactly p visible w order order' table table' call.answer call.promise unrefused in
        (λ e. h.0 ((told_as 0).0 e), λ f. (told_as 0).1 (h.1 f))

    -- "The order is the earliest such visible part"; the other bytes stay
    pub order_told : verdict_in told ≡ 1
        → Shown p visible w (take (length (seen visible w)) order')
        × ((u : List ℕ) → Shown p visible w u → u ≢ take (length (seen visible w)) order' → Earlier (take (length (seen visible w)) order') u)
        × (drop (length (seen visible w)) order' ≡ drop (length (seen visible w)) order)
    order_told e = viewed.order_exactly p visible w order order' table table' call.answer call.promise unrefused ((told_as 1).0 e)

-- "with one mask for both logs": logs whose visible parts are reachable from each other get the same verdict, P, looks and order, whatever buffers each was lent
module _ (p : Profile) (visible : ℕ) (v w order₁ order₁' table₁ table₁' order₂ order₂' table₂ table₂' : List ℕ) (code₁ code₂ : ℕ) (told₁ told₂ : List ℕ)
    (g : Viewing p visible v order₁ order₁' table₁ table₁' code₁ told₁) (h : Viewing p visible w order₂ order₂' table₂ table₂' code₂ told₂)
    (first : Viewable p visible v (length order₁) (length table₁)) (second : Viewable p visible w (length order₂) (length table₂)) where
  pub told_same : Same (independent p.masks) (seen visible v) (seen visible w)
      → (verdict_in told₁ ≡ verdict_in told₂) × (prefixes_in told₁ ≡ prefixes_in told₂) × (looks_in told₁ ≡ looks_in told₂)
      × (verdict_in told₁ ≡ 1 → take (length (seen visible v)) order₁' ≡ take (length (seen visible w)) order₂')
  told_same same =
      let a = unrefused p visible v order₁ order₁' table₁ table₁' code₁ told₁ g first in
      let b = unrefused p visible w order₂ order₂' table₂ table₂' code₂ told₂ h second in
      let x = viewed.viewed_same p visible v w order₁ order₁' table₁ table₁' order₂ order₂' table₂ table₂' g.answer h.answer g.promise h.promise a b same in
      let t = told_equal g.answer h.answer code₁ code₂ told₁ told₂
      g.code_is g.told_is h.code_is h.told_is
      (answered p visible v order₁ order₁' table₁ table₁' code₁ told₁ g first) (answered p visible w order₂ order₂' table₂ table₂' code₂ told₂ h second)
      (ap verdict_number x) (ap told_prefixes x) (ap told_looks x) in (
        t.0,
        t.1,
        t.2,
        λ e. viewed.viewed_order_same p visible v w order₁ order₁' table₁ table₁' order₂ order₂' table₂ table₂' g.answer h.answer g.promise h.promise a b same
            ((told_as p visible v order₁ order₁' table₁ table₁' code₁ told₁ g first 1).0 e),
      )

-- one log viewed twice
module _ (p : Profile) (visible : ℕ) (w order₁ order₁' table₁ table₁' order₂ order₂' table₂ table₂' : List ℕ) (code₁ code₂ : ℕ) (told₁ told₂ : List ℕ)
    (g : Viewing p visible w order₁ order₁' table₁ table₁' code₁ told₁) (h : Viewing p visible w order₂ order₂' table₂ table₂' code₂ told₂)
    (first : Viewable p visible w (length order₁) (length table₁)) (second : Viewable p visible w (length order₂) (length table₂)) where
  pub told_twice : (verdict_in told₁ ≡ verdict_in told₂) × (prefixes_in told₁ ≡ prefixes_in told₂) × (looks_in told₁ ≡ looks_in told₂)
      × (verdict_in told₁ ≡ 1 → take (length (seen visible w)) order₁' ≡ take (length (seen visible w)) order₂')
  told_twice = told_same p visible w w order₁ order₁' table₁ table₁' order₂ order₂' table₂ table₂' code₁ code₂ told₁ told₂ g h first second (itself, itself)
