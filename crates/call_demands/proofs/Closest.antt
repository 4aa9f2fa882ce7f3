-- The demands over the numbers of `fumarehi_closest` and `fumarehi_closest_terms` (Paper 10): `Closing …` and `TermClosing …` are what holds of a call that returned
-- `code` and told `told`: place, verdict, P, looks, swaps, floor.
use Rattle.std.specs.Prelude.{Result, Ok, Err}
use mathlib.Core.Path.{◌≡◌, refl, sym, ◌∙◌, ap, subst}
use mathlib.Core.Bool.{Bool}
use mathlib.Core.Logic.{◌↔◌}
use mathlib.Core.List.{List, [], ◌∷◌, map}
use mathlib.Core.Option.{none, some, some-ne-none}
use Prim.Native.Nat.{ℕ, ◌≤◌, ◌<◌}
use native.Mathlib.Omega.{arith}
use lib.Dec.{T, eqb}
use lib.ListN.{length, take}
use Rattle.profile.specs.Automata.{Profile}
use Rattle.profile.specs.Refusals.{full_table, lowest, refusal_number, refusal_place, refused_by}
use Rattle.profile.specs.Rules.{Rules, plain, prefixes_by}
use Rattle.profile.specs.Tables.{capacity, layout}
use Rattle.profile.specs.declared.Refusal.{Refusal}
use Rattle.profile.specs.declared.Refusal.TheVariants.{FullTable}
use Rattle.theory.proofs.Calls.{WitnessBy}
use Rattle.terms.specs.Terms.{events, with_terms}
use Rattle.swaps.specs.Swaps.{swaps}
use Rattle.closestanswer.specs.Answers.{PromiseBy, closest_refusals}
use Rattle.closestanswer.specs.declared.Closest.{Closest}
use Rattle.closestanswer.specs.declared.Closest.TheVariants.{NoOrder, Order}
use Rattle.closestanswer.proofs.Promises.{floor_holds_by, no_order_told_by, order_accepted_by, refused_exactly_by}
use Rattle.closestterms.specs.Dated.{dated_closest_refusals}
use Rattle.closest_calls.specs.Calls.{Closing, TermClosing, closest_code, closest_told}
use Rattle.demands.specs.Admitted.{Admitted, AdmittedAndFits}
use Rattle.demands.proofs.Admission.{full?, or_none, ten_exactly, ten_full, unrefused_exactly}
use Rattle.call_demands.specs.Told.{floor_in, swaps_in, verdict_in}
use Rattle.call_demands.proofs.Numbers.{zero_unused}

zero_none : (a : Result Closest Refusal) → (closest_code a ≡ 0) ↔ (refused_by a ≡ none)
zero_none (Err r) = ((λ e. absurd (zero_unused r e)), λ e. absurd (some-ne-none r e))
zero_none (Ok (NoOrder P n)) = ((λ e. refl), λ e. refl)
zero_none (Ok (Order P n c f)) = ((λ e. refl), λ e. refl)

ten_refused : (a : Result Closest Refusal) → (closest_code a ≡ 10) ↔ (a ≡ Err FullTable)
ten_refused (Err r) = ((λ e. ap Err (ten_full r (subst (λ n. T (eqb n 10)) (sym e) tt))), λ e. ap closest_code e)
ten_refused (Ok (NoOrder P n)) = ((λ e. absurd (omega arith)), λ e. ap closest_code e)
ten_refused (Ok (Order P n c f)) = ((λ e. absurd (omega arith)), λ e. ap closest_code e)

-- ---- any rules, and the refusals l of the call

module _ (r : Rules) (w : List ℕ) (B : ℕ) (order order' table table' costs costs' : List ℕ) (l : List (Bool × Refusal))
    (tenth : full? l ≡ full_table (prefixes_by r w) (length table)) where
  -- what an answer that is no refusal tells
  no_order_in : (a : Result Closest Refusal) → PromiseBy r w B order order' table table' costs costs' (lowest l) a → refused_by a ≡ none
      → (verdict_in (closest_told a) ≡ 0) ↔ ((v : List ℕ) → WitnessBy r w v → ⊥)
  no_order_in (Err x) h e = absurd (some-ne-none x e)
  no_order_in (Ok (NoOrder P n)) h e = ((λ z. no_order_told_by r w B order order' table table' costs costs' (lowest l) P n h), λ f. refl)
  no_order_in (Ok (Order P n c f)) h e =
      let x = (order_accepted_by r w B order order' table table' costs costs' (lowest l) P n c f h).0 in
      ((λ z. absurd (omega arith)), λ g. absurd (g x.0 x.2))

  order_in : (a : Result Closest Refusal) → PromiseBy r w B order order' table table' costs costs' (lowest l) a → verdict_in (closest_told a) ≡ 1
      → ((x : List ℕ) × (map r.letter x ≡ take (length w) order') × WitnessBy r w x) × (swaps_in (closest_told a) ≡ swaps r.letter w (take (length w) order'))
      × ((u : List ℕ) → WitnessBy r w u → floor_in (closest_told a) ≤ swaps r.letter w (map r.letter u))
  order_in (Err x) h e = absurd (omega arith)
  order_in (Ok (NoOrder P n)) h e = absurd (omega arith)
  order_in (Ok (Order P n c f)) h e =
      let x = order_accepted_by r w B order order' table table' costs costs' (lowest l) P n c f h in
      (x.0, x.1, floor_holds_by r w B order order' table table' costs costs' (lowest l) P n c f h)

  module _ (code : ℕ) (told : List ℕ) (a : Result Closest Refusal) (call : PromiseBy r w B order order' table table' costs costs' (lowest l) a)
      (code_is : code ≡ closest_code a) (told_is : told ≡ closest_told a) where
    -- 0 is returned exactly when the log is admitted, to which 17 must not apply, and its prefixes fit the work table
    pub zero_by : (code ≡ 0) ↔ AdmittedAndFits l (prefixes_by r w) (length table)
    zero_by =
        let z = zero_none a in
        let h = unrefused_exactly l (prefixes_by r w) (length table) tenth in
        (λ e. h.0 (sym call.refused ∙ z.0 (sym code_is ∙ e)), λ g. code_is ∙ z.1 (call.refused ∙ h.1 g))

    -- an admitted log gets 10 exactly when they do not
    pub ten_by : Admitted l → (code ≡ 10) ↔ (capacity layout (length table) < prefixes_by r w)
    ten_by g =
        let z = ten_refused a in
        let h = ten_exactly l (prefixes_by r w) (length table) tenth g in
        let x = refused_exactly_by r w B order order' table table' costs costs' (lowest l) a call FullTable in
        (λ e. h.0 (x.0 (z.0 (sym code_is ∙ e))), λ lt. code_is ∙ z.1 (x.1 (h.1 lt)))

    -- a refusal gives its number and its place
    pub refusal_by : (x : Refusal) → lowest l ≡ some x → (code ≡ refusal_number x) × (told ≡ refusal_place x ∷ 0 ∷ 0 ∷ 0 ∷ 0 ∷ 0 ∷ [])
    refusal_by x e =
        let q = (refused_exactly_by r w B order order' table table' costs costs' (lowest l) a call x).1 e in
        (code_is ∙ ap closest_code q, told_is ∙ ap closest_told q)

    -- "Verdict 0 remains as it is"
    pub no_order_by : code ≡ 0 → (verdict_in told ≡ 0) ↔ ((v : List ℕ) → WitnessBy r w v → ⊥)
    no_order_by e = subst (λ t. (verdict_in t ≡ 0) ↔ ((v : List ℕ) → WitnessBy r w v → ⊥)) (sym told_is) (no_order_in a call ((zero_none a).0 (sym code_is ∙ e)))

    -- "the answer is an accepted order, its swaps c, and a floor f", and "No accepted order has fewer than f swaps"
    pub order_by : verdict_in told ≡ 1
        → ((x : List ℕ) × (map r.letter x ≡ take (length w) order') × WitnessBy r w x) × (swaps_in told ≡ swaps r.letter w (take (length w) order'))
        × ((u : List ℕ) → WitnessBy r w u → floor_in told ≤ swaps r.letter w (map r.letter u))
    order_by e = subst (λ t. ((x : List ℕ) × (map r.letter x ≡ take (length w) order') × WitnessBy r w x) × (swaps_in t ≡ swaps r.letter w (take (length w) order'))
        × ((u : List ℕ) → WitnessBy r w u → floor_in t ≤ swaps r.letter w (map r.letter u))) (sym told_is)
        (order_in a call (ap verdict_in (sym told_is) ∙ e))

-- ---- the two calls

module _ (p : Profile) (w : List ℕ) (B : ℕ) (order order' table table' costs costs' : List ℕ) (code : ℕ) (told : List ℕ)
    (call : Closing p w B order order' table table' costs costs' code told) where
  abbrev refusals : List (Bool × Refusal)
  refusals = closest_refusals p w (length order) (length table) (length costs)

  tenth_is : full? refusals ≡ full_table (prefixes_by (plain p) w) (length table)
  tenth_is = or_none (full_table (prefixes_by (plain p) w) (length table))

  pub zero_admitted : (code ≡ 0) ↔ AdmittedAndFits (closest_refusals p w (length order) (length table) (length costs)) (prefixes_by (plain p) w) (length table)
  zero_admitted = zero_by (plain p) w B order order' table table' costs costs' refusals tenth_is code told call.answer call.promise call.code_is call.told_is

  pub ten_admitted : Admitted (closest_refusals p w (length order) (length table) (length costs)) → (code ≡ 10) ↔ (capacity layout (length table) < prefixes_by (plain p) w)
  ten_admitted = ten_by (plain p) w B order order' table table' costs costs' refusals tenth_is code told call.answer call.promise call.code_is call.told_is

  pub refusal_told : (x : Refusal) → lowest (closest_refusals p w (length order) (length table) (length costs)) ≡ some x
      → (code ≡ refusal_number x) × (told ≡ refusal_place x ∷ 0 ∷ 0 ∷ 0 ∷ 0 ∷ 0 ∷ [])
  refusal_told = refusal_by (plain p) w B order order' table table' costs costs' refusals tenth_is code told call.answer call.promise call.code_is call.told_is

  pub no_order_told : code ≡ 0 → (verdict_in told ≡ 0) ↔ ((v : List ℕ) → WitnessBy (plain p) w v → ⊥)
  no_order_told = no_order_by (plain p) w B order order' table table' costs costs' refusals tenth_is code told call.answer call.promise call.code_is call.told_is

  pub order_told : verdict_in told ≡ 1
      → ((x : List ℕ) × (map (λ a. a) x ≡ take (length w) order') × WitnessBy (plain p) w x) × (swaps_in told ≡ swaps (λ a. a) w (take (length w) order'))
      × ((u : List ℕ) → WitnessBy (plain p) w u → floor_in told ≤ swaps (λ a. a) w (map (λ a. a) u))
  order_told = order_by (plain p) w B order order' table table' costs costs' refusals tenth_is code told call.answer call.promise call.code_is call.told_is

module _ (p : Profile) (w days terms : List ℕ) (B : ℕ) (order order' table table' costs costs' : List ℕ) (code : ℕ) (told : List ℕ)
    (call : TermClosing p w days terms B order order' table table' costs costs' code told) where
  abbrev dated : List (Bool × Refusal)
  dated = dated_closest_refusals p w days terms (length order) (length table) (length costs)

  dated_tenth : full? dated ≡ full_table (prefixes_by (with_terms p terms) (events w days)) (length table)
  dated_tenth = or_none (full_table (prefixes_by (with_terms p terms) (events w days)) (length table))

  pub terms_zero_admitted : (code ≡ 0)
      ↔ AdmittedAndFits (dated_closest_refusals p w days terms (length order) (length table) (length costs)) (prefixes_by (with_terms p terms) (events w days)) (length table)
  terms_zero_admitted =
      zero_by (with_terms p terms) (events w days) B order order' table table' costs costs' dated dated_tenth code told call.answer call.promise call.code_is call.told_is

  pub terms_ten_admitted : Admitted (dated_closest_refusals p w days terms (length order) (length table) (length costs))
      → (code ≡ 10) ↔ (capacity layout (length table) < prefixes_by (with_terms p terms) (events w days))
  terms_ten_admitted =
      ten_by (with_terms p terms) (events w days) B order order' table table' costs costs' dated dated_tenth code told call.answer call.promise call.code_is call.told_is

  pub terms_no_order_told : code ≡ 0 → (verdict_in told ≡ 0) ↔ ((v : List ℕ) → WitnessBy (with_terms p terms) (events w days) v → ⊥)
  terms_no_order_told =
      no_order_by (with_terms p terms) (events w days) B order order' table table' costs costs' dated dated_tenth code told call.answer call.promise call.code_is call.told_is
