-- The sentences of Paper 10 as theorems about what the call promises: `Promise p w B order order' table table' costs costs' r` is what holds of a call with
-- profile p, log w and budget B that was lent `order`, `table` and `costs`, whatever these held, left `order'`, `table'` and `costs'`, and answered r.
use Rattle.std.specs.Prelude.{Result, Ok, Err}
use mathlib.Core.Path.{◌≡◌, sym, ◌∙◌, ap, subst}
use mathlib.Core.Bool.{not}
use mathlib.Core.Logic.{◌↔◌, ◌≢◌}
use mathlib.Core.List.{List, map-id}
use mathlib.Core.Option.{none, some}
use Prim.Native.Nat.{ℕ, ◌*◌, ◌≤◌, ◌<◌}
use lib.Dec.{T, eqb}
use lib.ListN.{length, take}
use Rattle.profile.specs.Traces.{independent}
use Rattle.profile.specs.Automata.{Profile, automaton}
use Rattle.profile.specs.Orders.{NoLater}
use Rattle.profile.specs.Rules.{plain}
use Rattle.profile.specs.Refusals.{judge_refusal, judge_refusals, refusal_number, refused_by}
use Rattle.profile.specs.declared.Refusal.{Refusal}
use Rattle.profile.specs.declared.Refusal.TheVariants.{FullTable, ShortCosts}
use Rattle.theory.proofs.Demands.{Witness, order_of, prefixes_of}
use Rattle.swaps.specs.Swaps.{swaps}
use Rattle.swaps.specs.Closest.{covers, fewest_swaps}
use Rattle.table.specs.Table.{Spared}
use Rattle.verdict.specs.Verdict as judge
use Rattle.verdict.specs.declared.Judged.{Judged}
use Rattle.verdict.proofs.Promises as told
use Rattle.closestanswer.specs.Answers.{Promise, closest_refusal, verdict_number}
use Rattle.closestanswer.specs.declared.Closest.{Closest}
use Rattle.closestanswer.specs.declared.Closest.TheVariants.{NoOrder, Order}
use Rattle.closestanswer.proofs.Promises.{as_the_judge_by, before_none, covered_told_by, floor_fewest_swaps_by, floor_holds_by, judges_told_by, lowest_passes, no_order_told_by, order_accepted_by, refused_exactly_by, seventeen_exactly, told_looks, told_prefixes}

-- the judge never gives 17
judge_not_short : (p : Profile) (w : List ℕ) (n m : ℕ) → judge_refusal p w n m ≡ some ShortCosts → ⊥
judge_not_short p w n m e = lowest_passes (λ r. not (eqb (refusal_number r) (refusal_number ShortCosts))) (judge_refusals p w n m) tt e

module _ (p : Profile) (w : List ℕ) (B : ℕ) (order order' table table' costs costs' : List ℕ) where
  -- ---- refusals

  -- a call is refused by r exactly when r is the first that applies, 17 behind 10; else there is a verdict
  pub refused_exactly : (a : Result Closest Refusal) → Promise p w B order order' table table' costs costs' a → (r : Refusal)
      → (a ≡ Err r) ↔ (closest_refusal p w (length order) (length table) (length costs) ≡ some r)
  refused_exactly = refused_exactly_by (plain p) w B order order' table table' costs costs' (closest_refusal p w (length order) (length table) (length costs))

  -- 17 is given exactly where the judge refuses nothing and the cost table has fewer than P × s numbers
  pub short_exactly : (r : Result Closest Refusal) → Promise p w B order order' table table' costs costs' r
      → (refused_by r ≡ some ShortCosts) ↔ ((judge_refusal p w (length order) (length table) ≡ none) × (length costs < prefixes_of p w * p.s))
  short_exactly r h =
      let z = seventeen_exactly (judge_refusals p w (length order) (length table)) (prefixes_of p w) p.s (length costs) (judge_not_short p w (length order) (length table)) in
      (λ e. z.0 (sym h.refused ∙ e), λ k. h.refused ∙ z.1 k)

  -- a refused call changes nothing it was lent, save the usable numbers of the work table at 10 and 17
  pub refused_unchanged : (r : Refusal) → Promise p w B order order' table table' costs costs' (Err r)
      → (order' ≡ order) × (costs' ≡ costs) × (r ≢ FullTable → r ≢ ShortCosts → table' ≡ table) × Spared table table'
  refused_unchanged r h = h.tells

  -- ---- the verdict

  -- "Verdict 0 remains as it is": exactly where no reachable log is accepted
  pub no_order_told : (P n : ℕ) → Promise p w B order order' table table' costs costs' (Ok (NoOrder P n)) → (v : List ℕ) → Witness p w v → ⊥
  no_order_told = no_order_told_by (plain p) w B order order' table table' costs costs' (closest_refusal p w (length order) (length table) (length costs))

  -- verdict, P, looks and the work table are those that the judge gives for the same profile, log, order buffer and work table
  pub as_the_judge : (order₁ table₁ : List ℕ) (r : Result Closest Refusal) (j : Result Judged Refusal) → Promise p w B order order' table table' costs costs' r → judge.Promise p w order order₁ table table₁ j
      → refused_by r ≡ none
      → (verdict_number r ≡ judge.verdict_number j) × (told_prefixes r ≡ told.told_prefixes j) × (told_looks r ≡ told.told_looks j) × (table' ≡ table₁)
  as_the_judge order₁ table₁ r j h g e = as_the_judge_by (plain p) w B order order' table table' costs costs' (closest_refusal p w (length order) (length table) (length costs)) order₁ table₁
      (before_none (judge_refusals p w (length order) (length table)) (prefixes_of p w) p.s (length costs) (sym h.refused ∙ e)) r j h g e

  module _ (P n c f : ℕ) (h : Promise p w B order order' table table' costs costs' (Ok (Order P n c f))) where
    -- "the answer is an accepted order, its swaps c": it stands in the first bytes of the buffer
    pub order_accepted : Witness p w (take (length w) order') × (c ≡ swaps (λ a. a) w (take (length w) order'))
    order_accepted =
        let x = order_accepted_by (plain p) w B order order' table table' costs costs' _ P n c f h in
        (subst (Witness p w) (sym (map-id x.0.0) ∙ x.0.1) x.0.2, x.1)

    -- "No accepted order has fewer than f swaps"
    pub floor_holds : (u : List ℕ) → Witness p w u → f ≤ swaps (λ a. a) w u
    floor_holds u x = subst (λ z. f ≤ swaps (λ a. a) w z) (map-id u) (floor_holds_by (plain p) w B order order' table table' costs costs' _ P n c f h u x)

    -- "If B covers all pairs, the order has c = f and is the earliest such in letter order"
    pub covered_told : T (covers (independent p.masks) (λ a. a) (automaton p) p.k p.s w B)
        → (c ≡ f) × ((u : List ℕ) → Witness p w u → swaps (λ a. a) w u ≡ f → NoLater (take (length w) order') u)
    covered_told b =
        let z = covered_told_by (plain p) w B order order' table table' costs costs' _ P n c f h b in
        (z.0, λ u x s. subst (NoLater (take (length w) order')) (map-id u) (z.1 u x (ap (swaps (λ a. a) w) (map-id u) ∙ s)))

    -- "otherwise it is the judge's"
    pub judges_told : T (not (covers (independent p.masks) (λ a. a) (automaton p) p.k p.s w B)) → order_of p w ≡ some (take (length w) order')
    judges_told = judges_told_by (plain p) w B order order' table table' costs costs' _ P n c f h

    -- f, the fewest swaps of any accepted order, c
    pub floor_fewest_swaps : {m : ℕ} → fewest_swaps (independent p.masks) (λ a. a) (automaton p) w ≡ some m → (f ≤ m) × (m ≤ c)
    floor_fewest_swaps = floor_fewest_swaps_by (plain p) w B order order' table table' costs costs' _ P n c f h
