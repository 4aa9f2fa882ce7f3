-- The sentences of Paper 10 for a log with terms, as theorems about what the call promises: `Promise p w days terms B order order' table table' costs costs' r`
-- is what holds of a call with profile p, log w, one of the days for each event, terms and budget B that was lent `order`, `table` and `costs`, whatever these
-- held, left `order'`, `table'` and `costs'`, and answered r. A log with terms is its events, each with its day; exchanges are inside a term.
use Rattle.std.specs.Prelude.{Result, Ok, Err}
use mathlib.Core.Path.{◌≡◌, sym, ◌∙◌, subst}
use mathlib.Core.Bool.{not}
use mathlib.Core.Logic.{◌↔◌, ◌≢◌}
use mathlib.Core.List.{List, map}
use mathlib.Core.Option.{none, some}
use Prim.Native.Nat.{ℕ, ◌*◌, ◌≤◌, ◌<◌}
use lib.Dec.{T, eqb}
use lib.ListN.{length, take}
use Rattle.profile.specs.Automata.{Profile, automaton}
use Rattle.profile.specs.Orders.{NoLater}
use Rattle.profile.specs.Rules.{order_by, prefixes_by}
use Rattle.profile.specs.Refusals.{refusal_number, refused_by}
use Rattle.profile.specs.declared.Refusal.{Refusal}
use Rattle.profile.specs.declared.Refusal.TheVariants.{FullTable, ShortCosts}
use Rattle.theory.proofs.Calls.{WitnessBy}
use Rattle.terms.specs.Terms.{dated_refusal, dated_refusals, events, letter_of, may_in, with_terms}
use Rattle.terms.proofs.Logs.{events_length}
use Rattle.swaps.specs.Swaps.{swaps}
use Rattle.swaps.specs.Closest.{covers, fewest_swaps}
use Rattle.table.specs.Table.{Spared}
use Rattle.verdict.specs.Verdict as judge
use Rattle.verdict.specs.declared.Judged.{Judged}
use Rattle.verdict.proofs.Promises as told
use Rattle.termed.specs.Termed as termed
use Rattle.closestanswer.specs.Answers.{verdict_number}
use Rattle.closestanswer.specs.declared.Closest.{Closest}
use Rattle.closestanswer.specs.declared.Closest.TheVariants.{NoOrder, Order}
use Rattle.closestanswer.proofs.Promises.{as_the_judge_by, before_none, covered_told_by, floor_fewest_swaps_by, floor_holds_by, judges_told_by, lowest_passes, no_order_told_by, order_accepted_by, refused_exactly_by, seventeen_exactly, told_looks, told_prefixes}
use Rattle.closestterms.specs.Dated.{Promise, dated_closest_refusal}

-- the judge with terms never gives 17
judge_not_short : (p : Profile) (w days terms : List ℕ) (n m : ℕ) → dated_refusal p w days terms n m ≡ some ShortCosts → ⊥
judge_not_short p w days terms n m e = lowest_passes (λ r. not (eqb (refusal_number r) (refusal_number ShortCosts))) (dated_refusals p w days terms n m) tt e

module _ (p : Profile) (w days terms : List ℕ) (B : ℕ) (order order' table table' costs costs' : List ℕ) where
  -- ---- refusals

  -- a call is refused by r exactly when r is the first that applies, 17 behind 10; else there is a verdict
  pub refused_exactly : (a : Result Closest Refusal) → Promise p w days terms B order order' table table' costs costs' a → (r : Refusal)
      → (a ≡ Err r) ↔ (dated_closest_refusal p w days terms (length order) (length table) (length costs) ≡ some r)
  refused_exactly = refused_exactly_by (with_terms p terms) (events w days) B order order' table table' costs costs' (dated_closest_refusal p w days terms (length order) (length table) (length costs))

  -- 17 is given exactly where the judge with terms refuses nothing and the cost table has fewer than P × s numbers
  pub short_exactly : (r : Result Closest Refusal) → Promise p w days terms B order order' table table' costs costs' r
      → (refused_by r ≡ some ShortCosts)
      ↔ ((dated_refusal p w days terms (length order) (length table) ≡ none) × (length costs < prefixes_by (with_terms p terms) (events w days) * p.s))
  short_exactly r h =
      let z = seventeen_exactly (dated_refusals p w days terms (length order) (length table)) (prefixes_by (with_terms p terms) (events w days)) p.s (length costs)
      (judge_not_short p w days terms (length order) (length table)) in
      (λ e. z.0 (sym h.refused ∙ e), λ k. h.refused ∙ z.1 k)

  -- a refused call changes nothing it was lent, save the usable numbers of the work table at 10 and 17
  pub refused_unchanged : (r : Refusal) → Promise p w days terms B order order' table table' costs costs' (Err r)
      → (order' ≡ order) × (costs' ≡ costs) × (r ≢ FullTable → r ≢ ShortCosts → table' ≡ table) × Spared table table'
  refused_unchanged r h = h.tells

  -- ---- the verdict

  -- "Verdict 0 remains as it is": exactly where no reachable log is accepted
  pub no_order_told : (P n : ℕ) → Promise p w days terms B order order' table table' costs costs' (Ok (NoOrder P n))
      → (v : List ℕ) → WitnessBy (with_terms p terms) (events w days) v → ⊥
  no_order_told = no_order_told_by (with_terms p terms) (events w days) B order order' table table' costs costs' (dated_closest_refusal p w days terms (length order) (length table) (length costs))

  -- verdict, P, looks and the work table are those that the judge with terms gives for the same profile, log, days, terms, order buffer and work table
  pub as_the_judge : (order₁ table₁ : List ℕ) (r : Result Closest Refusal) (j : Result Judged Refusal) → Promise p w days terms B order order' table table' costs costs' r
      → termed.Promise p w days terms order order₁ table table₁ j → refused_by r ≡ none
      → (verdict_number r ≡ judge.verdict_number j) × (told_prefixes r ≡ told.told_prefixes j) × (told_looks r ≡ told.told_looks j) × (table' ≡ table₁)
  as_the_judge order₁ table₁ r j h g e = as_the_judge_by (with_terms p terms) (events w days) B order order' table table' costs costs'
      (dated_closest_refusal p w days terms (length order) (length table) (length costs)) order₁ table₁
      (before_none (dated_refusals p w days terms (length order) (length table)) (prefixes_by (with_terms p terms) (events w days)) p.s (length costs) (sym h.refused ∙ e)) r j h g e

  module _ (P n c f : ℕ) (h : Promise p w days terms B order order' table table' costs costs' (Ok (Order P n c f))) where
    -- "the answer is an accepted order, its swaps c": in the first bytes of the buffer stand the letters of such events
    pub order_accepted : ((x : List ℕ) × (map letter_of x ≡ take (length w) order') × WitnessBy (with_terms p terms) (events w days) x)
        × (c ≡ swaps letter_of (events w days) (take (length w) order'))
    order_accepted = subst (λ m.
        ((x : List ℕ) × (map letter_of x ≡ take m order') × WitnessBy (with_terms p terms) (events w days) x) × (c ≡ swaps letter_of (events w days) (take m order')))
        (events_length w days) (order_accepted_by (with_terms p terms) (events w days) B order order' table table' costs costs' _ P n c f h)

    -- "No accepted order has fewer than f swaps"
    pub floor_holds : (u : List ℕ) → WitnessBy (with_terms p terms) (events w days) u → f ≤ swaps letter_of (events w days) (map letter_of u)
    floor_holds = floor_holds_by (with_terms p terms) (events w days) B order order' table table' costs costs' _ P n c f h

    -- "If B covers all pairs, the order has c = f and is the earliest such in letter order"
    pub covered_told : T (covers (may_in p.masks terms) letter_of (automaton p) p.k p.s (events w days) B)
        → (c ≡ f) × ((u : List ℕ) → WitnessBy (with_terms p terms) (events w days) u → swaps letter_of (events w days) (map letter_of u) ≡ f → NoLater (take (length w) order') (map letter_of u))
    covered_told b = subst (λ m.
        (c ≡ f) × ((u : List ℕ) → WitnessBy (with_terms p terms) (events w days) u → swaps letter_of (events w days) (map letter_of u) ≡ f → NoLater (take m order') (map letter_of u)))
        (events_length w days) (covered_told_by (with_terms p terms) (events w days) B order order' table table' costs costs' _ P n c f h b)

    -- "otherwise it is the judge's"
    pub judges_told : T (not (covers (may_in p.masks terms) letter_of (automaton p) p.k p.s (events w days) B))
        → order_by (with_terms p terms) (events w days) ≡ some (take (length w) order')
    judges_told b = subst (λ m. order_by (with_terms p terms) (events w days) ≡ some (take m order')) (events_length w days)
        (judges_told_by (with_terms p terms) (events w days) B order order' table table' costs costs' _ P n c f h b)

    -- f, the fewest swaps of any accepted order, c
    pub floor_fewest_swaps : {m : ℕ} → fewest_swaps (may_in p.masks terms) letter_of (automaton p) (events w days) ≡ some m → (f ≤ m) × (m ≤ c)
    floor_fewest_swaps = floor_fewest_swaps_by (with_terms p terms) (events w days) B order order' table table' costs costs' _ P n c f h
