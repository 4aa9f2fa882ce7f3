-- Document 02, Paper 10, for a log with terms (Paper 8): the refusals of the call, and what it promises.
use Rattle.std.specs.Prelude.{Result, Bool, List, [], ◌∷◌, ◌++◌, ℕ, length}
use Rattle.std.proofs.Math.Option.{Option}
use Rattle.profile.specs.Automata.{Profile}
use Rattle.profile.specs.Rules.{prefixes_by}
use Rattle.profile.specs.Refusals.{lowest}
use Rattle.profile.specs.declared.Refusal.{Refusal}
use Rattle.profile.specs.declared.Refusal.TheVariants.{ShortCosts}
use Rattle.terms.specs.Terms.{dated_refusals, events, with_terms}
use Rattle.closestanswer.specs.Answers.{PromiseBy, short_costs}
use Rattle.closestanswer.specs.declared.Closest.{Closest}

-- the refusals of the judge with terms, then 17, "after 10": n places for the order, m numbers of work table, l of cost table
abbrev pub dated_closest_refusals : Profile → (w days terms : List ℕ) → ℕ → ℕ → ℕ → List (Bool × Refusal)
dated_closest_refusals p w days terms n m l =
    dated_refusals p w days terms n m ++ ((short_costs (prefixes_by (with_terms p terms) (events w days)) p.s l, ShortCosts) ∷ [])

abbrev pub dated_closest_refusal : Profile → (w days terms : List ℕ) → ℕ → ℕ → ℕ → Option Refusal
dated_closest_refusal p w days terms n m l = lowest (dated_closest_refusals p w days terms n m l)

-- the whole promise of a call with days and terms and a budget of B pairs, that was lent `order`, `table` and `costs` and left `order'`, `table'` and
-- `costs'`: that of the call without terms, for the exchanges inside a term. The order is of letters
abbrev pub Promise : Profile → (w days terms : List ℕ) → ℕ → (order order' table table' costs costs' : List ℕ) → Result Closest Refusal → Type 0
Promise p w days terms B order order' table table' costs costs' r =
    PromiseBy (with_terms p terms) (events w days) B order order' table table' costs costs' (dated_closest_refusal p w days terms (length order) (length table) (length costs)) r
