-- Document 02, Paper 8: what is promised of the judge with terms. "What the judge says about all reachable logs is from then on about these exchanges, for logs
-- with terms".
use Rattle.std.specs.Prelude.{Result, List, ℕ, length}
use Rattle.profile.specs.Automata.{Profile}
use Rattle.profile.specs.declared.Refusal.{Refusal}
use Rattle.terms.specs.Terms.{dated_refusal, events, with_terms}
use Rattle.verdict.specs.Verdict.{PromiseBy}
use Rattle.verdict.specs.declared.Judged.{Judged}

-- the whole promise of a call with days and terms that was lent `order` and `table` and left `order'` and `table'`: that of the judge, for the exchanges inside
-- a term. The order is of letters
abbrev pub Promise : Profile → List ℕ → List ℕ → List ℕ → List ℕ → List ℕ → List ℕ → List ℕ → Result Judged Refusal → Type 0
Promise p w days terms order order' table table' r =
    PromiseBy (with_terms p terms) (events w days) order order' table table' (dated_refusal p w days terms (length order) (length table)) r
