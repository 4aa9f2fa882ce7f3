-- What `fumarehi_judge`, `fumarehi_judge_terms`, `fumarehi_view` and `fumarehi_grammar` tell, place, verdict, P and looks; and, for the calls of document 02, "the log
-- is admitted and its prefixes fit the table", with n places for the order and a table of m numbers.
use Rattle.std.specs.Prelude.{List, ℕ, get_or}
use Rattle.profile.specs.Automata.{Profile}
use Rattle.profile.specs.Rules.{prefixes_by}
use Rattle.terms.specs.Terms.{dated_refusals, events, with_terms}
use Rattle.views.specs.Views.{view_prefixes, view_refusals}
use Rattle.bare.specs.Bare.{prefixes_of}
use Rattle.grammar_judge.specs.GrammarJudge.{grammar_refusals}
use Rattle.demands.specs.Admitted.{AdmittedAndFits}

abbrev pub verdict_in : List ℕ → ℕ
verdict_in told = get_or told 1 0

abbrev pub prefixes_in : List ℕ → ℕ
prefixes_in told = get_or told 2 0

abbrev pub looks_in : List ℕ → ℕ
looks_in told = get_or told 3 0

-- Paper 8: with one of the days for each event, and terms
abbrev pub TermsJudgeable : Profile → List ℕ → List ℕ → List ℕ → ℕ → ℕ → Type 0
TermsJudgeable p w days terms n m = AdmittedAndFits (dated_refusals p w days terms n m) (prefixes_by (with_terms p terms) (events w days)) m

-- Paper 12: "P and looks belong to the visible part"
abbrev pub Viewable : Profile → ℕ → List ℕ → ℕ → ℕ → Type 0
Viewable p visible w n m = AdmittedAndFits (view_refusals p visible w n m) (view_prefixes p visible w) m

-- Paper 13, with a second table of z sets: 22 is a refusal "added by a later paper", so that where it applies the log is not admitted
abbrev pub GrammarJudgeable : ℕ → List ℕ → ℕ → List ℕ → List ℕ → ℕ → ℕ → ℕ → Type 0
GrammarJudgeable k masks names rules w n m z = AdmittedAndFits (grammar_refusals k masks names rules w n m z) (prefixes_of k masks w) m

-- Paper 10: `fumarehi_closest` and `fumarehi_closest_terms` tell the swaps and the floor behind these
abbrev pub swaps_in : List ℕ → ℕ
swaps_in told = get_or told 4 0

abbrev pub floor_in : List ℕ → ℕ
floor_in told = get_or told 5 0
