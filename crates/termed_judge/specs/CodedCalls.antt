-- The judge of events that are codes: what it asks, and what it answers where nothing but 10 can refuse.
use Rattle.std.specs.Prelude.{Result, ◌≡◌, true, List, [], ◌∷◌, map, ℕ, T, ltb, length}
use Rattle.profile.specs.Automata.{Profile}
use Rattle.profile.specs.Lists.{all}
use Rattle.profile.specs.Rules.{Rules, prefixes_by}
use Rattle.profile.specs.Refusals.{full_table, lowest}
use Rattle.profile.specs.declared.Refusal.{Refusal}
use Rattle.profile.specs.declared.Refusal.TheVariants.{FullTable}
use Rattle.theory.proofs.Refusals.{GoodEvents, GoodProfile}
use Rattle.terms.specs.Coded.{code_letter, code_term, rules_of}
use Rattle.turns.specs.Turns.{past_terms}
use Rattle.verdict.specs.Verdict.{PromiseBy}
use Rattle.verdict.specs.declared.Judged.{Judged}

-- a good profile, good codes, and a log of their letters
pub record CodedCall (p : Profile) (log codes : List ℕ) : Type 0 where
  pub profile : GoodProfile p
  pub events : GoodEvents (rules_of p true) codes
  pub letters : log ≡ map code_letter codes
  pub terms : T (all (λ e. ltb (code_term e) past_terms) codes)

-- the answer for rules and events: refused by 10 or not at all
abbrev pub Answered : Rules → List ℕ → List ℕ → List ℕ → List ℕ → List ℕ → Result Judged Refusal → Type 0
Answered p w order order' table table' r = PromiseBy p w order order' table table' (lowest ((full_table (prefixes_by p w) (length table), FullTable) ∷ [])) r
