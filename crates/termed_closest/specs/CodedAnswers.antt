-- The closest order of events that are codes: what is answered where nothing but 10 and 17 can refuse.
use Rattle.std.specs.Prelude.{Result, List, [], ◌∷◌, ◌++◌, ℕ, length}
use Rattle.profile.specs.Rules.{Rules, prefixes_by}
use Rattle.profile.specs.Refusals.{full_table, lowest}
use Rattle.profile.specs.declared.Refusal.TheVariants.{FullTable, ShortCosts}
use Rattle.closestanswer.specs.Answers.{PromiseBy, short_costs}
use Rattle.profile.specs.declared.Refusal.{Refusal}
use Rattle.closestanswer.specs.declared.Closest.{Closest}

abbrev pub Answered : Rules → List ℕ → ℕ → (order order' table table' costs costs' : List ℕ) → Result Closest Refusal → Type 0
Answered p w B order order' table table' costs costs' r =
    PromiseBy p w B order order' table table' costs costs'
    (lowest (((full_table (prefixes_by p w) (length table), FullTable) ∷ []) ++ ((short_costs (prefixes_by p w) p.profile.s (length costs), ShortCosts) ∷ []))) r
