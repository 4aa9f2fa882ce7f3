-- Document 02, Paper 13: the judge for grammars, its refusals, its answer, and what is promised of the buffers.
use Rattle.std.specs.Prelude.{Result, Ok, Err, ◌≡◌, Bool, true, false, ◌≢◌, List, [], ◌∷◌, ◌++◌, ℕ, ◌*◌, ltb, length, drop}
use Rattle.std.proofs.Math.Option.{Option}
use Rattle.profile.specs.Traces.{independent}
use Rattle.profile.specs.Refusals.{full_table, log_refusals, lowest, relation_refusals, short_buffer}
use Rattle.profile.specs.declared.Refusal.{Refusal}
use Rattle.profile.specs.declared.Refusal.TheVariants.{BadRule, FullTable, ShortBuffer, ShortSets}
use Rattle.table.specs.Table.{Spared}
use Rattle.verdict.specs.declared.Judged.{Judged}
use Rattle.verdict.specs.declared.Judged.TheVariants.{NoOrder, Order}
use Rattle.profile.specs.Refusals.{refused_by}
use Rattle.grammars.specs.Grammars.{Derivable, bad_rules, grammar_of}
use Rattle.bare.specs.Bare.{Counted, prefixes_of}

-- 22: "when the second table has fewer than P × P entries"
abbrev pub short_sets : ℕ → ℕ → Bool
short_sets P n = ltb n (P * P)

-- the refusals save 10 and 22, with n places for the order: "21 … in the place of 6"
abbrev pub admission : ℕ → List ℕ → ℕ → List ℕ → List ℕ → ℕ → List (Bool × Refusal)
admission k masks names rules w n =
    relation_refusals k masks ++ ((bad_rules k names rules, BadRule) ∷ (log_refusals k w ++ ((short_buffer n w, ShortBuffer) ∷ [])))

-- all, with m numbers of table and z sets: "22 …, after 10"
abbrev pub grammar_refusals : ℕ → List ℕ → ℕ → List ℕ → List ℕ → ℕ → ℕ → ℕ → List (Bool × Refusal)
grammar_refusals k masks names rules w n m z =
    admission k masks names rules w n ++ ((full_table (prefixes_of k masks w) m, FullTable) ∷ (short_sets (prefixes_of k masks w) z, ShortSets) ∷ [])

abbrev pub grammar_refusal : ℕ → List ℕ → ℕ → List ℕ → List ℕ → ℕ → ℕ → ℕ → Option Refusal
grammar_refusal k masks names rules w n m z = lowest (grammar_refusals k masks names rules w n m z)

-- "The verdict is 1 exactly when some reachable log can be derived from name 0, and such a log is returned, which one being free." A refusal leaves every
-- buffer, save the usable numbers of the work table after 10 and 22; the second table's content after a verdict is free.
abbrev pub judged : ℕ → List ℕ → List ℕ → List ℕ → List ℕ → List ℕ → List ℕ → List ℕ → List ℕ → List ℕ → Result Judged Refusal → Type 0
judged k masks rules w order order' table table' sets sets' (Err r) =
    (order' ≡ order) × (sets' ≡ sets) × (r ≢ FullTable → r ≢ ShortSets → table' ≡ table) × Spared table table'
judged k masks rules w order order' table table' sets sets' (Ok (NoOrder P n)) =
    ((v : List ℕ) → Derivable (grammar_of rules) (independent masks) w v → ⊥) × (order' ≡ order) × Counted k masks w table table' P n
judged k masks rules w order order' table table' sets sets' (Ok (Order P n)) =
    (v : List ℕ) × Derivable (grammar_of rules) (independent masks) w v × (order' ≡ v ++ drop (length w) order) × Counted k masks w table table' P n

-- the whole promise of a call
pub record Promise (k : ℕ) (masks : List ℕ) (names : ℕ) (rules w order order' table table' sets sets' : List ℕ) (r : Result Judged Refusal) : Type 0 where
  pub refused : refused_by r ≡ grammar_refusal k masks names rules w (length order) (length table) (length sets)
  pub told : judged k masks rules w order order' table table' sets sets' r

-- an order is written, or there is none
abbrev pub VerdictIs : List ℕ → List ℕ → List ℕ → List ℕ → List ℕ → Bool → Type 0
VerdictIs masks rules w order order' true = (v : List ℕ) × Derivable (grammar_of rules) (independent masks) w v × (order' ≡ v ++ drop (length w) order)
VerdictIs masks rules w order order' false = ((v : List ℕ) → Derivable (grammar_of rules) (independent masks) w v → ⊥) × (order' ≡ order)
