-- Document 01, "Prefixes and their table": which refusal building gives, and what it promises of the table.
use Rattle.std.specs.Prelude.{Result, Ok, Err, ◌≡◌, Bool, ◌≢◌, List, [], ◌∷◌, ◌++◌, ℕ, ◌*◌, ◌≤◌, ◌<◌, drop, length}
use Rattle.profile.specs.Automata.{Profile}
use Rattle.profile.specs.Tables.{capacity, layout, record_length}
use Rattle.profile.specs.Rules.{Rules, looks_by, plain, prefixes_by, table_by}
use Rattle.profile.specs.Refusals.{full_table, log_refusals, lowest, profile_refusals, refused_by}
use Rattle.profile.specs.Answers.{answer_code, answer_told}
use Rattle.theory.proofs.Refusals.{GoodEvents, GoodProfile}
use Rattle.profile.specs.declared.Refusal.{Refusal}
use Rattle.profile.specs.declared.Refusal.TheVariants.{FullTable}
use Rattle.table.specs.declared.Filled.{Filled}

-- the refusals of building in a table of m numbers, by rising number
abbrev pub build_refusals : Profile → List ℕ → ℕ → List (Bool × Refusal)
build_refusals p w m =
    profile_refusals p ++ (log_refusals p.k w ++ ((full_table (prefixes_by (plain p) w) m, FullTable) ∷ []))

-- good rules and events, and a table of m numbers that has place for `room` records
pub record Sound (p : Rules) (w : List ℕ) (m room : ℕ) : Type 0 where
  pub profile : GoodProfile p.profile
  pub log : GoodEvents p w
  pub place : room ≡ capacity layout m

-- the numbers of an answer: the refusal's number, or 0; place, P, looks
abbrev pub built_code : Result Filled Refusal → ℕ
built_code = answer_code

abbrev pub built_told : Result Filled Refusal → List ℕ
built_told = answer_told 2 (λ t. t.prefixes ∷ t.looks ∷ [])

-- the numbers of a table of m that have place for records, and those of the table t that have not: "a rest below" ten, "and all numbers past the first
-- 4,294,967,292, are unused"
abbrev pub usable : ℕ → ℕ
usable m = record_length layout * capacity layout m

abbrev pub unused : List ℕ → List ℕ
unused t = drop (usable (length t)) t

-- "are unused": these numbers stay
pub record Spared (before after : List ℕ) : Type 0 where
  pub long : length after ≡ length before
  pub rest : unused after ≡ unused before

-- what is promised of the table: "Refusals leave every buffer unchanged; only after 10 is the work table's content free", that of its usable numbers; after
-- an answer the table holds the prefixes, P is their number, and looks that of their additions
abbrev pub promised : Rules → List ℕ → List ℕ → List ℕ → Result Filled Refusal → Type 0
promised p w before after (Err r) = (r ≢ FullTable → after ≡ before) × Spared before after
promised p w before after (Ok t) =
    (t.prefixes ≡ prefixes_by p w) × (t.looks ≡ looks_by p w) × (after ≡ table_by p w before) × Spared before after

-- the answer of filling a table that was `before`: refused by 10 exactly when the records do not fit, and what is promised of the table
abbrev pub fills : Rules → List ℕ → List ℕ → Result Filled Refusal → Type 0
fills p w before (Err r) = (r ≡ FullTable) × (capacity layout (length before) < prefixes_by p w)
fills p w before (Ok t) = prefixes_by p w ≤ capacity layout (length before)

pub record Fills (p : Rules) (w before after : List ℕ) (r : Result Filled Refusal) : Type 0 where
  pub answer : fills p w before r
  pub table : promised p w before after r

-- which refusal is given, and what is promised of the table, after an answer r
pub record Promise (p : Profile) (w before after : List ℕ) (r : Result Filled Refusal) : Type 0 where
  pub refused : refused_by r ≡ lowest (build_refusals p w (length before))
  pub table : promised (plain p) w before after r
