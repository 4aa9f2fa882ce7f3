-- Document 01, "The judge": its answer, and what is promised of the order buffer and the work table.
use Rattle.std.specs.Prelude.{Result, Ok, Err, ◌≡◌, ◌≢◌, List, [], ◌∷◌, ◌++◌, ℕ, length, drop}
use Rattle.std.proofs.Math.Option.{Option, none, some}
use Rattle.profile.specs.Automata.{Profile}
use Rattle.profile.specs.Rules.{Rules, looks_by, order_by, plain, prefixes_by, table_by}
use Rattle.profile.specs.Refusals.{judge_refusal}
pub use Rattle.profile.specs.Refusals.{refused_by}
use Rattle.profile.specs.Answers.{answer_code, answer_told}
use Rattle.profile.specs.declared.Refusal.{Refusal}
use Rattle.profile.specs.declared.Refusal.TheVariants.{FullTable}
use Rattle.table.specs.Table.{Spared}
use Rattle.verdict.specs.declared.Judged.{Judged}
use Rattle.verdict.specs.declared.Judged.TheVariants.{NoOrder, Order}

-- "verdict": 1 comes with the order, 0 means 'no order'; a refusal has none
abbrev pub verdict_number : Result Judged Refusal → Option ℕ
verdict_number (Err r) = none
verdict_number (Ok (NoOrder P n)) = some 0
verdict_number (Ok (Order P n)) = some 1

-- the numbers of an answer: the refusal's number, or 0; place, verdict, P, looks
abbrev pub judged_code : Result Judged Refusal → ℕ
judged_code = answer_code

abbrev pub judged_numbers : Judged → List ℕ
judged_numbers (NoOrder P n) = 0 ∷ P ∷ n ∷ []
judged_numbers (Order P n) = 1 ∷ P ∷ n ∷ []

abbrev pub judged_told : Result Judged Refusal → List ℕ
judged_told = answer_told 3 judged_numbers

-- "P", "looks", and what is promised of the table, which was `before`
pub record Counted (p : Rules) (w before after : List ℕ) (P n : ℕ) : Type 0 where
  pub prefixes : P ≡ prefixes_by p w
  pub looks : n ≡ looks_by p w
  pub table : after ≡ table_by p w before

-- "Verdict 1 comes with the order in the first bytes of the order buffer …; its other bytes stay. Verdict 0 means 'no order' and leaves that buffer
-- unchanged." "Refusals leave every buffer unchanged; only after 10 is the work table's content free", that of its usable numbers
abbrev pub judged : Rules → List ℕ → List ℕ → List ℕ → List ℕ → List ℕ → Result Judged Refusal → Type 0
judged p w order order' table table' (Err r) = (order' ≡ order) × (r ≢ FullTable → table' ≡ table) × Spared table table'
judged p w order order' table table' (Ok (NoOrder P n)) =
    (order_by p w ≡ none) × (order' ≡ order) × Counted p w table table' P n
judged p w order order' table table' (Ok (Order P n)) =
    (v : List ℕ) × (order_by p w ≡ some v) × (order' ≡ v ++ drop (length w) order) × Counted p w table table' P n

-- the whole promise of a call for the rules p and the events w that was lent `order` and `table` and left `order'` and `table'`; q is the refusal that its
-- input and its buffers call for, if any
pub record PromiseBy (p : Rules) (w order order' table table' : List ℕ) (q : Option Refusal) (r : Result Judged Refusal) : Type 0 where
  pub refused : refused_by r ≡ q
  pub told : judged p w order order' table table' r

-- that of the judge
abbrev pub Promise : Profile → List ℕ → List ℕ → List ℕ → List ℕ → List ℕ → Result Judged Refusal → Type 0
Promise p w order order' table table' r = PromiseBy (plain p) w order order' table table' (judge_refusal p w (length order) (length table)) r
