-- The promises of calls whose answers are given as numbers: the refusal's number, or 0, and what each call tells. The numbers of an answer are defined beside the
-- answer.
use Rattle.std.specs.Prelude.{Result, ◌≡◌, cond, ◌≢◌, List, [], ◌∷◌, ℕ, eqb, length}
use Rattle.profile.specs.Automata.{Profile}
use Rattle.profile.specs.Refusals.{refusal_number}
use Rattle.profile.specs.Tables.{layout}
use Rattle.profile.specs.declared.Refusal.{Refusal}
use Rattle.profile.specs.declared.Refusal.TheVariants.{OutOfRange}
use Rattle.table.specs.Table as table
pub use Rattle.table.specs.Table.{built_code, built_told}
use Rattle.table.specs.declared.Filled.{Filled}
use Rattle.search.specs.Search as search
pub use Rattle.search.specs.Search.{found_told}
use Rattle.verdict.specs.Verdict as verdict
pub use Rattle.verdict.specs.Verdict.{judged_code, judged_told}
use Rattle.verdict.specs.declared.Judged.{Judged}
pub use Rattle.comparison.specs.Comparison.{compared_code, compared_told}
pub use Rattle.order.specs.Order.{ordered_code, ordered_told}
pub use Rattle.logfile.specs.Files.{located_code, located_told, reading_code, reading_told}
pub use Rattle.filewriter.specs.Written.{writing_code, writing_told}
pub use Rattle.logreader.specs.Events.{event_number}
pub use Rattle.expression.specs.Making.{made_code, made_told}

-- the judge's promise, of an answer given as numbers
pub record Judging (p : Profile) (w order order' table table' : List ℕ) (code : ℕ) (told : List ℕ) : Type 0 where
  pub answer : Result Judged Refusal
  pub promise : verdict.Promise p w order order' table table' answer
  pub code_is : code ≡ judged_code answer
  pub told_is : told ≡ judged_told answer

-- the table's promise, of an answer given as numbers
pub record Building (p : Profile) (w before after : List ℕ) (code : ℕ) (told : List ℕ) : Type 0 where
  pub answer : Result Filled Refusal
  pub promise : table.Promise p w before after answer
  pub code_is : code ≡ built_code answer
  pub told_is : told ≡ built_told answer

-- the search's promise, of an answer given as numbers: counts in another number of numbers than a record has are refused by 2; what is told of records
-- in another order than Paper 5's is free
pub record Finding (t c : List ℕ) (code : ℕ) (told : List ℕ) : Type 0 where
  pub code_is : code ≡ cond (eqb (length c) layout.numbers) 0 (refusal_number OutOfRange)
  pub refused : length c ≢ layout.numbers → told ≡ 0 ∷ 0 ∷ []
  pub found : length c ≡ layout.numbers → (f : Result ℕ ℕ) × (told ≡ found_told f) × (search.Ordered t → f ≡ search.found_in t c)
