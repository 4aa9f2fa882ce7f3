-- The calls of a running judge as numbers: Paper 7. The record crosses as two numbers, P and the number of events taken.
use Rattle.std.specs.Prelude.{◌≡◌, Result, Ok, Err, List, ℕ}
use Rattle.profile.specs.Automata.{Profile}
use Rattle.profile.specs.declared.Refusal.{Refusal}
pub use Rattle.running.specs.Running.{held_numbers, held_of}
use Rattle.running.specs.Running.{QuestionPromise, StartPromise, StepPromise, question_code, question_told, started_code, started_told, step_code, step_told}
use Rattle.running.specs.declared.Running.{Running}
use Rattle.running.specs.declared.Told.{Told}

-- the record after a start, which stays where it is refused
abbrev pub started_held : List ℕ → Result Running Refusal → List ℕ
started_held l (Err x) = l
started_held l (Ok r) = held_numbers r

-- the promise of a start, of an answer given as numbers: l is the record at entry, l' at exit
pub record Starting (p : Profile) (l l' t t' : List ℕ) (code : ℕ) (told : List ℕ) : Type 0 where
  pub answer : Result Running Refusal
  pub promise : StartPromise p t t' answer
  pub code_is : code ≡ started_code answer
  pub told_is : told ≡ started_told answer
  pub held_is : l' ≡ started_held l answer

-- that of an event
pub record Stepping (p : Profile) (a : ℕ) (l l' t t' : List ℕ) (code : ℕ) (told : List ℕ) : Type 0 where
  pub answer : Result Unit Refusal
  pub left : Running
  pub promise : StepPromise p a (held_of l) left t t' answer
  pub code_is : code ≡ step_code answer
  pub told_is : told ≡ step_told answer
  pub held_is : l' ≡ held_numbers left

-- that of a question
pub record Asking (p : Profile) (l t : List ℕ) (code : ℕ) (told : List ℕ) : Type 0 where
  pub answer : Result Told Refusal
  pub promise : QuestionPromise p (held_of l) t answer
  pub code_is : code ≡ question_code answer
  pub told_is : told ≡ question_told answer
