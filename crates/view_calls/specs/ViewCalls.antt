-- A teacher's view as numbers: Paper 12. It is told as the judge: the refusal's number, or 0; place, verdict, P, looks.
use Rattle.std.specs.Prelude.{Result, ◌≡◌, List, ℕ}
use Rattle.profile.specs.Automata.{Profile}
use Rattle.profile.specs.declared.Refusal.{Refusal}
use Rattle.verdict.specs.Verdict.{judged_code, judged_told}
use Rattle.verdict.specs.declared.Judged.{Judged}
use Rattle.view.specs.Viewing.{Viewed}

-- the view's promise, of an answer given as numbers
pub record Viewing (p : Profile) (visible : ℕ) (w order order' table table' : List ℕ) (code : ℕ) (told : List ℕ) : Type 0 where
  pub answer : Result Judged Refusal
  pub promise : Viewed p visible w order order' table table' answer
  pub code_is : code ≡ judged_code answer
  pub told_is : told ≡ judged_told answer
