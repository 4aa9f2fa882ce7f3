-- Document 02, Paper 8: the promise of the judge with terms, of an answer given as numbers.
use Rattle.std.specs.Prelude.{Result, ◌≡◌, List, ℕ}
use Rattle.profile.specs.Automata.{Profile}
use Rattle.profile.specs.declared.Refusal.{Refusal}
use Rattle.verdict.specs.declared.Judged.{Judged}
use Rattle.termed.specs.Termed.{Promise}
use Rattle.verdict.specs.Verdict.{judged_code, judged_told}

pub record TermJudging (p : Profile) (w days terms order order' table table' : List ℕ) (code : ℕ) (told : List ℕ) : Type 0 where
  pub answer : Result Judged Refusal
  pub promise : Promise p w days terms order order' table table' answer
  pub code_is : code ≡ judged_code answer
  pub told_is : told ≡ judged_told answer
