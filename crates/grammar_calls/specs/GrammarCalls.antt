-- The judge for grammars as numbers: Paper 13.
use Rattle.std.specs.Prelude.{Result, ◌≡◌, List, ℕ}
use Rattle.profile.specs.declared.Refusal.{Refusal}
use Rattle.verdict.specs.Verdict.{judged_code, judged_told}
use Rattle.verdict.specs.declared.Judged.{Judged}
use Rattle.grammar_judge.specs.GrammarJudge.{Promise}

-- the promise of the call, of an answer given as numbers
pub record Judging (k : ℕ) (masks : List ℕ) (names : ℕ) (rules w order order' table table' sets sets' : List ℕ) (code : ℕ) (told : List ℕ) : Type 0 where
  pub answer : Result Judged Refusal
  pub promise : Promise k masks names rules w order order' table table' sets sets' answer
  pub code_is : code ≡ judged_code answer
  pub told_is : told ≡ judged_told answer
