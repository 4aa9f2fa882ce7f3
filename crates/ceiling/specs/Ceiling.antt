-- Document 02, Paper 11: the answer of a call for a ceiling.
use Rattle.std.specs.Prelude.{Result, Ok, Err, List, [], ◌∷◌, ℕ}
use Rattle.std.proofs.Math.Option.{Option, none, some}
use Rattle.profile.specs.Answers.{answer_code, answer_told}
use Rattle.profile.specs.declared.Refusal.{Refusal}
use Rattle.ceilings.specs.Ceilings.{bound_refusal, ceiling_of}

-- the ceiling, unless it is refused
abbrev pub bounded_as : Option Refusal → ℕ → Result ℕ Refusal
bounded_as none n = Ok n
bounded_as (some r) n = Err r

-- the answer for k letters, the masks, the log w and the groups
abbrev pub bounding : ℕ → List ℕ → List ℕ → List ℕ → Result ℕ Refusal
bounding k masks w groups = bounded_as (bound_refusal k masks w groups) (ceiling_of (λ a. a) groups w)

-- the ceiling of an answer; none where it is refused
abbrev pub told_ceiling : Result ℕ Refusal → Option ℕ
told_ceiling (Ok n) = some n
told_ceiling (Err r) = none

-- the paper's number and values of an answer: the refusal's number and place, and 0; or 0, 0 and the ceiling
abbrev pub bounded_values : Result ℕ Refusal → List ℕ
bounded_values b = answer_code b ∷ answer_told 1 (λ n. n ∷ []) b
