-- The calls for the closest order as numbers: Paper 10.
use Rattle.std.specs.Prelude.{Result, ◌≡◌, List, [], ◌∷◌, ℕ}
use Rattle.profile.specs.Automata.{Profile}
use Rattle.profile.specs.Answers.{answer_code, answer_told}
use Rattle.profile.specs.declared.Refusal.{Refusal}
use Rattle.closestanswer.specs.Answers.{Promise}
use Rattle.closestanswer.specs.declared.Closest.{Closest}
use Rattle.closestanswer.specs.declared.Closest.TheVariants.{NoOrder, Order}
use Rattle.closestterms.specs.Dated as dated

-- the refusal's number, or 0; place, verdict, P, looks, swaps, floor. With verdict 0 there are no swaps and no floor, and 0 is told in their places
abbrev pub closest_code : Result Closest Refusal → ℕ
closest_code = answer_code

abbrev pub closest_numbers : Closest → List ℕ
closest_numbers (NoOrder P n) = 0 ∷ P ∷ n ∷ 0 ∷ 0 ∷ []
closest_numbers (Order P n c f) = 1 ∷ P ∷ n ∷ c ∷ f ∷ []

abbrev pub closest_told : Result Closest Refusal → List ℕ
closest_told = answer_told 5 closest_numbers

-- the promise of the call, of an answer given as numbers
pub record Closing (p : Profile) (w : List ℕ) (B : ℕ) (order order' table table' costs costs' : List ℕ) (code : ℕ) (told : List ℕ) : Type 0 where
  pub answer : Result Closest Refusal
  pub promise : Promise p w B order order' table table' costs costs' answer
  pub code_is : code ≡ closest_code answer
  pub told_is : told ≡ closest_told answer

-- the same of the call with terms
pub record TermClosing (p : Profile) (w days terms : List ℕ) (B : ℕ) (order order' table table' costs costs' : List ℕ) (code : ℕ) (told : List ℕ) : Type 0 where
  pub answer : Result Closest Refusal
  pub promise : dated.Promise p w days terms B order order' table table' costs costs' answer
  pub code_is : code ≡ closest_code answer
  pub told_is : told ≡ closest_told answer
