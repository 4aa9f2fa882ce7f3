-- Document 01, "A refusal gives its number and a place": an answer as the numbers that a call returns and tells.
use Rattle.std.specs.Prelude.{Result, Ok, Err, List, ◌∷◌, ℕ, replicate}
use Rattle.profile.specs.Refusals.{refusal_number, refusal_place}
use Rattle.profile.specs.declared.Refusal.{Refusal}

-- what is returned: the refusal's number, or 0
abbrev pub answer_code : {A : Type 0} → Result A Refusal → ℕ
answer_code (Ok a) = 0
answer_code (Err r) = refusal_number r

-- what is told: the refusal's place and n zeros, or 0 and the n numbers of the answer
abbrev pub answer_told : {A : Type 0} → ℕ → (A → List ℕ) → Result A Refusal → List ℕ
answer_told n numbers (Ok a) = 0 ∷ numbers a
answer_told n numbers (Err r) = refusal_place r ∷ replicate n 0
