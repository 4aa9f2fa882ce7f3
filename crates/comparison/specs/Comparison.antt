-- Document 01, "Comparison": the answers.
use Rattle.std.specs.Prelude.{Result, Ok, Err, Bool, true, false, ◌||◌, List, [], ◌∷◌, ℕ}
use Rattle.std.proofs.Math.Option.{Option, none, some}
use Rattle.profile.specs.declared.Refusal.{Refusal}
use Rattle.profile.specs.Lists.{equal?}
use Rattle.profile.specs.Orders.{mutual?, project, same?}
use Rattle.profile.specs.Refusals.{refusal_number, refusal_place, same_refusal}
use Rattle.profile.specs.Traces.{independent}
use Rattle.comparison.specs.declared.RefusedLog.{RefusedLog}

-- the answer of a comparison: a refusal with the log that it is about, or whether the logs are the same
abbrev pub compared_as : Option (Refusal × ℕ) → Bool → Result Bool RefusedLog
compared_as none b = Ok b
compared_as (some r) b = Err (record { refusal = r.0; log = r.1 })

-- "Same"
abbrev pub comparison : ℕ → List ℕ → List ℕ → List ℕ → Result Bool RefusedLog
comparison k masks v w = compared_as (same_refusal k masks v w) (same? (independent masks) k v w)

-- document 01's values of an answer: 1 for yes and 0 for no; of a refusal its number, its place and the log's number
abbrev pub compared_values : Result Bool RefusedLog → List ℕ
compared_values (Ok true) = 1 ∷ []
compared_values (Ok false) = 0 ∷ []
compared_values (Err r) = refusal_number r.refusal ∷ refusal_place r.refusal ∷ r.log ∷ []

-- the numbers of an answer: the refusal's number, or 0; place, the refused log's number, 1 for yes
-- Kept: not `answer_code` and `answer_told`, since the refusal comes with the log's number, which is told too
abbrev pub compared_code : Result Bool RefusedLog → ℕ
compared_code (Ok b) = 0
compared_code (Err r) = refusal_number r.refusal

abbrev pub compared_told : Result Bool RefusedLog → List ℕ
compared_told (Ok true) = 0 ∷ 0 ∷ 1 ∷ []
compared_told (Ok false) = 0 ∷ 0 ∷ 0 ∷ []
compared_told (Err r) = refusal_place r.refusal ∷ r.log ∷ 0 ∷ []

-- letters x and y are exchanged both ways, or the logs agree where only x and y are kept
abbrev pub pair_agrees? : List ℕ → List ℕ → List ℕ → ℕ → ℕ → Bool
pair_agrees? masks v w x y = mutual? (independent masks) x y || equal? (project x y v) (project x y w)
