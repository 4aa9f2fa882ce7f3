-- Paper 7, "Verdict while the class is lending": the record of a running judge, its calls, what refuses them, and what each promises.
use Rattle.std.specs.Prelude.{◌≡◌, Result, Ok, Err, Bool, true, false, cond, List, [], ◌∷◌, ◌++◌, ℕ, suc, ◌*◌, get_or, leb, length, replicate, take}
use Rattle.std.proofs.Math.Option.{Option, none, some}
use Rattle.profile.specs.Traces.{independent}
use Rattle.profile.specs.Automata.{Profile, automaton}
use Rattle.profile.specs.Rules.{order_by, plain, prefixes_by}
use Rattle.profile.specs.Tables.{layout, record_length}
use Rattle.profile.specs.Refusals.{full_table, longest, lowest, profile_refusals, refused_by}
use Rattle.profile.specs.Answers.{answer_code, answer_told}
use Rattle.profile.specs.declared.Refusal.{Refusal}
use Rattle.profile.specs.declared.Refusal.TheVariants.{BadLetter, FullTable, LongLog}
use Rattle.theory.proofs.Refusals.{GoodLog}
use Rattle.arrival.specs.Arrival.{Keeps, arrivals, newcomers, put_written}
use Rattle.running.specs.declared.Running.{Running}
use Rattle.running.specs.declared.Told.{Told}

-- P of the judge for the list of events w, and its verdict: 1 exactly when there is an accepted order
abbrev pub p_of : Profile → List ℕ → ℕ
p_of p w = prefixes_by (plain p) w

abbrev pub some? : Option (List ℕ) → Bool
some? none = false
some? (some v) = true

abbrev pub verdict_of : Profile → List ℕ → Bool
verdict_of p w = some? (order_by (plain p) w)

-- a record as two numbers, and the record of two numbers
abbrev pub held_numbers : Running → List ℕ
held_numbers r = r.prefixes ∷ r.taken ∷ []

abbrev pub held_of : List ℕ → Running
held_of l = record { prefixes = get_or l 0 0; taken = get_or l 1 0 }

-- ---- what refuses a call

-- "A start with no place for one record" of a table of n numbers
abbrev pub start_refusals : Profile → ℕ → List (Bool × Refusal)
start_refusals p n = profile_refusals p ++ ((full_table 1 n, FullTable) ∷ [])

-- of an event by the record alone: "the 4,001st event is refused by 7", "its place at 8 is the number of events taken", "a call after the start whose record's P
-- does not fit it, is refused by 10"
abbrev pub record_refusals : Profile → Running → ℕ → ℕ → List (Bool × Refusal)
record_refusals p r a n =
    profile_refusals p ++ ((leb longest r.taken, LongLog) ∷ (leb p.k a, BadLetter r.taken) ∷ (full_table r.prefixes n, FullTable) ∷ [])

-- with "an event after which P would not fit the lent table": w are the events taken
abbrev pub event_refusals : Profile → List ℕ → Running → ℕ → ℕ → List (Bool × Refusal)
event_refusals p w r a n = record_refusals p r a n ++ ((full_table (p_of p (w ++ (a ∷ []))) n, FullTable) ∷ [])

abbrev pub question_refusals : Profile → Running → ℕ → List (Bool × Refusal)
question_refusals p r n = profile_refusals p ++ ((full_table r.prefixes n, FullTable) ∷ [])

-- the numbers of an answer: the refusal's number, or 0, and what is told: the place; of a question also verdict, P and the number of events taken
abbrev pub started_code : Result Running Refusal → ℕ
started_code = answer_code

abbrev pub started_told : Result Running Refusal → List ℕ
started_told = answer_told 0 (λ _. [])

abbrev pub step_code : Result Unit Refusal → ℕ
step_code = answer_code

abbrev pub step_told : Result Unit Refusal → List ℕ
step_told = answer_told 0 (λ _. [])

abbrev pub question_code : Result Told Refusal → ℕ
question_code = answer_code

abbrev pub question_told : Result Told Refusal → List ℕ
question_told = answer_told 3 (λ t. cond t.verdict 1 0 ∷ t.prefixes ∷ t.taken ∷ [])

-- ---- the record and the table

-- the record and the table are as the last call left them, and the events taken are w
pub record Runs (p : Profile) (w : List ℕ) (r : Running) (t : List ℕ) : Type 0 where
  pub sound : lowest (profile_refusals p) ≡ none
  pub log : GoodLog p.k w
  pub prefixes : r.prefixes ≡ p_of p w
  pub taken : r.taken ≡ length w
  pub place : full_table r.prefixes (length t) ≡ false
  pub keeps : Keeps layout (independent p.masks) (automaton p) p.k w t

-- the table after a start: the record of the empty prefix is put
abbrev pub start_table : Profile → List ℕ → List ℕ
start_table p t = put_written layout (independent p.masks) (automaton p) [] 0 (replicate p.k 0 ∷ []) t

-- the table after the event a is added to w: the new records stand behind the P old ones, "in the order of the records it is added to"
abbrev pub event_table : Profile → List ℕ → ℕ → List ℕ → List ℕ
event_table p w a t =
    put_written layout (independent p.masks) (automaton p) (w ++ (a ∷ [])) (length (arrivals (independent p.masks) p.k w))
    (newcomers (independent p.masks) p.k w a (arrivals (independent p.masks) p.k w)) t

-- ---- promises

-- of a start that was lent the table t and left t'
abbrev pub begun : Profile → List ℕ → List ℕ → Result Running Refusal → Type 0
begun p t t' (Err x) = t' ≡ t
begun p t t' (Ok r) = (r ≡ record { prefixes = 1; taken = 0 }) × (t' ≡ start_table p t)

pub record StartPromise (p : Profile) (t t' : List ℕ) (s : Result Running Refusal) : Type 0 where
  pub refused : refused_by s ≡ lowest (start_refusals p (length t))
  pub left : begun p t t' s

-- "A refused event changes neither the record nor the first P table records": this one changes no number of the table
abbrev pub unmoved : Running → Running → List ℕ → List ℕ → Result Unit Refusal → Type 0
unmoved r r' t t' (Err x) = (r' ≡ r) × (t' ≡ t)
unmoved r r' t t' (Ok u) = Unit {0}

-- an event that is taken after w: the record and the table that it leaves
abbrev pub stepped : Profile → List ℕ → ℕ → Running → List ℕ → List ℕ → Result Unit Refusal → Type 0
stepped p w a r' t t' (Err x) = Unit {0}
stepped p w a r' t t' (Ok u) = (r' ≡ record { prefixes = p_of p (w ++ (a ∷ [])); taken = suc (length w) }) × (t' ≡ event_table p w a t)

-- of an event a with the record r and the table t, which it left as r' and t'. The first two hold whatever the record and the table are; "with a record or table not so
-- left" all else that a taken event tells and writes is free
pub record StepPromise (p : Profile) (a : ℕ) (r r' : Running) (t t' : List ℕ) (s : Result Unit Refusal) : Type 0 where
  pub early : (x : Refusal) → lowest (record_refusals p r a (length t)) ≡ some x → s ≡ Err x
  pub unchanged : unmoved r r' t t' s
  pub refused : (w : List ℕ) → Runs p w r t → refused_by s ≡ lowest (event_refusals p w r a (length t))
  pub left : (w : List ℕ) → Runs p w r t → stepped p w a r' t t' s

-- of a question; with a record or table not as left, what is told where nothing refuses it is free
pub record QuestionPromise (p : Profile) (r : Running) (t : List ℕ) (s : Result Told Refusal) : Type 0 where
  pub refused : refused_by s ≡ lowest (question_refusals p r (length t))
  pub told : (w : List ℕ) → Runs p w r t → s ≡ Ok (record { verdict = verdict_of p w; prefixes = p_of p w; taken = length w })

-- ---- "every list of events and questions after a start that is not refused, with the same profile and with the record and the table lent each time as the last
-- call left them": the events taken so far, the record and the table. The table may be another, as a longer one, that has its first P records as they were left
pub data Lent (p : Profile) : List ℕ → Running → List ℕ → Type 0 where
  started : {t t' : List ℕ} {r : Running} → StartPromise p t t' (Ok r) → Lent p [] r t'
  took : {w t t' : List ℕ} {r r' : Running} {a : ℕ} → Lent p w r t → StepPromise p a r r' t t' (Ok tt) → Lent p (w ++ (a ∷ [])) r' t'
  refused : {w t t' : List ℕ} {r r' : Running} {a : ℕ} {x : Refusal} → Lent p w r t → StepPromise p a r r' t t' (Err x) → Lent p w r' t'
  relent : {w t t' : List ℕ} {r : Running} → Lent p w r t → full_table r.prefixes (length t') ≡ false
      → take (record_length layout * r.prefixes) t' ≡ take (record_length layout * r.prefixes) t → Lent p w r t'
  asked : {w t : List ℕ} {r : Running} {s : Result Told Refusal} → Lent p w r t → QuestionPromise p r t s → Lent p w r t
