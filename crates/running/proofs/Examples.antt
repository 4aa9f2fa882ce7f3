-- Paper 7 on worked cases, by computation: the tables after a start and an event, the refusals of each call, and what is told.
use mathlib.Core.Path.{◌≡◌, refl}
use mathlib.Core.Bool.{true, false}
use mathlib.Core.List.{[], ◌∷◌, ◌++◌}
use mathlib.Core.Option.{none, some}
use lib.ListN.{replicate}
use Rattle.profile.specs.Refusals.{lowest}
use Rattle.profile.specs.declared.Refusal.TheVariants.{BadLetter, FullTable, LongLog, OutOfRange}
use Rattle.profile.proofs.Cases.{ab, alt}
use Rattle.running.specs.Running.{p_of, event_refusals, event_table, question_refusals, record_refusals, start_refusals, start_table, verdict_of}

-- Alt on b and then a in a table of 40 sevens: the tenth number of each record stays
table_started : start_table (alt ab) (replicate 40 7) ≡ (replicate 8 0 ++ (1 ∷ 7 ∷ [])) ++ replicate 30 7
table_started = refl

table_b : event_table (alt ab) [] 1 (start_table (alt ab) (replicate 40 7))
    ≡ (replicate 8 0 ++ (1 ∷ 7 ∷ [])) ++ ((65536 ∷ (replicate 7 0 ++ (0 ∷ 7 ∷ []))) ++ replicate 20 7)
table_b = refl

table_ba : event_table (alt ab) (1 ∷ []) 0 (event_table (alt ab) [] 1 (start_table (alt ab) (replicate 40 7)))
    ≡ (replicate 8 0 ++ (1 ∷ 7 ∷ [])) ++ ((65536 ∷ (replicate 7 0 ++ (0 ∷ 7 ∷ []))) ++ ((1 ∷ (replicate 7 0 ++ (2 ∷ 7 ∷ []))) ++ (65537 ∷ (replicate 7 0 ++ (1 ∷ 7 ∷ [])))))
table_ba = refl

-- a start needs ten numbers; a shape out of range comes first
start_nine : lowest (start_refusals (alt ab) 9) ≡ some FullTable
start_nine = refl

start_ten : lowest (start_refusals (alt ab) 10) ≡ none
start_ten = refl

start_first : lowest (start_refusals (alt (0 ∷ [])) 9) ≡ some OutOfRange
start_first = refl

-- the 4,001st event is 7, with a bad letter too; the place at 8 is the number of events taken; a P that does not fit is 10
event_late : lowest (record_refusals (alt ab) (record { prefixes = 1; taken = 4000 }) 2 40) ≡ some LongLog
event_late = refl

event_letter : lowest (record_refusals (alt ab) (record { prefixes = 9; taken = 3 }) 2 40) ≡ some (BadLetter 3)
event_letter = refl

event_lent_less : lowest (record_refusals (alt ab) (record { prefixes = 5; taken = 3 }) 1 40) ≡ some FullTable
event_lent_less = refl

-- b and then a: the second event needs 40 numbers, and 39 are refused
event_39 : lowest (event_refusals (alt ab) (1 ∷ []) (record { prefixes = 2; taken = 1 }) 0 39) ≡ some FullTable
event_39 = refl

event_40 : lowest (event_refusals (alt ab) (1 ∷ []) (record { prefixes = 2; taken = 1 }) 0 40) ≡ none
event_40 = refl

question_lent_less : lowest (question_refusals (alt ab) (record { prefixes = 4; taken = 2 }) 39) ≡ some FullTable
question_lent_less = refl

-- what is told after bbaa, and after bab
told_m2 : (verdict_of (alt ab) (1 ∷ 1 ∷ 0 ∷ 0 ∷ []) ≡ true) × (p_of (alt ab) (1 ∷ 1 ∷ 0 ∷ 0 ∷ []) ≡ 9)
told_m2 = (refl, refl)

told_m3 : (verdict_of (alt ab) (1 ∷ 0 ∷ 1 ∷ []) ≡ false) × (p_of (alt ab) (1 ∷ 0 ∷ 1 ∷ []) ≡ 6)
told_m3 = (refl, refl)
