-- Document 01, "Refused because of the input" and "… of the state of lent buffers": the refusals, the condition of each, and the lowest that applies.
use Rattle.std.specs.Prelude.{Result, Ok, Err, Bool, true, false, not, ◌||◌, List, [], ◌∷◌, ◌++◌, map, ℕ, ◌+◌, ◌*◌, ◌^◌, eqb, ltb, leb, length, get_or}
use Rattle.std.proofs.Math.Option.{Option, none, some}
pub use Rattle.profile.specs.Limits.{longest}
use Rattle.profile.specs.Limits.{most_letters, most_states}
use Rattle.profile.specs.Lists.{any, below, first_place}
use Rattle.profile.specs.Traces.{independent}
use Rattle.profile.specs.Automata.{Profile}
use Rattle.profile.specs.Rules.{plain, prefixes_by}
use Rattle.profile.specs.Tables.{capacity, layout}
use Rattle.profile.specs.declared.Refusal.{Refusal}
use Rattle.profile.specs.declared.Refusal.TheVariants.{ShortFile, OutOfRange, Distance, MaskBit, StateBit, LongLog, BadLetter, ShortBuffer, FullTable, BadText, DeepText, LongText, BadDay, BadTerm, NoTerm, ShortCosts, BadGroups, HighCeiling, ViewBit, BadRule, ShortSets}

-- "A refusal gives its number …"; "Symmetry is dropped, so 5 never occurs": no refusal has it
abbrev pub refusal_number : Refusal → ℕ
refusal_number ShortFile = 1
refusal_number OutOfRange = 2
refusal_number Distance = 3
refusal_number MaskBit = 4
refusal_number StateBit = 6
refusal_number LongLog = 7
refusal_number (BadLetter i) = 8
refusal_number ShortBuffer = 9
refusal_number FullTable = 10
refusal_number (BadText i) = 11
refusal_number DeepText = 12
refusal_number LongText = 13
refusal_number BadDay = 14
refusal_number BadTerm = 15
refusal_number NoTerm = 16
refusal_number ShortCosts = 17
refusal_number BadGroups = 18
refusal_number HighCeiling = 19
refusal_number ViewBit = 20
refusal_number BadRule = 21
refusal_number ShortSets = 22

-- "… and a place": "Place is 0 except at 8", and at 11 (document 02, Paper 1)
abbrev pub refusal_place : Refusal → ℕ
refusal_place ShortFile = 0
refusal_place OutOfRange = 0
refusal_place Distance = 0
refusal_place MaskBit = 0
refusal_place StateBit = 0
refusal_place LongLog = 0
refusal_place (BadLetter i) = i
refusal_place ShortBuffer = 0
refusal_place FullTable = 0
refusal_place (BadText i) = i
refusal_place DeepText = 0
refusal_place LongText = 0
refusal_place BadDay = 0
refusal_place BadTerm = 0
refusal_place NoTerm = 0
refusal_place ShortCosts = 0
refusal_place BadGroups = 0
refusal_place HighCeiling = 0
refusal_place ViewBit = 0
refusal_place BadRule = 0
refusal_place ShortSets = 0

-- the number S has a bit from n on
abbrev pub bit_from : ℕ → ℕ → Bool
bit_from n S = leb (2 ^ n) S

-- 2, of k and the masks: "k … out of range; mask … slices … not exactly k … long"
abbrev pub letters_out_of_range : ℕ → List ℕ → Bool
letters_out_of_range k masks = ltb k 1 || (ltb most_letters k || not (eqb (length masks) k))

-- 2, of a profile: "k, s or start out of range; … mask or move slices … not exactly k and s × k long"
abbrev pub profile_out_of_range : Profile → Bool
profile_out_of_range p =
    letters_out_of_range p.k p.masks || (ltb p.s 1 || (ltb most_states p.s || (leb p.s p.start || not (eqb (length p.moves) (p.s * p.k)))))

-- 4: "A mask with a bit from k on, or its own bit"
abbrev pub mask_bit : ℕ → List ℕ → Bool
mask_bit k masks = any (λ i. bit_from k (get_or masks i 0) || independent masks i i) (below (length masks))

-- 6: "A move or the final set with a bit from s on"
abbrev pub state_bit : Profile → Bool
state_bit p = bit_from p.s p.finals || any (bit_from p.s) p.moves

-- 7: "Refusal 7 now starts at 4,001"
abbrev pub long_log : List ℕ → Bool
long_log w = ltb longest (length w)

-- 8: "A log byte of k or more; the first such place, counted in the log from 0, is given"
abbrev pub bad_letter : ℕ → List ℕ → Bool
bad_letter k w = any (leb k) w

abbrev pub bad_place : ℕ → List ℕ → ℕ
bad_place k w = first_place (leb k) w

-- 9: "An output buffer shorter than what it must receive": n places for w
abbrev pub short_buffer : ℕ → List ℕ → Bool
short_buffer n w = ltb n (length w)

-- 10: "P records do not fit the work table" of n numbers
abbrev pub full_table : ℕ → ℕ → Bool
full_table P n = ltb (capacity layout n) P

-- "The lowest number that applies is given": the first of the list whose condition holds
module _ {A : Type 0} where
  abbrev pub lowest : List (Bool × A) → Option A
  lowest [] = none
  lowest (c ∷ l) = elim c.0 [ true ↦ some c.1 | false ↦ lowest l ]

-- the refusal that an answer gives, a check's or a call's; none where it gives none
abbrev pub refused_by : {T : Type 0} → Result T Refusal → Option Refusal
refused_by (Ok t) = none
refused_by (Err r) = some r

-- the conditions of a relation, of a profile and of a log, by rising number
abbrev pub relation_refusals : ℕ → List ℕ → List (Bool × Refusal)
relation_refusals k masks = (letters_out_of_range k masks, OutOfRange) ∷ (mask_bit k masks, MaskBit) ∷ []

abbrev pub profile_refusals : Profile → List (Bool × Refusal)
profile_refusals p =
    (profile_out_of_range p, OutOfRange) ∷ (mask_bit p.k p.masks, MaskBit) ∷ (state_bit p, StateBit) ∷ []

abbrev pub log_refusals : ℕ → List ℕ → List (Bool × Refusal)
log_refusals k w = (long_log w, LongLog) ∷ (bad_letter k w, BadLetter (bad_place k w)) ∷ []

-- the judge, with n places for the order and m numbers of table; "admitted": none save 10
abbrev pub admission_refusals : Profile → List ℕ → ℕ → List (Bool × Refusal)
admission_refusals p w n = profile_refusals p ++ (log_refusals p.k w ++ ((short_buffer n w, ShortBuffer) ∷ []))

abbrev pub judge_refusals : Profile → List ℕ → ℕ → ℕ → List (Bool × Refusal)
judge_refusals p w n m = admission_refusals p w n ++ ((full_table (prefixes_by (plain p) w) m, FullTable) ∷ [])

abbrev pub judge_refusal : Profile → List ℕ → ℕ → ℕ → Option Refusal
judge_refusal p w n m = lowest (judge_refusals p w n m)

-- the first order, with n places for it
abbrev pub first_order_refusals : ℕ → List ℕ → List ℕ → ℕ → List (Bool × Refusal)
first_order_refusals k masks w n = relation_refusals k masks ++ (log_refusals k w ++ ((short_buffer n w, ShortBuffer) ∷ []))

abbrev pub first_order_refusal : ℕ → List ℕ → List ℕ → ℕ → Option Refusal
first_order_refusal k masks w n = lowest (first_order_refusals k masks w n)

-- a refusal with the log that it is about: 1 or 2, and 0 for none
abbrev pub of_log : ℕ → List (Bool × Refusal) → List (Bool × (Refusal × ℕ))
of_log n l = map (λ (c : Bool × Refusal). (c.0, (c.1, n))) l

-- "Same alone departs from this: it checks its first log by 7 and 8, then its second, and names the log as 1 or 2"
abbrev pub same_refusal : ℕ → List ℕ → List ℕ → List ℕ → Option (Refusal × ℕ)
same_refusal k masks v w = lowest (of_log 0 (relation_refusals k masks) ++ (of_log 1 (log_refusals k v) ++ of_log 2 (log_refusals k w)))
