-- Document 01, "Program": the text that is printed for an input, as a list of bytes in ASCII.
use Rattle.std.specs.Prelude.{◌≡◌, Bool, true, false, ◌≢◌, List, [], ◌∷◌, ◌++◌, ℕ, zero, suc, ◌+◌, ◌/◌, ◌%◌, ◌≤◌, ltb, length, take, drop}
use Rattle.std.proofs.Math.Option.{Option, none, some}
use Rattle.profile.specs.Limits.{longest_input, most_letters, most_moves, program_numbers, program_text}
use Rattle.profile.specs.Lists.{flat_map}
use Rattle.profile.specs.Automata.{Profile}
use Rattle.profile.specs.Rules.{order_by, plain, prefixes_by, table_by}
use Rattle.profile.specs.Refusals.{judge_refusal, longest, refusal_number}
use Rattle.profile.specs.declared.Refusal.{Refusal}
use Rattle.profile.specs.declared.Refusal.TheVariants.{FullTable}
use Rattle.logfile.specs.Files.{file_log, file_profile, read_refusal}

-- the decimal digits of n, most significant first, at most as many as the first number says
abbrev pub digits_within : ℕ → ℕ → List ℕ
digits_within zero n = []
digits_within (suc m) n = elim (ltb n 10) [ true ↦ (48 + n) ∷ [] | false ↦ digits_within m (n / 10) ++ ((48 + n % 10) ∷ []) ]

-- a number, decimal: the fewest digits that hold it
abbrev pub decimal : ℕ → List ℕ
decimal n = digits_within (suc n) n

-- "verdict ", "prefixes ", "refused ", "order", "too long"
abbrev pub verdict_word : List ℕ
verdict_word = 118 ∷ 101 ∷ 114 ∷ 100 ∷ 105 ∷ 99 ∷ 116 ∷ 32 ∷ []

abbrev pub prefixes_word : List ℕ
prefixes_word = 112 ∷ 114 ∷ 101 ∷ 102 ∷ 105 ∷ 120 ∷ 101 ∷ 115 ∷ 32 ∷ []

abbrev pub refused_word : List ℕ
refused_word = 114 ∷ 101 ∷ 102 ∷ 117 ∷ 115 ∷ 101 ∷ 100 ∷ 32 ∷ []

abbrev pub order_word : List ℕ
order_word = 111 ∷ 114 ∷ 100 ∷ 101 ∷ 114 ∷ []

abbrev pub too_long_line : List ℕ
too_long_line = 116 ∷ 111 ∷ 111 ∷ 32 ∷ 108 ∷ 111 ∷ 110 ∷ 103 ∷ 10 ∷ []

-- "each with a line end": a word and a number
abbrev pub number_line : List ℕ → ℕ → List ℕ
number_line word n = word ++ (decimal n ++ (10 ∷ []))

-- a space and a number; those of a list
abbrev pub spaced : ℕ → List ℕ
spaced n = 32 ∷ decimal n

-- `order 0 1 0 1`; "an empty order is the word `order` alone"
abbrev pub order_line : List ℕ → List ℕ
order_line v = order_word ++ (flat_map spaced v ++ (10 ∷ []))

-- the lines of a verdict: `verdict 1`, `prefixes 9`, `order 0 1 0 1`; "Verdict 0 has no third line"
abbrev pub verdict_lines : ℕ → ℕ → List ℕ
verdict_lines v P = number_line verdict_word v ++ number_line prefixes_word P

abbrev pub verdict_text : ℕ → Option (List ℕ) → List ℕ
verdict_text P none = verdict_lines 0 P
verdict_text P (some v) = verdict_lines 1 P ++ order_line v

-- "A refusal prints one line, `refused` and its number"; else what is told is printed
abbrev pub refusal_line : Refusal → List ℕ
refusal_line r = number_line refused_word (refusal_number r)

abbrev pub unless_refused : Option Refusal → List ℕ → List ℕ
unless_refused none t = t
unless_refused (some r) t = refusal_line r

-- what is printed for a profile and a log, with an order buffer for the longest log and a table of m numbers
abbrev pub judged_text : Profile → List ℕ → ℕ → List ℕ
judged_text p w m =
    unless_refused (judge_refusal p w longest m)
    (verdict_text (prefixes_by (plain p) w) (order_by (plain p) w))

-- what is printed for a file, whose masks and moves are read into buffers of 16 and 512 places
abbrev pub file_text : List ℕ → ℕ → List ℕ
file_text f m = unless_refused (read_refusal f most_letters most_moves) (judged_text (file_profile f) (file_log f) m)

-- "reads up to 65,536 bytes …"; "Longer input prints the one line `too long`"
abbrev pub printed_with : List ℕ → ℕ → List ℕ
printed_with f m = elim (ltb longest_input (length f)) [ true ↦ too_long_line | false ↦ file_text f m ]

-- "with a table of 16,380 numbers": what the program prints
abbrev pub printed : List ℕ → List ℕ
printed f = printed_with f program_numbers

-- what becomes of a table that was `b` and is `a`: "Refusals leave every buffer unchanged; only after 10 is the work table's content free"; after a
-- verdict it holds the prefixes
abbrev pub table_left : Option Refusal → Profile → List ℕ → List ℕ → List ℕ → Type 0
table_left none p w b a = a ≡ table_by (plain p) w b
table_left (some r) p w b a = r ≢ FullTable → a ≡ b

abbrev pub judged_table : Profile → List ℕ → List ℕ → List ℕ → Type 0
judged_table p w b a = table_left (judge_refusal p w longest (length b)) p w b a

-- so for a file
abbrev pub read_table : Option Refusal → List ℕ → List ℕ → List ℕ → Type 0
read_table none f b a = judged_table (file_profile f) (file_log f) b a
read_table (some r) f b a = a ≡ b

abbrev pub file_table : List ℕ → List ℕ → List ℕ → Type 0
file_table f b a = read_table (read_refusal f most_letters most_moves) f b a

-- the one where a test holds, the other where it does not
abbrev pub whether : Bool → Type 0 → Type 0 → Type 0
whether true A B = A
whether false A B = B

-- what the program's text function promises of an input f, a text buffer and a table: r bytes are put at the front of the buffer, the others stay.
-- With fewer than 16,384 bytes for the text nothing is put
abbrev pub response : List ℕ → ℕ → ℕ → List ℕ
response f o m = elim (ltb o program_text) [ true ↦ [] | false ↦ printed_with f m ]

abbrev pub table_after : List ℕ → ℕ → List ℕ → List ℕ → Type 0
table_after f o b a = whether (ltb o program_text) (a ≡ b) (whether (ltb longest_input (length f)) (a ≡ b) (file_table f b a))

pub record Responds (f out out' work work' : List ℕ) (r : ℕ) : Type 0 where
  pub text : take r out' ≡ response f (length out) (length work)
  pub rest : (r ≤ length out) × (drop r out' ≡ drop r out)
  pub table : table_after f (length out) work work'
