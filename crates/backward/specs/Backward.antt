-- Document 01, "Prefixes and their table": the backward numbers, put from the last record to the first into the records that the forward pass wrote.
use Rattle.std.specs.Prelude.{◌≡◌, ℕ, zero, suc, ◌+◌, ◌*◌, ◌/◌, ◌%◌, ◌^◌, ◌<◌, ◌≤◌, Bool, true, false, cond, List, ◌++◌, length, drop, set, slice_index, slice_set}
use Rattle.profile.specs.Rules.{Rules}
use Rattle.profile.specs.Automata.{backward_step, union}
use Rattle.profile.specs.Lists.{below, filter}
use Rattle.profile.specs.Prefixes.{prefix_count}
use Rattle.profile.specs.Tables.{layout, record_length}
use Rattle.profile.specs.Traces.{bit}
use Rattle.theory.proofs.Refusals.{GoodEvents, GoodProfile}
use Rattle.records.specs.Records.{last_at, records_in}
use Rattle.records.specs.Drafts.{drafted, filled, in_order}

-- the records of all prefixes, filled
abbrev pub filled_all : Rules → List ℕ → List ℕ
filled_all p w = filled p w (in_order p w)

-- a good profile and log, and a table t whose first records are those of all prefixes, drafted
pub record Drafted (p : Rules) (w t : List ℕ) (records : ℕ) : Type 0 where
  pub profile : GoodProfile p.profile
  pub log : GoodEvents p w
  pub whole : records ≡ prefix_count p.may p.letter p.profile.k w
  pub fits : record_length layout * records ≤ length t
  pub written : t ≡ drafted p w (in_order p w) ++ drop (record_length layout * records) t

-- ---- flags

-- A count is at most 4,000, so it leaves the four highest of its 16 bits free. In a record that is done these bits of the last four counts are flags, one for
-- each letter that can be taken away: the flag of letter x is this bit of this number of the record
abbrev pub flag_number : ℕ → ℕ
flag_number x = 6 + x / 8

abbrev pub flag_bit : ℕ → ℕ
flag_bit x = 12 + x % 4 + 16 * (x / 4 % 2)

-- record i has the flag of letter x
abbrev pub flag? : List ℕ → ℕ → ℕ → Bool
flag? t x i = bit (slice_index t (record_length layout * i + flag_number x)) (flag_bit x)

-- the flags of the first eight letters of a set, as one number has them; a number of counts with such flags; a number without its flags
unfoldable pub flags : ℕ → ℕ
flags S = 4096 * (S % 16) + 268435456 * (S / 16 % 16)

unfoldable pub with_flags : ℕ → ℕ → ℕ
with_flags n S = (n + flags S) % 2 ^ 32

unfoldable pub without_flags : ℕ → ℕ
without_flags n = n % 4096 + 65536 * (n / 65536 % 4096)

-- record j done: the backward set b in place of its last number, of whose upper half it has the flags
abbrev pub done_at : List ℕ → ℕ → ℕ → List ℕ
done_at t j b =
    set (set (slice_set t (record_length layout * j + 6) (with_flags (slice_index t (record_length layout * j + 6)) (last_at t j / 65536)))
    (record_length layout * j + 7) (with_flags (slice_index t (record_length layout * j + 7)) (last_at t j / 65536 / 256)))
    (record_length layout * j + (layout.numbers + 1)) b

-- record j without its flags; so the first n records
abbrev pub clear_at : List ℕ → ℕ → List ℕ
clear_at t j =
    set (slice_set t (record_length layout * j + 6) (without_flags (slice_index t (record_length layout * j + 6))))
    (record_length layout * j + 7) (without_flags (slice_index t (record_length layout * j + 7)))

abbrev pub cleared : List ℕ → ℕ → List ℕ
cleared t zero = t
cleared t (suc n) = clear_at (cleared t n) n

-- ---- one record

-- the last number below n that passes the test; 0 where none does
abbrev pub last_below : (ℕ → Bool) → ℕ → ℕ
last_below f zero = 0
last_below f (suc n) = elim (f n) [ true ↦ n | false ↦ last_below f n ]

-- the last record before record i that has the flag of letter x
abbrev pub flag_before : List ℕ → ℕ → ℕ → ℕ
flag_before t x i = last_below (flag? t x) i

-- the letters that can be added to record j
abbrev pub letters_at : List ℕ → ℕ → ℕ
letters_at t j = last_at t j % 65536

-- record j and the cursors of the letters are in t
pub record Inside (t : List ℕ) (j k : ℕ) (from : ℕ → ℕ) : Type 0 where
  pub record_in : j < records_in t
  pub cursors_in : (x : ℕ) → x < k → from x ≤ records_in t

-- the states from which a letter that can be added to record j leads into the last number of the record found for it
abbrev pub back_from : List ℕ → ℕ → ℕ → ℕ → List ℕ → (ℕ → ℕ) → ℕ
back_from t j k s moves from = union (λ x. backward_step k s moves (last_at t (flag_before t x (from x))) x) (filter (bit (letters_at t j)) (below k))

-- where the cursor of letter x, at record `from x`, stands after record j: at the record found, if x can be added to record j
abbrev pub moved : List ℕ → ℕ → (ℕ → ℕ) → ℕ → ℕ
moved t j from x = cond (bit (letters_at t j) x) (flag_before t x (from x)) (from x)
