-- What types, arrays and proofs rely on among the limits, by name: a change of a limit that breaks one of these is refused here first.
use mathlib.Core.Path.{◌≡◌, refl}
use Prim.Native.Nat.{◌+◌, ◌*◌, ◌^◌, ◌≤◌, ◌<◌}
use native.Mathlib.Omega.{arith}
use Rattle.profile.specs.Limits.{count_bits, count_numbers, counts_per_number, finals_byte, longest, most_letters, most_moves, most_places, most_states, most_typed, program_text, record_numbers, trailer_length, usable_numbers}
use Rattle.profile.specs.Tables.{layout, record_length}

-- a mask, of 16 bits, has one for each letter, and a set, of 32 bits, one for each state and for each letter
pub mask_wide : most_letters ≤ 16
mask_wide = omega arith

pub set_wide : (most_states ≤ 32) × (most_letters ≤ 32)
set_wide = (omega arith, omega arith)

-- a count holds every number of events, and so does `Place`, of 16 bits, every place of an event and where the places of each letter begin
pub count_wide : longest < 2 ^ count_bits
count_wide = omega arith

pub place_wide : (longest < 2 ^ 16) × (most_places < 2 ^ 16)
place_wide = (omega arith, omega arith)

-- the counts fill each of their numbers, of 32 bits, and there are as many as letters
pub counts_fill : count_bits * counts_per_number ≡ 32
counts_fill = refl

pub counts_enough : counts_per_number * count_numbers ≡ most_letters
counts_enough = refl

-- the record of the layout, and how many records fit: P is told in 32 bits
pub record_whole : record_length layout ≡ record_numbers
record_whole = refl

pub records_told : usable_numbers < 2 ^ 32
records_told = omega arith

-- the trailer ends with the final set, of four bytes; the longest distance, that to the masks, fits two
pub trailer_whole : finals_byte + 4 ≡ trailer_length
trailer_whole = refl

pub distance_fits : 2 * most_letters + (4 * most_moves + longest) < 2 ^ 16
distance_fits = omega arith

-- the lines of a verdict, at most 64 bytes, and that of the longest order, a space and at most three digits for each letter
pub text_fits : 64 + (6 + 4 * longest) ≤ program_text
text_fits = omega arith

-- "s is one more than the letters typed"
pub typed_states : most_typed + 1 ≡ most_states
typed_states = refl
