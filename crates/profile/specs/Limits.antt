-- The limits of documents 01 and 02, each once. Every other definition, every contract and every law cites these names; `src/limits.rt` has the same
-- names in capitals, and the crate `limits` shows that the two agree.
use Rattle.std.specs.Prelude.{ℕ, ◌+◌, ◌*◌, ◌/◌}

-- "A letter is a kind of event, 0 to k − 1, with k from 1 to 16"
abbrev pub most_letters : ℕ
most_letters = 16

-- "s states (1 to 32)"
abbrev pub most_states : ℕ
most_states = 32

-- "The moves are s × k numbers": at most so many
abbrev pub most_moves : ℕ
most_moves = most_states * most_letters

-- "A log may have 4,000 letters"
abbrev pub longest : ℕ
longest = 4000

-- the places of a log's events by letter, with the log's length behind those of each letter: at most so many
abbrev pub most_places : ℕ
most_places = longest + most_letters

-- "counts take 16 bits, and a record takes ten numbers: eight with two counts each …, then forward and backward"
abbrev pub count_bits : ℕ
count_bits = 16

abbrev pub counts_per_number : ℕ
counts_per_number = 2

abbrev pub count_numbers : ℕ
count_numbers = 8

abbrev pub record_numbers : ℕ
record_numbers = count_numbers + 2

-- "all numbers past the first 4,294,967,292, are unused"
abbrev pub usable_numbers : ℕ
usable_numbers = 4294967292

-- the records that these have place for
abbrev pub most_records : ℕ
most_records = usable_numbers / record_numbers

-- "a 16-byte trailer at the very end"; of its bytes: "0, 1, 2, 3 | k, s, start state, log length n", "4–5 | … to the masks", "6–7 | … to the
-- moves", "8–9 | … to the log", "Trailer byte 10 becomes the high byte of n, byte 11 stays zero", "12–15 | final set"
abbrev pub trailer_length : ℕ
trailer_length = 16

abbrev pub letters_byte : ℕ
letters_byte = 0

abbrev pub states_byte : ℕ
states_byte = 1

abbrev pub start_byte : ℕ
start_byte = 2

abbrev pub length_byte : ℕ
length_byte = 3

abbrev pub masks_byte : ℕ
masks_byte = 4

abbrev pub moves_byte : ℕ
moves_byte = 6

abbrev pub log_byte : ℕ
log_byte = 8

abbrev pub length_high_byte : ℕ
length_high_byte = 10

abbrev pub zero_byte : ℕ
zero_byte = 11

abbrev pub finals_byte : ℕ
finals_byte = 12

-- "reads up to 65,536 bytes of standard input as one file, with a table of 16,380 numbers"
abbrev pub longest_input : ℕ
longest_input = 65536

abbrev pub program_numbers : ℕ
program_numbers = 16380

-- the room for what it prints, which no document gives: the lines of a verdict, and at most four bytes for each letter of an order
abbrev pub program_text : ℕ
program_text = 16384

-- "12 when brackets go deeper than 16, 13 when more than 31 letters are typed"
abbrev pub deepest_brackets : ℕ
deepest_brackets = 16

abbrev pub most_typed : ℕ
most_typed = 31
