-- Document 01, "Log file": what a file holds, why it is refused, what the reader gives. A file is a list of bytes.
use Rattle.std.specs.Prelude.{Result, Ok, Err, ◌≡◌, Bool, ◌||◌, not, List, [], ◌∷◌, ◌++◌, map, ℕ, ◌+◌, ◌-◌, ◌*◌, eqb, leb, ltb, length, get_or, take, drop}
use Rattle.std.proofs.Math.Option.{Option, none, some}
use Rattle.profile.specs.Limits.{finals_byte, length_byte, length_high_byte, letters_byte, log_byte, masks_byte, most_letters, most_states, moves_byte, start_byte, states_byte, trailer_length, zero_byte}
use Rattle.profile.specs.Lists.{below}
use Rattle.profile.specs.Automata.{Profile, profile_of}
use Rattle.profile.specs.Tables.{pack}
use Rattle.profile.specs.Refusals.{log_refusals, lowest, mask_bit, profile_out_of_range, short_buffer, state_bit}
use Rattle.profile.specs.Answers.{answer_code, answer_told}
use Rattle.profile.specs.declared.Shape.{Shape}
use Rattle.profile.specs.declared.Refusal.{Refusal}
use Rattle.profile.specs.declared.Refusal.TheVariants.{Distance, MaskBit, OutOfRange, ShortBuffer, ShortFile, StateBit}

-- "Low byte first": the number of b bytes at place i; of two, of four
abbrev pub number : ℕ → List ℕ → ℕ → ℕ
number b f i = pack 8 (take b (drop i f))

abbrev pub half : List ℕ → ℕ → ℕ
half f i = number 2 f i

abbrev pub word : List ℕ → ℕ → ℕ
word f i = number 4 f i

-- "a 16-byte trailer at the very end": where it begins
abbrev pub trailer : List ℕ → ℕ
trailer f = length f - trailer_length

-- "Trailer byte" i
abbrev pub field : List ℕ → ℕ → ℕ
field f i = get_or f (trailer f + i) 0

-- "k, s, start state, log length n", and "final set"
abbrev pub file_shape : List ℕ → Shape
file_shape f = record { k = field f letters_byte; s = field f states_byte; start = field f start_byte; finals = word f (trailer f + finals_byte) }

-- "Trailer byte 10 becomes the high byte of n"
abbrev pub log_length : List ℕ → ℕ
log_length f = field f length_byte + 256 * field f length_high_byte

-- "distance back from trailer start", at trailer byte i, and where its section begins
abbrev pub distance : List ℕ → ℕ → ℕ
distance f i = half f (trailer f + i)

abbrev pub section : List ℕ → ℕ → ℕ
section f i = trailer f - distance f i

-- n numbers of b bytes each, from place i on
abbrev pub numbers_from : ℕ → List ℕ → ℕ → ℕ → List ℕ
numbers_from b f i n = map (λ j. number b f (i + b * j)) (below n)

-- "the masks (2k bytes)", "the moves (4 × s × k bytes)", "the log (n bytes)"
abbrev pub file_masks : List ℕ → List ℕ
file_masks f = numbers_from 2 f (section f masks_byte) (field f letters_byte)

abbrev pub file_moves : List ℕ → List ℕ
file_moves f = numbers_from 4 f (section f moves_byte) (field f states_byte * field f letters_byte)

abbrev pub file_log : List ℕ → List ℕ
file_log f = take (log_length f) (drop (section f log_byte) f)

-- the profile of a file
abbrev pub file_profile : List ℕ → Profile
file_profile f = profile_of (file_shape f) (file_masks f) (file_moves f)

-- 1: "File under 16 bytes"
abbrev pub short_file : List ℕ → Bool
short_file f = ltb (length f) trailer_length

-- 2, of the numbers: "k, s or start out of range"
abbrev pub numbers_out_of_range : ℕ → ℕ → ℕ → Bool
numbers_out_of_range k s start = ltb k 1 || (ltb most_letters k || (ltb s 1 || (ltb most_states s || leb s start)))

-- 2: "k, s or start out of range"; "byte 11 stays zero"
abbrev pub file_out_of_range : List ℕ → Bool
file_out_of_range f = profile_out_of_range (file_profile f) || not (eqb (field f zero_byte) 0)

-- 3: "A distance out of its range": not "at least its section's size and at most the trailer's own offset"
abbrev pub outside : List ℕ → ℕ → ℕ → Bool
outside f i size = ltb (distance f i) size || ltb (trailer f) (distance f i)

abbrev pub distance_out_of_range : List ℕ → Bool
distance_out_of_range f = outside f masks_byte (2 * field f letters_byte) || (outside f moves_byte (4 * (field f states_byte * field f letters_byte)) || outside f log_byte (log_length f))

-- the conditions of a file, by rising number, of its content and in all; 7 "applies to files too, before 8"
abbrev pub content_refusals : Profile → List ℕ → List (Bool × Refusal)
content_refusals p w = (mask_bit p.k p.masks, MaskBit) ∷ (state_bit p, StateBit) ∷ log_refusals p.k w

abbrev pub file_refusals : List ℕ → List (Bool × Refusal)
file_refusals f = (short_file f, ShortFile) ∷ (file_out_of_range f, OutOfRange) ∷ (distance_out_of_range f, Distance) ∷ content_refusals (file_profile f) (file_log f)

-- 9: "An output buffer shorter than what it must receive": the masks or the moves
abbrev pub short_buffers : List ℕ → ℕ → ℕ → Bool
short_buffers f a b = short_buffer a (file_masks f) || short_buffer b (file_moves f)

-- the reader's refusals, with a places for masks and b for moves
abbrev pub read_refusals : List ℕ → ℕ → ℕ → List (Bool × Refusal)
read_refusals f a b = file_refusals f ++ ((short_buffers f a b, ShortBuffer) ∷ [])

abbrev pub read_refusal : List ℕ → ℕ → ℕ → Option Refusal
read_refusal f a b = lowest (read_refusals f a b)

-- the one where nothing is refused, the other where something is
module _ {A : Type 0} where
  abbrev pub unless : Option Refusal → A → A → A
  unless none x y = x
  unless (some r) x y = y

-- "The reader tells k, s, start state, final set and n", or refuses
abbrev pub reading : Option Refusal → Shape → ℕ → Result (Shape × ℕ) Refusal
reading none h n = Ok (h, n)
reading (some r) h n = Err r

-- its numbers: the refusal's number, or 0; place, k, s, start, final set, n
abbrev pub reading_code : Result (Shape × ℕ) Refusal → ℕ
reading_code = answer_code

abbrev pub reading_told : Result (Shape × ℕ) Refusal → List ℕ
reading_told = answer_told 5 (λ (h, n). h.k ∷ h.s ∷ h.start ∷ h.finals ∷ n ∷ [])

-- "a lent … buffer": l from its start, "further elements unchanged"; refused, it is as before
abbrev pub filled : Option Refusal → List ℕ → List ℕ → List ℕ
filled r l before = unless r (l ++ drop (length l) before) before

-- what the reader promises: its answer, and each lent buffer afterwards
abbrev pub Reads : List ℕ → List ℕ → List ℕ → List ℕ → List ℕ → Result (Shape × ℕ) Refusal → Type 0
Reads f masks masks' moves moves' r =
    let q = read_refusal f (length masks) (length moves) in
    (r ≡ reading q (file_shape f) (log_length f)) × (masks' ≡ filled q (file_masks f) masks) × (moves' ≡ filled q (file_moves f) moves)

-- where the log section stands: its first place and its length, or the refusal
abbrev pub located : Option Refusal → ℕ → ℕ → Result (ℕ × ℕ) Refusal
located none i n = Ok (i, n)
located (some r) i n = Err r

abbrev pub log_location : List ℕ → Result (ℕ × ℕ) Refusal
log_location f = located (lowest (file_refusals f)) (section f log_byte) (log_length f)

-- its numbers: the refusal's number, or 0; place, the section's first place, its length
abbrev pub located_code : Result (ℕ × ℕ) Refusal → ℕ
located_code = answer_code

abbrev pub located_told : Result (ℕ × ℕ) Refusal → List ℕ
located_told = answer_told 2 (λ (i, n). i ∷ n ∷ [])

-- "handed back as that part of the file"; "A file refused by 1 to 8 hands back an empty part"
abbrev pub log_part_of : List ℕ → List ℕ
log_part_of f = unless (lowest (file_refusals f)) (file_log f) []
