-- Document 01, "Prefixes and their table": the record of a prefix, and the table of a log.
use Rattle.std.specs.Prelude.{Bool, List, [], ◌∷◌, ◌++◌, map, ℕ, ◌+◌, ◌*◌, ◌/◌, ◌%◌, ◌^◌, min, get_or, take, drop}
use Rattle.profile.specs.Limits.{count_bits, count_numbers, counts_per_number, usable_numbers}
use Rattle.profile.specs.Lists.{below, flat_map}
use Rattle.profile.specs.Automata.{Automaton}
use Rattle.profile.specs.Prefixes.{at, backward, by_total, forward, prefix_count}

-- how a record holds its counts: the bits of a count, the counts in one number, and how many numbers hold counts
pub record Layout : Type 0 where
  pub width : ℕ
  pub per : ℕ
  pub numbers : ℕ

-- "counts take 16 bits, and a record takes ten numbers: eight with two counts each"
abbrev pub layout : Layout
layout = record { width = count_bits; per = counts_per_number; numbers = count_numbers }

-- "a record takes ten numbers": the counts, "then forward and backward"
abbrev pub record_length : Layout → ℕ
record_length L = L.numbers + 2

-- "letter i in number i div 2, the even letter in the low half": its count in a record
abbrev pub count_field : Layout → List ℕ → ℕ → ℕ
count_field L t i = get_or t (i / L.per) 0 / 2 ^ (L.width * (i % L.per)) % 2 ^ L.width

-- one number of counts, the first count lowest
abbrev pub pack : ℕ → List ℕ → ℕ
pack width [] = 0
pack width (n ∷ c) = n + 2 ^ width * pack width c

-- the numbers of counts; letters past the end of c have 0
abbrev pub packed : Layout → List ℕ → List ℕ
packed L c = map (λ j. pack L.width (take L.per (drop (j * L.per) c))) (below L.numbers)

-- the record of a prefix: its counts, then "forward" and "backward"
abbrev pub record_of : Layout → (ℕ → ℕ → Bool) → (ℕ → ℕ) → Automaton → List ℕ → List ℕ → List ℕ
record_of L may letter M w c = packed L c ++ (forward may letter M w (at c) ∷ backward may letter M w (at c) ∷ [])

-- "Every prefix has one record, in rising order of total count"; "Within one total, records now stand by their counts" (document 02, Paper 5). "Numbers
-- past record P − 1 are not written": what the table `before` becomes
abbrev pub table_of : Layout → (ℕ → ℕ → Bool) → (ℕ → ℕ) → Automaton → ℕ → List ℕ → List ℕ → List ℕ
table_of L may letter M k w before =
    flat_map (record_of L may letter M w) (by_total may letter k w) ++ drop (record_length L * prefix_count may letter k w) before

-- "a rest below" ten, "and all numbers past the first 4,294,967,292, are unused": the records that a table of n numbers has place for
abbrev pub capacity : Layout → ℕ → ℕ
capacity L n = min n usable_numbers / record_length L
