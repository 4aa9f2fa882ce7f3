-- Document 01, "Prefixes and their table": the records of a part of the table, by their index in it.
use Rattle.std.specs.Prelude.{List, ◌++◌, map, ℕ, ◌+◌, ◌*◌, ◌/◌, length, get_or, take, drop}
use Rattle.profile.specs.Lists.{below}
use Rattle.profile.specs.Tables.{layout, record_length}

-- the numbers of counts of record j; its forward number; its last number
abbrev pub counts_at : List ℕ → ℕ → List ℕ
counts_at t j = map (λ i. get_or t (record_length layout * j + i) 0) (below layout.numbers)

abbrev pub forward_at : List ℕ → ℕ → ℕ
forward_at t j = get_or t (record_length layout * j + layout.numbers) 0

abbrev pub last_at : List ℕ → ℕ → ℕ
last_at t j = get_or t (record_length layout * j + (layout.numbers + 1)) 0

-- the numbers of one record, put in place of record j
abbrev pub put_record : List ℕ → ℕ → List ℕ → List ℕ
put_record t j v = take (record_length layout * j) t ++ (v ++ drop (record_length layout * j + record_length layout) t)

-- how many records t has
abbrev pub records_in : List ℕ → ℕ
records_in t = length t / record_length layout
