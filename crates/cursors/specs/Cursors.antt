-- The cursors of a total: t is the part of the table with the records of one total, the last number of each with the letters that can be added in its lower
-- half; cs has a cursor for each letter, the index of a record of t.
use Rattle.std.specs.Prelude.{cond, List, ◌++◌, map, ℕ, suc, ◌+◌, ◌-◌, ◌<◌, T, drop}
use Rattle.profile.specs.Lists.{below, first_place, range}
use Rattle.profile.specs.Traces.{bit}
use Rattle.profile.specs.Prefixes.{at}
use Rattle.records.specs.Records.{last_at, records_in}

-- the first record from j on to which letter x can be added; the number of records where there is none
abbrev pub seek_from : List ℕ → ℕ → ℕ → ℕ
seek_from t j x = j + first_place (λ i. bit (last_at t i) x) (range j (records_in t - j))

-- the cursor of each letter of G is at a record
abbrev pub Given : ℕ → List ℕ → List ℕ → ℕ → Type 0
Given k t cs G = (x : ℕ) → x < k → T (bit G x) → at cs x < records_in t

-- the cursors, where those of the letters of G have moved on to the next record to which their letter can be added
abbrev pub moved_on : List ℕ → ℕ → ℕ → ℕ → ℕ
moved_on t j x G = cond (bit G x) (seek_from t (suc j) x) j

abbrev pub advanced : ℕ → List ℕ → List ℕ → ℕ → List ℕ
advanced k t cs G = map (λ x. moved_on t (at cs x) x G) (below k) ++ drop k cs

-- the cursors at the first record to which their letter can be added
abbrev pub started : ℕ → List ℕ → List ℕ → List ℕ
started k t cs = map (seek_from t 0) (below k) ++ drop k cs
