-- Document 02, Paper 5: the order of records, and the search for a prefix by its counts. t is a table or a part of one, c the numbers of counts of a record.
use Rattle.std.specs.Prelude.{Bool, not, cond, List, [], ◌∷◌, ℕ, ◌<◌, T, length, Result, Ok, Err}
use Rattle.profile.specs.Lists.{any, below, equal?, filter, first_place}
use Rattle.profile.specs.Orders.{no_later?}
use Rattle.profile.specs.Prefixes.{ranked}
use Rattle.profile.specs.Tables.{layout}
use Rattle.counts.specs.Counts.{counts_in}
use Rattle.records.specs.Records.{counts_at, records_in}

-- the numbers of an answer: 1 and the record, or 0 and how many records stand before
abbrev pub found_told : Result ℕ ℕ → List ℕ
found_told (Ok i) = 1 ∷ i ∷ []
found_told (Err n) = 0 ∷ n ∷ []

-- "by their counts, the count of letter 0 first, the smaller first", the total before them: c stands before d
abbrev pub stands_before? : List ℕ → List ℕ → Bool
stands_before? c d = not (no_later? (ranked (counts_in layout d)) (ranked (counts_in layout c)))

-- "records in this order": each stands before those behind it
abbrev pub Ordered : List ℕ → Type 0
Ordered t = (i j : ℕ) → i < j → j < records_in t → T (stands_before? (counts_at t i) (counts_at t j))

-- record j "has them"
abbrev pub has? : List ℕ → List ℕ → ℕ → Bool
has? t c j = equal? (counts_at t j) c

-- "how many records stand before its place"
abbrev pub records_before : List ℕ → List ℕ → ℕ
records_before t c = length (filter (λ j. stands_before? (counts_at t j) c) (below (records_in t)))

-- "tells the record that has them, counted from 0, or, exactly when none has, how many records stand before its place"
abbrev pub found_in : List ℕ → List ℕ → Result ℕ ℕ
found_in t c = cond (any (has? t c) (below (records_in t))) (Ok (first_place (has? t c) (below (records_in t)))) (Err (records_before t c))
