-- Document 01, "Prefixes and their table": the numbers of counts of a record.
use Rattle.std.specs.Prelude.{ℕ, ◌+◌, ◌*◌, ◌/◌, ◌%◌, ◌^◌, Bool, not, List, [], ◌∷◌, map, nat_eq, slice_index, slice_set}
use Rattle.profile.specs.Lists.{all, below}
use Rattle.profile.specs.Orders.{no_later?}
use Rattle.profile.specs.Tables.{Layout, count_field}
use Rattle.counts.specs.declared.Counts.{Counts}

-- the numbers of counts of a record
abbrev pub words : Counts → List ℕ
words c = c.w0 ∷ c.w1 ∷ c.w2 ∷ c.w3 ∷ c.w4 ∷ c.w5 ∷ c.w6 ∷ c.w7 ∷ []

-- the counts of all letters that numbers of counts hold
abbrev pub counts_in : Layout → List ℕ → List ℕ
counts_in L t = map (count_field L t) (below (L.per * L.numbers))

-- one more of letter a, in the numbers of counts; a number does not carry past its 32 bits
abbrev pub add_count : Layout → List ℕ → ℕ → List ℕ
add_count L t a = slice_set t (a / L.per) ((slice_index t (a / L.per) + 2 ^ (L.width * (a % L.per))) % 2 ^ 32)

-- Paper 3: "'equal' exactly when every letter's two counts are equal"
abbrev pub every_equal? : Layout → List ℕ → List ℕ → Bool
every_equal? L t u = all (λ i. nat_eq (count_field L t i) (count_field L u i)) (below (L.per * L.numbers))

-- the counts t stand before the counts u: letter 0 first, the smaller first
abbrev pub before? : Layout → List ℕ → List ℕ → Bool
before? L t u = not (no_later? (counts_in L u) (counts_in L t))

-- the count at place x of the number w; all its counts
unfoldable pub word_count : Layout → ℕ → ℕ → ℕ
word_count L w x = w / 2 ^ (L.width * x) % 2 ^ L.width

abbrev pub word_counts : Layout → ℕ → List ℕ
word_counts L w = map (word_count L w) (below L.per)
