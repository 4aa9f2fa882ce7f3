-- The step from one total to the next, by a merge: t is the part of the table with the records of one total, in the order of their counts; cs has a cursor
-- for each letter, the index of a record of t.
use Rattle.std.specs.Prelude.{Some, None, Option as Optional, cond, List, ℕ, zero, suc, ◌-◌, ◌^◌, ltb, get_or}
use Rattle.std.proofs.Math.Option.{Option, none, some}
use Rattle.std.specs.Int.Bits.{bit_and, bit_or}
use Rattle.profile.specs.Lists.{below, equal?, filter}
use Rattle.profile.specs.Traces.{bit}
use Rattle.profile.specs.Automata.{forward_step, union}
use Rattle.profile.specs.Prefixes.{at}
use Rattle.profile.specs.Tables.{layout}
use Rattle.counts.specs.Counts.{add_count, before?, words}
use Rattle.records.specs.Records.{counts_at, forward_at, last_at, records_in}
use Rattle.counts.specs.declared.Counts.{Counts}

-- the counts of record j with one x more
abbrev pub grown : List ℕ → ℕ → ℕ → List ℕ
grown t j x = add_count layout (counts_at t j) x

-- the counts at the cursor of x, with one x more: none where the cursor is at the end
abbrev pub candidate : List ℕ → ℕ → ℕ → Option (List ℕ)
candidate t j x = cond (ltb j (records_in t)) (some (grown t j x)) none

-- the earlier of two counts, the first where they are the same
abbrev pub better : Option (List ℕ) → Option (List ℕ) → Option (List ℕ)
better none o = o
better (some b) none = some b
better (some b) (some c) = some (cond (before? layout c b) c b)

-- the least candidate of the letters below k; none where every cursor is at the end
abbrev pub least_of : List ℕ → ℕ → List ℕ → Option (List ℕ)
least_of t zero cs = none
least_of t (suc x) cs = better (least_of t x cs) (candidate t (at cs x) x)

-- the letters whose candidate is the least: S are those for the least b, and x comes with its candidate c
abbrev pub joined : Option (List ℕ) → Option (List ℕ) → ℕ → ℕ → ℕ
joined none o S x = S
joined (some c) none S x = 2 ^ x
joined (some c) (some b) S x = cond (equal? c b) (bit_or S (2 ^ x)) (cond (before? layout c b) (2 ^ x) S)

abbrev pub givers : List ℕ → ℕ → List ℕ → ℕ
givers t zero cs = 0
givers t (suc x) cs = joined (candidate t (at cs x) x) (least_of t x cs) (givers t x cs) x

-- what the code answers for them
abbrev pub least_words : Optional (Counts × ℕ) → Option (List ℕ)
least_words None = none
least_words (Some l) = some (words l.0)

abbrev pub least_letters : Optional (Counts × ℕ) → ℕ
least_letters None = 0
least_letters (Some l) = l.1

-- the union, over the letters of G, of the states to which the letter leads from the forward set of the record at its cursor
abbrev pub united : ℕ → ℕ → List ℕ → List ℕ → List ℕ → ℕ → ℕ
united k s moves t cs G = union (λ x. forward_step k s moves (forward_at t (at cs x)) x) (filter (bit G) (below k))

-- the letters that can be added to record j, as the lower half of its last number has them, x aside
abbrev pub other_letters : List ℕ → ℕ → ℕ → ℕ
other_letters t j x = bit_and (bit_and (last_at t j) 65535) (2 ^ 32 - 1 - 2 ^ x)

-- the unions, over the letters of G, of the letters that can be added to the record at the letter's cursor, that letter aside; and of their masks
abbrev pub inherited : ℕ → List ℕ → List ℕ → ℕ → ℕ
inherited k t cs G = union (λ x. other_letters t (at cs x) x) (filter (bit G) (below k))

abbrev pub passing : ℕ → List ℕ → ℕ → ℕ
passing k masks G = union (λ x. get_or masks x 0) (filter (bit G) (below k))
