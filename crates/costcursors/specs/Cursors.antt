-- Where a cursor stops among records in order, and tables that hold the records of given counts.
use Rattle.std.specs.Prelude.{◌≡◌, not, List, [], ℕ, ◌≤◌, ◌<◌, T, length, get_or}
use Rattle.profile.specs.Limits.{most_letters}
use Rattle.profile.specs.Lists.{Mem}
use Rattle.profile.specs.Tables.{layout, packed}
use Rattle.counts.proofs.Packed.{Small}
use Rattle.records.specs.Records.{counts_at, records_in}
use Rattle.search.specs.Search.{Ordered, stands_before?}

module _ (t c : List ℕ) where
  -- the records before j stand before c; those from j on do not
  abbrev pub Low : ℕ → Type 0
  Low j = (i : ℕ) → i < j → T (stands_before? (counts_at t i) c)

  abbrev pub High : ℕ → Type 0
  High j = (i : ℕ) → j ≤ i → i < records_in t → T (not (stands_before? (counts_at t i) c))

  -- the records before j are those that stand before c
  pub record Splits (j : ℕ) : Type 0 where
    pub inside : j ≤ records_in t
    pub low : Low j
    pub high : High j

-- t has a record for each of the counts l, in their order; counts are one for each of k letters
pub record Lists (t : List ℕ) (k : ℕ) (l : List (List ℕ)) : Type 0 where
  pub letters : k ≤ most_letters
  pub many : records_in t ≡ length l
  pub counts : (j : ℕ) → j < length l → counts_at t j ≡ packed layout (get_or l j [])
  pub long : (c : List ℕ) → Mem c l → length c ≡ k
  pub small : (c : List ℕ) → Mem c l → Small layout c
  pub ordered : Ordered t
