-- The records of all prefixes of a log; a record among records in order, and one more of a letter in its counts.
use Rattle.std.specs.Prelude.{◌≡◌, Bool, ◌≢◌, List, ℕ, ◌≤◌, ◌<◌, T, length}
use Rattle.profile.specs.Limits.{longest, most_letters}
use Rattle.profile.specs.Prefixes.{by_total}
use Rattle.profile.specs.Tables.{layout, packed}
use Rattle.profile.specs.Traces.{letters_below}
use Rattle.theory.proofs.Levels.{bump}
use Rattle.counts.proofs.Packed.{Small}
use Rattle.records.specs.Records.{counts_at, records_in}
use Rattle.search.specs.Search.{Ordered}
use Rattle.costcursors.specs.Cursors.{Lists}

-- record j of t has a count for each of k letters, and each count may grow by one
pub record Stands (t : List ℕ) (k j : ℕ) : Type 0 where
  pub ordered : Ordered t
  pub inside : j < records_in t
  pub counts : List ℕ
  pub numbers : counts_at t j ≡ packed layout counts
  pub long : length counts ≡ k
  pub letters : k ≤ most_letters
  pub small : Small layout counts
  pub room : (x : ℕ) → x < k → Small layout (bump counts x)

-- t has the records of all prefixes of w, which has events of k letters only, no more than a log may have
pub record Recorded (may : ℕ → ℕ → Bool) (letter : ℕ → ℕ) (k : ℕ) (w t : List ℕ) : Type 0 where
  pub below_k : T (letters_below letter k w)
  pub short : length w ≤ longest
  pub apart : (a b : ℕ) → T (may a b) → letter a ≢ letter b
  pub records : Lists t k (by_total may letter k w)
