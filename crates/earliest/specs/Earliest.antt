-- Document 01, "The judge": the verdict and the order, as they are read from a table that holds the prefixes of the log.
use Rattle.std.specs.Prelude.{◌≡◌, Bool, true, false, not, ◌&&◌, cond, List, ◌++◌, ℕ, suc, ◌*◌, ◌≤◌, ◌<◌, T, ltb, length, drop}
use Rattle.std.proofs.Math.Option.{Option, none, some}
use Rattle.profile.specs.Rules.{Rules, prefixes_by, table_by}
use Rattle.profile.specs.Automata.{meets}
use Rattle.profile.specs.Tables.{layout, record_length}
use Rattle.theory.proofs.Refusals.{GoodEvents, GoodProfile}
use Rattle.counts.specs.Counts.{add_count}
use Rattle.records.specs.Records.{counts_at, last_at, records_in}
use Rattle.search.specs.Search.{has?}
use Rattle.search.proofs.Halves.{Between}

-- the number of prefixes of the log w
abbrev pub record_count : Rules → List ℕ → ℕ
record_count p w = prefixes_by p w

-- the table t holds the prefixes of the log w
pub record Table (p : Rules) (w t : List ℕ) : Type 0 where
  pub profile : GoodProfile p.profile
  pub log : GoodEvents p w
  pub before : List ℕ
  pub holds : t ≡ table_by p w before
  pub room : record_length layout * record_count p w ≤ length t

-- there is an order
abbrev pub found? : Option (List ℕ) → Bool
found? none = false
found? (some v) = true

-- the buffer with the order written to its front; as before where there is none
abbrev pub with_order : Option (List ℕ) → List ℕ → List ℕ
with_order none b = b
with_order (some v) b = v ++ drop (length v) b

-- ---- one letter of the order, behind record j of the table t; S are the states that the letters so far lead to

module _ (step : ℕ → ℕ → ℕ) (t : List ℕ) (j S : ℕ) where
  -- record r has the counts with one x more, and x leads from states of S into its backward set
  pub record Takes (x r : ℕ) : Type 0 where
    pub inside : r < records_in t
    pub has : T (has? t (add_count layout (counts_at t j) x) r)
    pub leads : T (meets (step S x) (last_at t r))

  -- some letter below k is such
  abbrev pub Some : ℕ → Type 0
  Some k = (x r : ℕ) × (x < k) × Takes x r

  -- x is the smallest such letter, with the states R that it leads to
  pub record Smallest (k x r R : ℕ) : Type 0 where
    pub below : x < k
    pub takes : Takes x r
    pub behind : j < r
    pub states : R ≡ step S x
    pub first : (y i : ℕ) → y < x → Takes y i → ⊥

-- the states R where record r has the counts c and R meets its backward set; else none
abbrev pub led : List ℕ → List ℕ → ℕ → ℕ → ℕ
led t c R r = cond ((ltb r (records_in t) && has? t c r) && meets R (last_at t r)) R 0

-- the counts c belong behind record j and before record e: no record from e on has them
pub record Enclosed (t c : List ℕ) (j e : ℕ) : Type 0 where
  pub behind : j < e
  pub inside : e ≤ records_in t
  pub between : Between t c (suc j) e
  pub barred : (i : ℕ) → e ≤ i → i < records_in t → T (not (has? t c i))
