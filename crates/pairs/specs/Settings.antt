-- A table whose records have the counts of a log's prefixes. What a call is lent has it as a ghost field, so it stands apart from what is told of that. And
-- which sets are right, of any log: Pairs says it of what a call is lent.
use Rattle.std.specs.Prelude.{◌≡◌, ◌⊎◌, ◌↔◌, List, [], ℕ, ◌+◌, ◌*◌, ◌≤◌, ◌<◌, T, length, get_or}
use Rattle.profile.specs.Limits.{most_records}
use Rattle.profile.specs.Traces.{bit, independent}
use Rattle.profile.specs.Tables.{layout, packed, record_length}
use Rattle.theory.proofs.Refusals.{GoodLog, Relation}
use Rattle.records.specs.Records.{counts_at}
use Rattle.grammars.specs.Grammars.{grammar_of}
use Rattle.grammars.proofs.Spans.{Between}
use Rattle.grammars.proofs.Places.{counts_of, listed}

-- a table whose records have the counts of the prefixes of the log w
pub record Setting (k : ℕ) (masks w table : List ℕ) (records : ℕ) : Type 0 where
  pub relation : Relation k masks
  pub log : GoodLog k w
  pub whole : records ≡ length (listed (independent masks) k w)
  pub few : records ≤ most_records
  pub fits : record_length layout * records ≤ length table
  pub held : (j : ℕ) → j < records → counts_at table j ≡ packed layout (get_or (listed (independent masks) k w) j [])

-- S is the set of the names that derive some order of the events between the prefixes of the records i and j
abbrev pub Right : ℕ → List ℕ → List ℕ → List ℕ → ℕ → ℕ → ℕ → Type 0
Right k masks rules w i j S = (n : ℕ) → T (bit S n) ↔ Between (independent masks) (grammar_of rules) w (counts_of (independent masks) k w i) (counts_of (independent masks) k w j) n

-- the set of the pair is right at both of its places
abbrev pub Both : ℕ → List ℕ → List ℕ → List ℕ → ℕ → List ℕ → ℕ → ℕ → Type 0
Both k masks rules w records sets a b = Right k masks rules w a b (get_or sets (a * records + b) 0) × Right k masks rules w a b (get_or sets (b * records + a) 0)

-- the pairs up to record j are right, and those of it with the records from i on
abbrev pub Known : ℕ → List ℕ → List ℕ → List ℕ → ℕ → List ℕ → ℕ → ℕ → Type 0
Known k masks rules w records sets j i = (a b : ℕ) → a < b → (b < j) ⊎ ((b ≡ j) × (i ≤ a)) → Both k masks rules w records sets a b
