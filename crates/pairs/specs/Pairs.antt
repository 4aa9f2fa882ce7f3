-- Document 02, Paper 13: "one for each pair of prefixes". What the contracts of the second table cite. The set of the pair of the records i and j, i before j,
-- stands at place i × P + j, and again at j × P + i, so that both the sets up to a record and those from it stand in a row.
use Rattle.std.specs.Prelude.{◌⊎◌, ◌↔◌, List, ℕ, ◌*◌, ◌≤◌, ◌<◌, T, length, get_or, drop}
use Rattle.profile.specs.Traces.{bit, independent}
use Rattle.grammars.specs.Grammars.{grammar_of}
use Rattle.grammars.proofs.Spans.{Between as BetweenCounts, Spans as SpansCounts}
use Rattle.grammars.proofs.Places.{counts_of, total_of}
use Rattle.pairs.specs.declared.nested.Nested.{Nested}
use Rattle.pairs.specs.Settings.{Both as BothOf, Known as KnownOf, Right as RightOf}

-- the counts of the prefix of record i, and their total
abbrev pub counts_in : Nested → ℕ → ℕ → ℕ
counts_in on i = counts_of (independent on.grammar.masks.now) on.grammar.k on.log.now i

abbrev pub total_in : Nested → ℕ → ℕ
total_in on i = total_of (independent on.grammar.masks.now) on.grammar.k on.log.now i

-- u is an order of the events between the prefixes of the records i and j that can be derived from the name n; there is one
abbrev pub Spans : Nested → ℕ → ℕ → ℕ → List ℕ → Type 0
Spans on i j n u = SpansCounts (independent on.grammar.masks.now) (grammar_of on.grammar.rules.now) on.log.now (counts_in on i) (counts_in on j) n u

abbrev pub Between : Nested → ℕ → ℕ → ℕ → Type 0
Between on i j n = BetweenCounts (independent on.grammar.masks.now) (grammar_of on.grammar.rules.now) on.log.now (counts_in on i) (counts_in on j) n

-- S is the set of the names that derive some order of the events between the prefixes of the records i and j
abbrev pub Right : Nested → ℕ → ℕ → ℕ → Type 0
Right on i j S = RightOf on.grammar.k on.grammar.masks.now on.grammar.rules.now on.log.now i j S

-- the set of the pair is right at both of its places
abbrev pub Both : Nested → List ℕ → ℕ → ℕ → Type 0
Both on sets a b = BothOf on.grammar.k on.grammar.masks.now on.grammar.rules.now on.log.now on.records sets a b

-- the pairs up to record j are right, and those of it with the records from i on
abbrev pub Known : Nested → List ℕ → ℕ → ℕ → Type 0
Known on sets j i = KnownOf on.grammar.k on.grammar.masks.now on.grammar.rules.now on.log.now on.records sets j i

-- there is a place for each pair
abbrev pub Room : Nested → List ℕ → Type 0
Room on sets = on.records * on.records ≤ length sets

-- all are right
pub record AllKnown (on : Nested) (sets : List ℕ) : Type 0 where
  pub room : Room on sets
  pub right : (a b : ℕ) → a < b → b < on.records → Both on sets a b

-- what is gathered from the rows a and b, from place `from` to before place `to`
pub record Gathered (a b : List ℕ) (from to : ℕ) (before after : List ℕ) : Type 0 where
  pub given : (l r : ℕ) → T (bit (get_or after l 0) r)
      → T (bit (get_or before l 0) r) ⊎ ((m : ℕ) × (from ≤ m) × (m < to) × T (bit (get_or a m 0) l) × T (bit (get_or b m 0) r))
  pub kept : (l r : ℕ) → T (bit (get_or before l 0) r) → T (bit (get_or after l 0) r)
  pub added : (l r m : ℕ) → from ≤ m → m < to → T (bit (get_or a m 0) l) → T (bit (get_or b m 0) r) → T (bit (get_or after l 0) r)

-- two parts of the name n meet at place m of the rows a and b
abbrev pub Meets : List ℕ → List ℕ → List ℕ → ℕ → ℕ → ℕ → ℕ → Type 0
Meets rules a b n m l r = T ((grammar_of rules).two n l r) × T (bit (get_or a m 0) l) × T (bit (get_or b m 0) r)

-- … of the rows of the records i and j in the sets
abbrev pub Meet : Nested → List ℕ → ℕ → ℕ → ℕ → ℕ → ℕ → ℕ → Type 0
Meet on sets i j n m l r = Meets on.grammar.rules.now (drop (i * on.records) sets) (drop (j * on.records) sets) n m l r

-- S is the set of the names with two parts that meet at a place between
abbrev pub JoinedIs : List ℕ → List ℕ → List ℕ → ℕ → ℕ → ℕ → Type 0
JoinedIs rules a b from to S = (n : ℕ) → T (bit S n) ↔ ((m l r : ℕ) × (from ≤ m) × (m < to) × Meets rules a b n m l r)
