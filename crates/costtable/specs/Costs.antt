-- Paper 10: what a pass over the cost table is lent, and the costs that it leaves there. Row i of the table is that of prefix i, with one cell for each state.
use Rattle.std.specs.Prelude.{◌≡◌, Bool, ◌≢◌, List, [], map, ℕ, ◌+◌, ◌*◌, ◌≤◌, ◌<◌, T, length, get_or}
use Rattle.std.proofs.Math.Option.{Option}
use Rattle.profile.specs.Automata.{Profile, automaton, profile_of}
use Rattle.profile.specs.Prefixes.{at, by_total}
use Rattle.profile.specs.declared.Shape.{Shape}
use Rattle.theory.proofs.Refusals.{GoodProfile}
use Rattle.records.specs.Records.{records_in}
use Rattle.swaps.specs.Closest.{pair_swaps, rest_swaps}
use Rattle.stepcost.specs.StepCosts.{Placed}
use Rattle.costcells.specs.Cells.{cell, cost_in}
use Rattle.costcursors.specs.Cursors.{Lists}

-- a good profile p, the events w and which of them may be exchanged; their letters are those of the log, with the places of each letter's events; t has
-- the records of all prefixes
pub record Lent (p : Profile) (may : ℕ → ℕ → Bool) (letter : ℕ → ℕ) (w t log starts places : List ℕ) : Type 0 where
  pub profile : GoodProfile p
  pub apart : (a b : ℕ) → T (may a b) → letter a ≢ letter b
  pub letters : map letter w ≡ log
  pub placed : Placed p.k log starts places
  pub records : Lists t p.k (by_total may letter p.k w)

-- there are such events, and the cost table has place for all prefixes
pub record Given (h : Shape) (moves t log starts places costs : List ℕ) : Type 0 where
  pub masks : List ℕ
  pub may : ℕ → ℕ → Bool
  pub letter : ℕ → ℕ
  pub events : List ℕ
  pub lent : Lent (profile_of h masks moves) may letter events t log starts places
  pub room : records_in t * h.s ≤ length costs

-- `before` became `after`: in the row of each of the counts l, the cell of each state q below s has f of both; what stands behind these rows stays
pub record Filled (l : List (List ℕ)) (s : ℕ) (f : List ℕ → ℕ → Option ℕ) (before after : List ℕ) : Type 0 where
  pub as_long : length after ≡ length before
  pub cells : (i q : ℕ) → i < length l → q < s → cost_in after (i * s + q) ≡ cell (f (get_or l i []) q)
  pub behind : (j : ℕ) → length l * s ≤ j → cost_in after j ≡ cost_in before j

module _ (p : Profile) (may : ℕ → ℕ → Bool) (letter : ℕ → ℕ) (w : List ℕ) where
  -- "the fewest swaps with which that prefix, brought to the front, leads to that state", for all pairs
  abbrev pub There : List ℕ → List ℕ → Type 0
  There = Filled (by_total may letter p.k w) p.s (λ c. pair_swaps may letter (automaton p) w (at c))

  -- the fewest swaps of the events that are left, from that state to a final one, for all pairs
  abbrev pub Rest : List ℕ → List ℕ → Type 0
  Rest = Filled (by_total may letter p.k w) p.s (λ c. rest_swaps may letter (automaton p) w (at c))

-- whatever events are lent, the costs of their pairs are filled in
abbrev pub FillsThere : Shape → (moves t log starts places before after : List ℕ) → Type 0
FillsThere h moves t log starts places before after = (masks : List ℕ) (may : ℕ → ℕ → Bool) (letter : ℕ → ℕ) (w : List ℕ)
    → Lent (profile_of h masks moves) may letter w t log starts places → There (profile_of h masks moves) may letter w before after

abbrev pub FillsRest : Shape → (moves t log starts places before after : List ℕ) → Type 0
FillsRest h moves t log starts places before after = (masks : List ℕ) (may : ℕ → ℕ → Bool) (letter : ℕ → ℕ) (w : List ℕ)
    → Lent (profile_of h masks moves) may letter w t log starts places → Rest (profile_of h masks moves) may letter w before after
