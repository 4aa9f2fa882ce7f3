-- Paper 10: the earliest order of the fewest swaps, letter by letter, from a table of costs.
use Rattle.std.specs.Prelude.{Some as Costs, None as Not, Option as Told, ◌≡◌, Bool, List, [], ℕ, ◌+◌, ◌*◌, ◌≤◌, ◌<◌, T, leb, length, get_or}
use Rattle.std.proofs.Math.Option.{Option, some}
use Rattle.profile.specs.Automata.{Profile, automaton, profile_of}
use Rattle.profile.specs.Lists.{Mem}
use Rattle.profile.specs.Prefixes.{addable?, at, by_total, more}
use Rattle.profile.specs.Tables.{count_field, layout, packed}
use Rattle.profile.specs.Traces.{bit}
use Rattle.profile.specs.declared.Shape.{Shape}
use Rattle.swaps.specs.Closest.{fewest_swaps, order_with, pair_swaps, rest_swaps}
use Rattle.swaps.specs.Swaps.{step_cost}
use Rattle.earliest.specs.Earliest.{with_order}
use Rattle.costcells.specs.Cells.{Least, cell, cost_in, none_cost}
use Rattle.costrows.specs.Rows.{with_step}
use Rattle.costtable.specs.Costs.{Lent}
use Rattle.costwalk.specs.declared.Choice.{Choice}

-- a table of costs has a row of s cells for each of the counts l: in the cell of state q stands f of both
pub record Rows (l : List (List ℕ)) (s : ℕ) (f : List ℕ → ℕ → Option ℕ) (costs : List ℕ) : Type 0 where
  pub room : length l * s ≤ length costs
  pub cells : (i q : ℕ) → i < length l → q < s → cost_in costs (i * s + q) ≡ cell (f (get_or l i []) q)

-- the test of a letter that costs `more`: the least cost of the states S, in the row, and `more` are at most what is left
pub record Tested (costs : List ℕ) (row S more left : ℕ) (b : Bool) : Type 0 where
  pub cost : ℕ
  pub least : Least costs row S cost
  pub told : b ≡ leb (with_step cost more) left

module _ (p : Profile) (may : ℕ → ℕ → Bool) (letter : ℕ → ℕ) (w : List ℕ) where
  -- the fewest swaps to each prefix and state, and from there to an accepted end
  abbrev pub RowsThere : List ℕ → Type 0
  RowsThere costs = Rows (by_total may letter p.k w) p.s (λ c. pair_swaps may letter (automaton p) w (at c)) costs

  abbrev pub RowsOut : List ℕ → Type 0
  RowsOut costs = Rows (by_total may letter p.k w) p.s (λ c. rest_swaps may letter (automaton p) w (at c)) costs

  -- what is taken is a prefix of the events lent, whose counts are the numbers n; the costs are those to an accepted end
  pub record Standing (t log starts places costs n : List ℕ) (left : ℕ) : Type 0 where
    pub lent : Lent p may letter w t log starts places
    pub right : RowsOut costs
    pub counts : List ℕ
    pub prefix : Mem counts (by_total may letter p.k w)
    pub numbers : n ≡ packed layout counts
    pub small : left < none_cost

  -- c are the counts of what is taken, S the states it leads to, and `left` the swaps that are left
  module _ (c : ℕ → ℕ) (S left : ℕ) where
    -- letter x can be taken next, and with it an accepted end is reached for what is left
    abbrev pub Ends : ℕ → Type 0
    Ends x =
        T (addable? may letter w c x)
        × (q m : ℕ) × T (bit ((automaton p).step S x) q) × (rest_swaps may letter (automaton p) w (more c x) q ≡ some m) × (step_cost letter w c x + m ≤ left)

    -- what a try of letter x tells: its cost, or that no end is reached so
    abbrev pub tried : ℕ → Told ℕ → Type 0
    tried x (Costs n) = Ends x × (n ≡ step_cost letter w c x)
    tried x Not = Ends x → ⊥

    -- some letter below k is such
    abbrev pub Some : Type 0
    Some = (x : ℕ) × (x < p.k) × Ends x

    -- the smallest such letter, and its cost
    pub record Chosen (r : Choice) : Type 0 where
      pub below : r.letter < p.k
      pub ends : Ends r.letter
      pub first : (y : ℕ) → y < r.letter → Ends y → ⊥
      pub cost : r.cost ≡ step_cost letter w c r.letter

-- ---- over all events that are lent

module _ (h : Shape) (moves t log starts places costs : List ℕ) where
  -- there are such events
  pub record Stands (n : List ℕ) (left : ℕ) : Type 0 where
    pub masks : List ℕ
    pub may : ℕ → ℕ → Bool
    pub letter : ℕ → ℕ
    pub events : List ℕ
    pub standing : Standing (profile_of h masks moves) may letter events t log starts places costs n left

  abbrev pub Tries : List ℕ → ℕ → ℕ → ℕ → Told ℕ → Type 0
  Tries n S left x r = (masks : List ℕ) (may : ℕ → ℕ → Bool) (letter : ℕ → ℕ) (w : List ℕ)
      → Standing (profile_of h masks moves) may letter w t log starts places costs n left → tried (profile_of h masks moves) may letter w (count_field layout n) S left x r

  -- there are such events, of which some letter can be taken
  pub record Leads (n : List ℕ) (S left : ℕ) : Type 0 where
    pub stands : Stands n left
    pub some : Some (profile_of h stands.masks moves) stands.may stands.letter stands.events (count_field layout n) S left

  abbrev pub Chooses : List ℕ → ℕ → ℕ → Choice → Type 0
  Chooses n S left r = (masks : List ℕ) (may : ℕ → ℕ → Bool) (letter : ℕ → ℕ) (w : List ℕ)
      → Standing (profile_of h masks moves) may letter w t log starts places costs n left
      → Some (profile_of h masks moves) may letter w (count_field layout n) S left
      → Chosen (profile_of h masks moves) may letter w (count_field layout n) S left r

  -- there are such events, the costs are those to an accepted end, and n are the fewest swaps of an accepted order
  pub record Known (n : ℕ) : Type 0 where
    pub masks : List ℕ
    pub may : ℕ → ℕ → Bool
    pub letter : ℕ → ℕ
    pub events : List ℕ
    pub lent : Lent (profile_of h masks moves) may letter events t log starts places
    pub right : RowsOut (profile_of h masks moves) may letter events costs
    pub fewest : fewest_swaps may letter (automaton (profile_of h masks moves)) events ≡ some n

  -- the earliest order of n swaps is written to the front of the buffer `before`, which is `after`
  abbrev pub Puts : ℕ → List ℕ → List ℕ → Type 0
  Puts n before after = (masks : List ℕ) (may : ℕ → ℕ → Bool) (letter : ℕ → ℕ) (w : List ℕ)
      → Lent (profile_of h masks moves) may letter w t log starts places → RowsOut (profile_of h masks moves) may letter w costs
      → fewest_swaps may letter (automaton (profile_of h masks moves)) w ≡ some n
      → after ≡ with_order (order_with may letter (automaton (profile_of h masks moves)) w n) before
