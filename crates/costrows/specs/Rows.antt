-- Paper 10: one letter leads on, from the row of a prefix to that of the prefix with this letter more, or back. A row has one cell for each state.
use Rattle.std.specs.Prelude.{◌≡◌, ◌⊎◌, List, ℕ, ◌+◌, ◌≤◌, ◌<◌, ◌^◌, min, T, length}
use Rattle.profile.specs.Limits.{most_letters, most_states}
use Rattle.profile.specs.Automata.{row}
use Rattle.profile.specs.Traces.{bit}
use Rattle.costcells.specs.Cells.{cost_in, none_cost}

-- two rows of s cells in the table t, one behind the other; no move of letter x leads to a state from s on
pub record Rows (t : List ℕ) (from to k s : ℕ) (moves : List ℕ) (x : ℕ) : Type 0 where
  pub letters : k ≤ most_letters
  pub letter : x < k
  pub states : s ≤ most_states
  pub first : from + s ≤ length t
  pub second : to + s ≤ length t
  pub apart : (from + s ≤ to) ⊎ (to + s ≤ from)
  pub small : (q : ℕ) → q < s → row k moves q x < 2 ^ s

-- what it costs to go on from a cell of cost n
abbrev pub with_step : ℕ → ℕ → ℕ
with_step n more = min (n + more) none_cost

-- t became t': letter x led on from the states below n of the row `from`. Each state it leads to costs no more than that; each cell stays or has such a cost;
-- what is not in the row `to` stays
pub record LedOn (t t' : List ℕ) (from to k s : ℕ) (moves : List ℕ) (x more n : ℕ) : Type 0 where
  pub as_long : length t' ≡ length t
  pub no_more : (j : ℕ) → cost_in t' j ≤ cost_in t j
  pub outside : (j : ℕ) → (j < to) ⊎ (to + s ≤ j) → cost_in t' j ≡ cost_in t j
  pub led : (q r : ℕ) → q < n → T (bit (row k moves q x) r) → cost_in t' (to + r) ≤ with_step (cost_in t (from + q)) more
  pub by : (j : ℕ) → (cost_in t' j ≡ cost_in t j)
      ⊎ ((q r : ℕ) × (q < n) × T (bit (row k moves q x) r) × (j ≡ to + r) × (cost_in t' j ≡ with_step (cost_in t (from + q)) more))

-- t became t': letter x led back to the states below n of the row `from`
pub record LedBack (t t' : List ℕ) (from to k s : ℕ) (moves : List ℕ) (x more n : ℕ) : Type 0 where
  pub as_long : length t' ≡ length t
  pub no_more : (j : ℕ) → cost_in t' j ≤ cost_in t j
  pub outside : (j : ℕ) → (j < from) ⊎ (from + s ≤ j) → cost_in t' j ≡ cost_in t j
  pub led : (q r : ℕ) → q < n → T (bit (row k moves q x) r) → cost_in t' (from + q) ≤ with_step (cost_in t (to + r)) more
  pub by : (j : ℕ) → (cost_in t' j ≡ cost_in t j) ⊎ (cost_in t' j ≡ none_cost)
      ⊎ ((q r : ℕ) × (q < n) × T (bit (row k moves q x) r) × (j ≡ from + q) × (cost_in t' j ≡ with_step (cost_in t (to + r)) more))
