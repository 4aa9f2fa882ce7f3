-- Paper 10: what the order is made from.
use Rattle.std.specs.Prelude.{◌≡◌, Bool, List, map, ℕ, ◌*◌, ◌≤◌, length}
use Rattle.std.proofs.Math.Option.{some}
use Rattle.profile.specs.Automata.{automaton, profile_of}
use Rattle.profile.specs.Rules.{Rules}
use Rattle.profile.specs.declared.Shape.{Shape}
use Rattle.theory.proofs.Refusals.{GoodEvents, GoodProfile}
use Rattle.records.specs.Drafts.{filled, in_order}
use Rattle.records.specs.Records.{records_in}
use Rattle.earliest.specs.Earliest.{with_order}
use Rattle.swaps.specs.Closest.{fewest_swaps, order_with}
use Rattle.costtable.specs.Costs.{Lent}

-- t has the records of all prefixes of the events w, and nothing else; the log has the letters of these events
pub record Held (p : Rules) (w log t : List ℕ) : Type 0 where
  pub profile : GoodProfile p.profile
  pub events : GoodEvents p w
  pub letters : map p.letter w ≡ log
  pub exact : t ≡ filled p w (in_order p w)

module _ (h : Shape) (moves t log starts places : List ℕ) where
  -- there are events with these records and places, n are the fewest swaps of an accepted order of them, and the cost table has place for all prefixes
  pub record Best (costs : List ℕ) (n : ℕ) : Type 0 where
    pub masks : List ℕ
    pub may : ℕ → ℕ → Bool
    pub letter : ℕ → ℕ
    pub events : List ℕ
    pub lent : Lent (profile_of h masks moves) may letter events t log starts places
    pub fewest : fewest_swaps may letter (automaton (profile_of h masks moves)) events ≡ some n
    pub room : records_in t * h.s ≤ length costs

  -- whatever events have them, the earliest order of n swaps is written to the front of the buffer `before`, which is `after`
  abbrev pub PutsBest : ℕ → List ℕ → List ℕ → Type 0
  PutsBest n before after = (masks : List ℕ) (may : ℕ → ℕ → Bool) (letter : ℕ → ℕ) (w : List ℕ)
      → Lent (profile_of h masks moves) may letter w t log starts places → fewest_swaps may letter (automaton (profile_of h masks moves)) w ≡ some n
      → after ≡ with_order (order_with may letter (automaton (profile_of h masks moves)) w n) before
