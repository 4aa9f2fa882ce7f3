-- An order that can be derived, written in its place: what the contract cites.
use Rattle.std.specs.Prelude.{◌≡◌, List, ◌++◌, ℕ, ◌+◌, length, take, drop}
use Rattle.pairs.specs.declared.nested.Nested.{Nested}
use Rattle.pairs.specs.Pairs.{Spans, total_in}

-- the letters u put in place of those from place t on
abbrev pub splice : List ℕ → ℕ → List ℕ → List ℕ
splice before t u = take t before ++ (u ++ drop (t + length u) before)

-- an order of the events between the prefixes of the records i and j that can be derived from the name n is written, at their places
pub record Written (on : Nested) (i j n : ℕ) (before after : List ℕ) : Type 0 where
  pub word : List ℕ
  pub spans : Spans on i j n word
  pub written : after ≡ splice before (total_in on i) word
