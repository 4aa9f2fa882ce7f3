-- The `addable` of `InTerms` meets its contract. The loop's invariant: the letters below x are done.
use mathlib.Core.Path.{◌≡◌}
use mathlib.Core.Bool.{Bool, ◌&&◌}
use mathlib.Core.List.{List}
use Prim.Native.Nat.{ℕ, ◌^◌, ◌≤◌}
use lib.ListN.{length}
use Rattle.profile.specs.Automata.{union}
use Rattle.profile.specs.Lists.{below, filter}
use Rattle.profile.specs.Traces.{independent}
use Rattle.events.specs.Events.{comes_next?}
use Rattle.term_events.specs.InTerms.{in_term?}
use Rattle.term_letters.proofs.InTermsFinder.addable.Given as goal

-- the test of the loop
abbrev pub passes : (ℕ → ℕ → Bool) → ℕ → ℕ → List ℕ → List ℕ → ℕ → Bool
passes may k n next after x = comes_next? may k n next x && in_term? k next after x

abbrev pub invariant-loop-x : goal.invariant-loop-x
invariant-loop-x l =
    (l.number ≤ l.x) × (l.set ≡ union (λ y. 2 ^ y) (filter (passes (independent l.keepers.masks.now) l.keepers.k l.self.n l.next l.after) (below l.x)))
    × (l.number ≡ length (filter (passes (independent l.keepers.masks.now) l.keepers.k l.self.n l.next l.after) (below l.x)))
