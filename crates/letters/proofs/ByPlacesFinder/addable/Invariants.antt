-- The `addable` of `ByPlaces` meets its contract. The loop's invariant: the letters below x are done.
use mathlib.Core.Path.{◌≡◌}
use Prim.Native.Nat.{◌^◌, ◌≤◌}
use lib.ListN.{length}
use Rattle.profile.specs.Automata.{union}
use Rattle.profile.specs.Lists.{below, filter}
use Rattle.profile.specs.Traces.{independent}
use Rattle.events.specs.Events.{comes_next?}
use Rattle.letters.proofs.ByPlacesFinder.addable.Given as goal

abbrev pub invariant-loop-x : goal.invariant-loop-x
invariant-loop-x l =
    (l.end ≡ l.keepers.k) × (l.number ≤ l.x) × (l.set ≡ union (λ y. 2 ^ y) (filter (comes_next? (independent l.keepers.masks.now) l.keepers.k l.self.n l.next) (below l.x)))
    × (l.number ≡ length (filter (comes_next? (independent l.keepers.masks.now) l.keepers.k l.self.n l.next) (below l.x)))
