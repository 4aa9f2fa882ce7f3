-- `order::first_places` meets its contract. The loop's invariant: the elements before x are stored, the others as before.
use mathlib.Core.Path.{◌≡◌}
use mathlib.Core.List.{◌++◌, map}
use Prim.Native.Nat.{◌+◌, ◌≤◌}
use lib.ListN.{length, get_or, drop}
use Rattle.profile.specs.Lists.{below}
use Rattle.order.proofs.first_places.Given as goal

abbrev pub invariant-loop-x : goal.invariant-loop-x
invariant-loop-x l = (l.x ≤ length l.initial.next) × (length l.next ≡ length l.initial.next) × (l.next ≡ map (λ x. get_or l.placed.places.now (get_or l.placed.starts.now x 0 + 0) 0) (below l.x) ++ drop l.x l.initial.next)
