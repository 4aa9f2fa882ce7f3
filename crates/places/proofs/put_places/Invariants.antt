-- `places::put_places` meets its contract. The loop's invariant: what is left to put leads to the same places, and ends at the same place.
use mathlib.Core.Path.{◌≡◌}
use Prim.Native.Nat.{◌+◌}
use lib.ListN.{length, drop}
use lib.Seq.{sets}
use Rattle.places.specs.Places.{places_from, places_of}
use Rattle.places.proofs.put_places.Given as goal

abbrev pub invariant-loop-i : goal.invariant-loop-i
invariant-loop-i l =
    (sets l.places l.to (places_from l.i l.x (drop l.i l.log)) ≡ sets l.initial.places l.at (places_of l.log l.x))
    × (l.to + length (places_from l.i l.x (drop l.i l.log)) ≡ l.at + length (places_of l.log l.x)) × (length l.places ≡ length l.initial.places)
