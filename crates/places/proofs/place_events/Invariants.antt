-- `places::place_events` meets its contract. The loop's invariant: the letters below x are done.
use mathlib.Core.Path.{◌≡◌}
use mathlib.Core.List.{◌++◌, map}
use lib.ListN.{length, drop}
use Rattle.profile.specs.Lists.{below}
use Rattle.places.specs.Places.{place_start, place_table}
use Rattle.places.proofs.place_events.Given as goal

abbrev pub invariant-loop-x : goal.invariant-loop-x
invariant-loop-x l =
    (l.at ≡ length (place_table l.x l.log)) × (length l.starts ≡ length l.initial.starts) × (length l.places ≡ length l.initial.places)
    × (l.starts ≡ map (place_start l.log) (below l.x) ++ drop l.x l.initial.starts) × (l.places ≡ place_table l.x l.log ++ drop (length (place_table l.x l.log)) l.initial.places)
