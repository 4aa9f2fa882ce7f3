-- `stepcost::step_cost` meets its contract. The loop's invariant: `cost` is the sum over the letters below y.
use lib.ListN.{get_or}
use mathlib.Core.Path.{◌≡◌}
use Rattle.profile.specs.Tables.{count_field, layout}
use Rattle.places.specs.Places.{places_of}
use Rattle.stepcost.proofs.Sums.{left_below}
use Rattle.stepcost.proofs.step_cost.Given as goal

abbrev pub invariant-loop-y : goal.invariant-loop-y
invariant-loop-y l =
    (l.own ≡ get_or (places_of l.log l.x) (count_field layout l.c l.x) 0) × (l.cost ≡ left_below l.log l.c l.own l.y)
