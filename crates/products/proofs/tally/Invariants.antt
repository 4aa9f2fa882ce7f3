-- `products::tally` meets its contract. The loop's invariant: the first `at` events are counted.
use mathlib.Core.Path.{◌≡◌}
use mathlib.Core.List.{map}
use lib.ListN.{take}
use Rattle.profile.specs.Lists.{below}
use Rattle.profile.specs.Prefixes.{count}
use Rattle.products.proofs.tally.Given as goal

abbrev pub invariant-loop-at : goal.invariant-loop-at
invariant-loop-at l = l.counts ≡ map (count (λ a. a) (take l.at l.log)) (below 16)
