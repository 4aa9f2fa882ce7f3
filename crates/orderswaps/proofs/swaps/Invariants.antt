-- `orderswaps::swaps` meets its contract. The loop's invariant: `c` and `sum` are the counts and the cost of the first letters.
use mathlib.Core.Path.{◌≡◌}
use lib.ListN.{take}
use Rattle.profile.specs.Tables.{layout, packed}
use Rattle.counts.specs.Counts.{words}
use Rattle.swaps.specs.Swaps.{taking}
use Rattle.orderswaps.proofs.Reading.{counted}
use Rattle.orderswaps.proofs.swaps.Given as goal

abbrev pub invariant-loop-letter : goal.invariant-loop-letter
invariant-loop-letter l =
    (words l.c ≡ packed layout (counted l.k (take l.letter-index l.order))) × (l.sum ≡ taking (λ a. a) l.log (λ x. 0) (take l.letter-index l.order))
