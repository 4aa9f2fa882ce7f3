-- `merge::least_counts` meets its contract. The loop's invariant: `best` has the least of the letters below `x`, and those that give it.
use mathlib.Core.Path.{◌≡◌}
use Rattle.merge.specs.Merge.{givers, least_letters, least_of, least_words}
use Rattle.merge.proofs.least_counts.Given as goal

abbrev pub invariant-loop-x : goal.invariant-loop-x
invariant-loop-x l = (least_words l.best ≡ least_of l.level l.x l.cursors) × (least_letters l.best ≡ givers l.level l.x l.cursors)
