-- `rows::by_letter` meets its contract. The loop's invariant: the first `i` numbers are put, the others are 0.
use mathlib.Core.Path.{◌≡◌}
use mathlib.Core.List.{◌++◌, map}
use lib.ListN.{drop, replicate}
use Rattle.profile.specs.Limits.{most_moves}
use Rattle.profile.specs.Lists.{below}
use Rattle.rows.specs.Rows.{led}
use Rattle.rows.proofs.by_letter.Given as goal

abbrev pub invariant-loop-i : goal.invariant-loop-i
invariant-loop-i l = l.rows ≡ map (led l.k l.s l.moves) (below l.i) ++ drop l.i (replicate most_moves 0)
