-- `expression::fill` meets its contract.
use lib.ListN.{length, drop}
use mathlib.Core.Path.{◌≡◌}
use mathlib.Core.List.{◌++◌, map}
use Rattle.profile.specs.Lists.{below}
use Rattle.expression.specs.Making.{move_from}
use Rattle.expression.proofs.fill.Given as goal

abbrev pub invariant-loop-j : goal.invariant-loop-j
invariant-loop-j l = (length l.moves ≡ length l.initial.moves) × (l.moves ≡ map (move_from l.k l.rows l.sets) (below l.j) ++ drop l.j l.initial.moves)
