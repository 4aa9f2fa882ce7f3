-- `hidden::put_moves` meets its contract. The loop's invariant: the numbers below `j` are put.
use mathlib.Core.Path.{◌≡◌}
use mathlib.Core.List.{◌++◌, map}
use lib.ListN.{drop}
use Rattle.profile.specs.Lists.{below}
use Rattle.profile.specs.Automata.{lent}
use Rattle.hidden.specs.Hidden.{late_move}
use Rattle.hidden.proofs.put_moves.Given as goal

abbrev pub invariant-loop-j : goal.invariant-loop-j
invariant-loop-j l = l.late ≡ map (late_move (lent l.profile) l.reach) (below l.j) ++ drop l.j l.initial.late
