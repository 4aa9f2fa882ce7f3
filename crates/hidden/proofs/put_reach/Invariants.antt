-- `hidden::put_reach` meets its contract. The loop's invariant: the sets are those over the states below `n`.
use mathlib.Core.Path.{◌≡◌}
use mathlib.Core.List.{◌++◌, map}
use lib.ListN.{drop}
use Rattle.profile.specs.Lists.{below}
use Rattle.views.specs.Views.{reaches, unseen}
use Rattle.profile.specs.Automata.{lent}
use Rattle.hidden.proofs.put_reach.Given as goal

abbrev pub invariant-loop-n : goal.invariant-loop-n
invariant-loop-n l = l.reach ≡ map (reaches (unseen (lent l.profile) l.visible) l.n) (below l.s) ++ drop l.s l.initial.reach
