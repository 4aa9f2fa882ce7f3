-- `hidden::put_unseen` meets its contract. The loop's invariant: the sets below `q` are put.
use mathlib.Core.Path.{◌≡◌}
use mathlib.Core.List.{◌++◌, map}
use lib.ListN.{drop}
use Rattle.profile.specs.Lists.{below}
use Rattle.views.specs.Views.{unseen}
use Rattle.profile.specs.Automata.{lent}
use Rattle.hidden.proofs.put_unseen.Given as goal

abbrev pub invariant-loop-q : goal.invariant-loop-q
invariant-loop-q l = l.reach ≡ map (unseen (lent l.profile) l.visible) (below l.q) ++ drop l.q l.initial.reach
