-- `hidden::pass` meets its contract. The loop's invariant: the sets below `q` are done.
use mathlib.Core.Path.{◌≡◌}
use mathlib.Core.List.{◌++◌, map}
use lib.ListN.{drop, get_or}
use Rattle.profile.specs.Lists.{below}
use Rattle.hidden.specs.Hidden.{widened}
use Rattle.hidden.proofs.pass.Given as goal

abbrev pub invariant-loop-q : goal.invariant-loop-q
invariant-loop-q l = l.reach ≡ map (λ r. widened l.over l.n (get_or l.initial.reach r 0)) (below l.q) ++ drop l.q l.initial.reach
