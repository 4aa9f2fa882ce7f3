-- `newcomers::forward_from` meets its contract.
use mathlib.Core.Path.{◌≡◌}
use lib.ListN.{get_or}
use Rattle.profile.specs.Automata.{union}
use Rattle.profile.specs.Lists.{below}
use Rattle.newcomers.specs.Newcomers.{led_at}
use Rattle.newcomers.proofs.forward_from.Given as goal

abbrev pub invariant-loop-b : goal.invariant-loop-b
invariant-loop-b l = l.out ≡ union (λ x. led_at l.profile.shape.k l.profile.shape.s l.profile.moves.now l.t (get_or l.places x 0) x) (below l.b)
