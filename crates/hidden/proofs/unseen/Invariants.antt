-- `hidden::unseen` meets its contract. The loop's invariant: `out` is what the hidden letters below `a` lead to.
use mathlib.Core.Path.{◌≡◌}
use mathlib.Core.Bool.{not}
use Rattle.profile.specs.Automata.{row, union}
use Rattle.profile.specs.Lists.{below, filter}
use Rattle.profile.specs.Traces.{bit}
use Rattle.hidden.proofs.unseen.Given as goal

abbrev pub invariant-loop-a : goal.invariant-loop-a
invariant-loop-a l = (l.out ≡ union (λ x. row l.k l.profile.moves.now l.q x) (filter (λ x. not (bit l.visible x)) (below l.a)))
