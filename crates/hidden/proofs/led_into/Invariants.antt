-- `hidden::led_into` meets its contract. The loop's invariant: `out` has the states below `q`.
use mathlib.Core.Path.{◌≡◌}
use Rattle.hidden.specs.Hidden.{led_into}
use Rattle.hidden.proofs.led_into.Given as goal

abbrev pub invariant-loop-q : goal.invariant-loop-q
invariant-loop-q l = (l.out ≡ led_into l.q l.reach l.set)
