-- `steps::step_forward` meets its contract. The loop's invariant: `out`, united with the step from the states that are left, is the whole step.
-- The measure is the number of the states that are left.
use Prim.Native.Nat.{◌^◌, ◌<◌}
use mathlib.Core.Path.{◌≡◌}
use lib.Bits.{bit_or}
use Rattle.profile.specs.Automata.{forward_step}
use Rattle.steps.proofs.step_forward.Given as goal

abbrev pub invariant-loop-rest : goal.invariant-loop-rest
invariant-loop-rest l = (l.rest < 2 ^ 32) × (bit_or l.out (forward_step l.k l.s l.moves l.rest l.a) ≡ forward_step l.k l.s l.moves l.set l.a)

abbrev pub decreases-loop-rest : goal.decreases-loop-rest
decreases-loop-rest l = l.rest
