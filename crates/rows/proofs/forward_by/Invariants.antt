-- `rows::forward_by` meets its contract. The loop's invariant: `out` is the step from the states of the set below `q`.
use mathlib.Core.Path.{◌≡◌}
use Rattle.rows.specs.Rows.{forward_by}
use Rattle.rows.proofs.forward_by.Given as goal

abbrev pub invariant-loop-q : goal.invariant-loop-q
invariant-loop-q l = (l.end ≡ l.s) × (l.out ≡ forward_by l.q l.rows l.set l.a)
