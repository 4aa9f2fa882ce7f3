-- `rows::backward_by` meets its contract. The loop's invariant: `out` is the backward step over the states below `q`.
use mathlib.Core.Path.{◌≡◌}
use Rattle.rows.specs.Rows.{backward_by}
use Rattle.rows.proofs.backward_by.Given as goal

abbrev pub invariant-loop-q : goal.invariant-loop-q
invariant-loop-q l = (l.end ≡ l.s) × (l.out ≡ backward_by l.q l.rows l.set l.a)
