-- `Rows::backward_by` meets its contract: a step by the rows is the step of the moves.
use mathlib.Core.Path.{◌∙◌}
use Rattle.rows.proofs.Steps.{backward_same}
use Rattle.rows.proofs.Rows.backward_by.Goals as goal

pub returns : goal.returns
returns c =
    let r = c.args.self.now in
    let p = r.profile in
    let by = c.backward_by.ensures in
    record { by_rows = by; step = λ h. by ∙ backward_same p.shape.k p.shape.s p.moves.now r.rows.now r.of_moves r.small.0 r.small.1 c.args.a h c.args.set }
