-- `pairs::cell` meets its contract.
use mathlib.Core.Path.{sym, subst}
use Rattle.pairs.specs.Pairs.{Right}
use Rattle.pairs.proofs.Cells.{cell_apart, cell_letter, cell_outside}
use native.Mathlib.Omega.{arith}
use Rattle.pairs.proofs.cell.Goals as goal

pub returns-in-Outside : goal.returns-in-Outside
returns-in-Outside c = let a = c.args in cell_outside a.nested.now a.i a.j (omega arith) c.requires.1 c.in-Outside.ensures

pub returns-in-Letter : goal.returns-in-Letter
returns-in-Letter c =
    let a = c.args in
    subst (Right a.nested.now a.i a.j) (sym c.lettered.ensures)
    (cell_letter a.nested.now a.i a.j c.in-Letter.a (omega arith) c.requires.1 c.in-Letter.ensures)

pub returns-in-Apart : goal.returns-in-Apart
returns-in-Apart c =
    let a = c.args in
    let q = c.requires in
    cell_apart a.nested.now a.i a.j a.sets.now c.joined.result q.0 q.1 c.in-Apart.ensures q.3 c.joined.ensures
