-- `pairs::meeting_names` meets its contract.
use mathlib.Core.Path.{sym, subst}
use Prim.Native.Nat.{◌+◌}
use Rattle.grammars.specs.Grammars.{most_names}
use Rattle.pairs.specs.Pairs.{JoinedIs}
use Rattle.pairs.proofs.Gathers.{joined_is, none_yet}
use Rattle.pairs.proofs.meeting_names.Goals as goal

pub returns : goal.returns
returns c =
    let a = c.args in
    let g = c.gather in
    subst (JoinedIs a.rules.now a.row.now a.column.now (a.i + 1) a.j) (sym c.closed.ensures) (joined_is a.rules.now a.row.now a.column.now (a.i + 1) a.j _ _ (none_yet most_names) g.ensures)
