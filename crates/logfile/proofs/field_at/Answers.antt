-- `logfile::field_at` meets its contract.
use mathlib.Core.Path.{◌∙◌, ap}
use Prim.Native.Nat.{◌+◌}
use lib.ListN.{get_or}
use Rattle.logfile.proofs.field_at.Goals as goal

pub returns : goal.returns
returns c =
    let a = c.args in
    c.byte_at.ensures ∙ ap (λ n. get_or a.f.now (n + a.i) 0) c.trailer_at-end.ensures
