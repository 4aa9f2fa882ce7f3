-- `logfile::trailer_half` meets its contract.
use mathlib.Core.Path.{◌∙◌, ap}
use Prim.Native.Nat.{◌+◌}
use Rattle.logfile.specs.Files.{half}
use Rattle.logfile.proofs.trailer_half.Goals as goal

pub returns : goal.returns
returns c =
    let a = c.args in
    c.number_at.ensures ∙ ap (λ n. half a.f.now (n + a.i)) c.trailer_at-end.ensures
