-- `logfile::shape_of` meets its contract.
use mathlib.Core.Path.{◌∙◌, ap}
use Prim.Native.Nat.{◌+◌}
use Rattle.logfile.specs.Files.{word}
use Rattle.logfile.proofs.shape_of.Goals as goal

pub returns : goal.returns
returns c =
    let b = c in
    let f = b.args.f.now in
    let e = c.number_at-finals.ensures ∙ ap (λ n. word f (n + 12)) c.trailer_at-end.ensures in
    rw (b.field_at-k.ensures, b.field_at-s.ensures, b.field_at-start.ensures, e)
