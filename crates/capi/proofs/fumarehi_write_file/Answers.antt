-- `capi::fumarehi_write_file` meets its contract: what the writer answers is told as its numbers.
use mathlib.Core.Path.{sym, ◌∙◌, ap}
use Rattle.capi.specs.Numbers.{writing_code, writing_told}
use Rattle.capi.proofs.fumarehi_write_file.Goals as goal

pub returns-in-Ok : goal.returns-in-Ok
returns-in-Ok c =
    let e = c.write_file.ensures in
    let x = sym c.in-Ok.is ∙ e.0 in
    (ap writing_code x, ap writing_told x, e.1)
