-- `logfile::number_at` meets its contract: past the file's end there are no bytes.
use mathlib.Core.Path.{◌∙◌, ap}
use Rattle.profile.proofs.Chains.{left_from}
use Rattle.logfile.proofs.number_at.Goals as goal

pub returns : goal.returns
returns g c = c.from_bytes.ensures ∙ ap g.T.Number.value (left_from c.args.f.now c.args.i c.min.ensures)
