-- `report::put_spaced` meets its contract.
use Rattle.putting.proofs.Texts.{put_then}
use Rattle.report.proofs.put_spaced.Goals as goal

pub returns : goal.returns
returns c = put_then c.put_bytes-digits.ensures c.put_decimal.ensures
