-- `report::put_order` meets its contract.
use Rattle.putting.proofs.Texts.{put_then}
use Rattle.report.proofs.put_order.Goals as goal

pub returns : goal.returns
returns c =
    let e = c in
    let d = e in
    put_then d.put_bytes-letters.ensures (put_then d.put_letters-end.ensures.put e.put_bytes.ensures)
