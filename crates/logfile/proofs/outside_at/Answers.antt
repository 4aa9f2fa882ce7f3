-- `logfile::outside_at` meets its contract.
use borrow.Author.Tests.{le-ltb, lt-ltb}
use Rattle.logfile.proofs.outside_at.Goals as goal

pub returns-then-back-size : goal.returns-then-back-size
returns-then-back-size c =
    let e = lt-ltb _ _ c.if-back-size.true in
    rw (← c.trailer_half-back.ensures, e)

pub returns : goal.returns
returns c =
    let d = c.trailer_half-back in
    let e = le-ltb _ _ c.if-back-size.false in
    rw (← d.ensures, e, ← c.trailer_at.ensures)
