-- `logfile::length_at` meets its contract: two bytes of the trailer.
use native.Mathlib.Omega.{arith}
use Rattle.logfile.proofs.length_at.Goals as goal

pub returns : goal.returns
returns c =
    let e = c.trailer_at-end.ensures in
    rw (← e) (omega (arith, c.byte_at-low.ensures, c.byte_at-high.ensures, c.from_le_bytes.ensures))
