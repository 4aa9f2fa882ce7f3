-- `filewriter::trailer_bytes` meets its contract; a division by 256 and by 256 again is one.
use native.Mathlib.Nat.{div-div-eq-div-mul}
use Rattle.filewriter.proofs.trailer_bytes.Goals as goal

pub returns : goal.returns
returns c = rw (c.to_le_bytes.ensures, c.to_le_bytes-2.ensures, c.to_le_bytes-3.ensures, c.to_le_bytes-4.ensures) (simp div-div-eq-div-mul)
