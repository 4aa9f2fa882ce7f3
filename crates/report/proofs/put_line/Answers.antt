-- `report::put_line` meets its contract.
use mathlib.Core.List.{[], ◌∷◌}
use Prim.Native.Nat.{◌+◌, ◌≤◌}
use native.Mathlib.Omega.{arith}
use lib.ListN.{length}
use Rattle.report.specs.Report.{decimal}
use Rattle.putting.proofs.Texts.{length_three, put_kept, put_then}
use Rattle.report.proofs.put_line.Goals as goal
use Rattle.report.proofs.put_line.Goals.{Start}

-- the three parts have place
parts : (c : Start) → let a = c.args in a.at + (length a.word.now + (length (decimal a.n) + 1)) ≤ length a.out.now
parts c = let a = c.args in omega (arith, length_three a.word.now (decimal a.n) (10 ∷ []), c.requires)

pub put_bytes-digits-requires : goal.put_bytes-digits-requires
put_bytes-digits-requires c = omega (arith, parts (goal.at.put_bytes-digits-requires c).Start)

pub put_decimal-end-requires : goal.put_decimal-end-requires
put_decimal-end-requires c = let b = c in let p = b.put_bytes-digits.ensures in omega (arith, parts (goal.at.put_decimal-end-requires c).Start, p.behind, put_kept p)

pub put_bytes-requires : goal.put_bytes-requires
put_bytes-requires c =
    let d = c in
    let b = d in
    let p = b.put_bytes-digits.ensures in
    let q = d.put_decimal-end.ensures in
    omega (arith, parts (goal.at.put_bytes-requires c).Start, p.behind, put_kept p, q.behind, put_kept q)

pub returns : goal.returns
returns c =
    let e = c in
    let d = e in
    put_then d.put_bytes-digits.ensures (put_then d.put_decimal-end.ensures e.put_bytes.ensures)
