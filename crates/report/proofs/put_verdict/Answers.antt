-- `report::put_verdict` meets its contract.
use native.Mathlib.Omega.{arith}
use Prim.Native.Nat.{◌≤◌}
use lib.ListN.{length}
use Rattle.report.specs.Report.{number_line, prefixes_word, verdict_word}
use Rattle.report.proofs.Printing.{line_short}
use Rattle.putting.proofs.Texts.{put_kept, put_then}
use Rattle.report.proofs.put_verdict.Goals as goal
use Rattle.report.proofs.put_verdict.Goals.{Start}

-- the two lines are short
short : (c : Start) → (length (number_line verdict_word c.args.verdict) ≤ 29) × (length (number_line prefixes_word c.args.prefixes) ≤ 30)
short c = (line_short verdict_word c.args.verdict (omega (arith, c.ranges.verdict)), line_short prefixes_word c.args.prefixes (omega (arith, c.ranges.prefixes)))

pub put_line-end-requires : goal.put_line-end-requires
put_line-end-requires c = let s = c in omega (arith, short (goal.at.put_line-end-requires c).Start, s.requires)

pub put_line-requires : goal.put_line-requires
put_line-requires c =
    let p = c.put_line-end.ensures in
    let s = c in
    omega (arith, short (goal.at.put_line-requires c).Start, s.requires, p.behind, put_kept p)

pub returns-clause-put : goal.returns-clause-put
returns-clause-put c = put_then c.put_line-end.ensures c.put_line.ensures

pub returns-clause-upper_bound : goal.returns-clause-upper_bound
returns-clause-upper_bound c = omega (arith, short (goal.at.returns-clause-upper_bound c).Start, c.put_line-end.ensures.behind, c.put_line.ensures.behind)
