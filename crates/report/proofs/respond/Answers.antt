-- `report::respond` meets its contract.
use native.Mathlib.Omega.{arith}
use Rattle.report.proofs.Printing.{responds_file, responds_long}
use Rattle.report.proofs.respond.Goals as goal

pub returns-then-input-gt-LONGEST_INPUT : goal.returns-then-input-gt-LONGEST_INPUT
returns-then-input-gt-LONGEST_INPUT c = responds_long (omega arith) (omega arith) c.put_bytes.ensures

pub returns : goal.returns
returns c = responds_file (omega arith) (omega arith) c.put_file.ensures.put c.put_file.ensures.file_table
