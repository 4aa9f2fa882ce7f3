-- `logfile::byte_at` meets its contract: past its end a list has 0.
use mathlib.Core.Path.{sym}
use lib.ListN.{get_or-eq_default}
use Rattle.logfile.proofs.byte_at.Goals as goal

pub returns-else-i-f : goal.returns-else-i-f
returns-else-i-f c = sym (get_or-eq_default c.args.f.now 0 c.if-i-f.false)
