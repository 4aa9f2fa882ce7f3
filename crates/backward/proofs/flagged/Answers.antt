-- `backward::flagged` meets its contract.
use Rattle.std.proofs.Common.{rules}
use Rattle.backward.specs.Backward.{with_flags}
use Rattle.backward.proofs.flagged.Goals as goal

pub returns : goal.returns
unfolding with_flags
returns c = search rules
