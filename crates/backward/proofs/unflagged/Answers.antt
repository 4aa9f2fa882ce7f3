-- `backward::unflagged` meets its contract.
use Rattle.std.proofs.Common.{rules}
use Rattle.backward.specs.Backward.{without_flags}
use Rattle.backward.proofs.unflagged.Goals as goal

pub returns : goal.returns
unfolding without_flags
returns c = search rules
