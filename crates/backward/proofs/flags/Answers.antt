-- `backward::flags` meets its contract.
use Rattle.std.proofs.Common.{rules}
use Rattle.backward.specs.Backward.{flags}
use Rattle.backward.proofs.flags.Goals as goal

pub returns : goal.returns
unfolding flags
returns c = search rules
