-- `counts::count_in` meets its contract: a shift and a remainder.
use Rattle.std.proofs.Common.{rules}
use Rattle.counts.specs.Counts.{word_count}
use Rattle.counts.proofs.count_in.Goals as goal

pub returns : goal.returns
unfolding word_count
returns c = search rules
