-- `counts::count_of` meets its contract: the number of the letter, and its count there.
use Rattle.counts.specs.Counts.{word_count}
use Rattle.counts.proofs.count_of.Goals as goal

pub returns : goal.returns
unfolding word_count
returns c = c.count_in.ensures.value
