-- The three call one another: the measure is what is left of the text.
use Rattle.std.proofs.Common.{◌+◌, ◌*◌, ◌-◌, length}
use Rattle.walk.proofs.+expression_factor_sequence.Given as goal

abbrev pub decreases-expression : goal.decreases-expression
decreases-expression l = 3 * (length l.text.now - l.at) + 2

abbrev pub decreases-factor : goal.decreases-factor
decreases-factor l = 3 * (length l.text.now - l.at)

abbrev pub decreases-sequence : goal.decreases-sequence
decreases-sequence l = 3 * (length l.text.now - l.at) + 1
