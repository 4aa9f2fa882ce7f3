-- `closest::closest` judges events that are letters.
use mathlib.Core.Bool.{false}
use Rattle.closest.proofs.closest.Given as goal

abbrev pub ghost-answer : goal.ghost-answer
ghost-answer a = false
