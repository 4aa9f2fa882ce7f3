-- `termed_closest::closest_coded` judges events that are codes.
use mathlib.Core.Bool.{true}
use Rattle.termed_closest.proofs.closest_coded.Given as goal

abbrev pub ghost-answer : goal.ghost-answer
ghost-answer a = true
