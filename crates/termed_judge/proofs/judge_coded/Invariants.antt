-- `termed_judge::judge_coded` judges events that are codes.
use mathlib.Core.Bool.{true}
use Rattle.termed_judge.proofs.judge_coded.Given as goal

abbrev pub ghost-put_verdict : goal.ghost-put_verdict
ghost-put_verdict a = true
