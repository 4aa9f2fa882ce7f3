-- `verdict::judge` judges events that are letters.
use mathlib.Core.Bool.{false}
use Rattle.verdict.proofs.judge.Given as goal

abbrev pub ghost-put_verdict : goal.ghost-put_verdict
ghost-put_verdict a = false
