-- `expression::with_empty` meets its contract.
use mathlib.Core.Path.{sym, ap}
use lib.Bits.{bit_or}
use Rattle.expressions.specs.Positions.{when}
use Rattle.expression.proofs.with_empty.Goals as goal

pub returns-then-empty : goal.returns-then-empty
returns-then-empty c = ap (λ b. bit_or c.args.last (when b 1)) (sym c.if-empty.true)

pub returns-else-empty : goal.returns-else-empty
returns-else-empty c = ap (λ b. bit_or c.args.last (when b 1)) (sym c.if-empty.false)
