-- `days::leap` meets its contract: the tests one after the other.
use borrow.Author.Tests.{eq-eqb, ne_eqb}
use Prim.Native.Nat.{◌%◌}
use Rattle.days.proofs.leap.Goals as goal

pub returns-then-y-ne0 : goal.returns-then-y-ne0
returns-then-y-ne0 c = let y = c.args.y in rw (ne_eqb (y % 4) 0 c.if-y-ne0.true)

pub returns-then-y-ne0-2 : goal.returns-then-y-ne0-2
returns-then-y-ne0-2 c = let y = c.args.y in rw (eq-eqb (y % 4) 0 c.if-y-ne0.false, ne_eqb (y % 100) 0 c.if-y-ne0-2.true)

pub returns : goal.returns
returns c = let y = c.args.y in rw (eq-eqb (y % 4) 0 c.if-y-ne0.false, eq-eqb (y % 100) 0 c.if-y-ne0-2.false)
