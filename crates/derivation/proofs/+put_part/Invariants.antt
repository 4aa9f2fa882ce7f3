-- `derivation::put_part` meets its contract. The measure is the number of records between the two; the loop's, of those that are left.
use Prim.Native.Nat.{◌-◌}
use Rattle.derivation.proofs.Orders.{Going}
use Rattle.derivation.proofs.+put_part.Given as goal

abbrev pub decreases-put_part : goal.decreases-put_part
decreases-put_part l = l.j - l.i

abbrev pub invariant-loop-at : goal.invariant-loop-at
invariant-loop-at l = Going l.nested l.i l.j l.name l.fn.order l.n l.from l.to l.order

abbrev pub decreases-loop-at : goal.decreases-loop-at
decreases-loop-at l = l.to - l.from
