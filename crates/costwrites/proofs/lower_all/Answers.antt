use native.Mathlib.Omega.{arith}
use Rattle.costcells.proofs.Cells.{low_state}
use Rattle.costwrites.proofs.Writing.{lower_more}
use Prim.Native.Nat.{◌+◌, ◌-◌, ◌<◌, min}
use mathlib.Core.Path.{◌∙◌, ap}
use lib.ListN.{length, length-set}
use Rattle.costcells.specs.Cells.{cost_in}
use lib.Count.{count_trailing_zeros}
use lib.Bits.{and_le_r}
use Rattle.costwrites.proofs.lower_all.Goals as goal

pub lower-requires : goal.lower-requires
lower-requires c =
    let a = c.args in
    let l = c.loop-rest in
    let q = low_state a.s l.rest (omega arith) (omega arith) (omega arith) in
    omega (arith, q, l.invariant.2)

pub loop-rest-preserved : goal.loop-rest-preserved
loop-rest-preserved c =
    let a = c.args in
    let l = c.loop-rest in
    let n = l.rest in
    let q = low_state a.s n (omega arith) (omega arith) (omega arith) in
    let u = c.lower.new.costs in
    let lt : a.row + count_trailing_zeros 32 n < length l.costs = omega (arith, q, l.invariant.2) in (
      omega (arith, and_le_r n (n - 1)),
      omega (arith, and_le_r n (n - 1)),
      ap length c.lower.ensures ∙ length-set l.costs (a.row + count_trailing_zeros 32 n) (min a.v (cost_in l.costs (a.row + count_trailing_zeros 32 n))) ∙ l.invariant.2,
      λ j. lower_more l.costs u a.row n a.v (omega arith) (omega arith) lt c.lower.ensures j ∙ l.invariant.3 j,
    )
