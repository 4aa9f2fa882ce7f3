use borrow.Author.Rules.{rules}
use native.Mathlib.Omega.{arith}
use Rattle.costcells.proofs.Cells.{Scanned, inside, low_state, scan_end, scan_more}
use Prim.Native.Nat.{◌+◌, ◌-◌}
use mathlib.Core.Path.{◌≡◌, refl, subst}
use Rattle.costcells.specs.Cells.{cost_in, none_cost}
use lib.Count.{count_trailing_zeros}
use lib.Bits.{and_le_r}
use Rattle.costcells.proofs.least_in.Goals as goal

pub bounds-costs-row : goal.bounds-costs-row
bounds-costs-row c =
    let a = c.args in
    let l = c.loop-rest in
    let q = low_state a.s l.rest (omega arith) (omega arith) (omega arith) in
    omega (arith, q)

pub returns : goal.returns
returns c =
    let a = c.args in
    let l = c.loop-rest in
    let e : l.rest ≡ 0 = omega arith in
    scan_end a.costs.now a.row a.states l.least (subst (λ r. Scanned a.costs.now a.row a.states r l.least) e l.invariant.2)

pub loop-rest-preserved : goal.loop-rest-preserved
loop-rest-preserved c =
    let a = c.args in
    let l = c.loop-rest in
    let n = l.rest in
    let q = low_state a.s n (omega arith) (omega arith) (omega arith) in
    let e = inside a.costs.now (a.row + count_trailing_zeros 32 n) 0 none_cost (omega (arith, q)) in (
      omega (arith, and_le_r n (n - 1)),
      omega (arith, and_le_r n (n - 1)),
      scan_more a.costs.now a.row a.states n (cost_in a.costs.now (a.row + count_trailing_zeros 32 n)) _ l.least (omega arith) (omega arith) refl
          (omega arith)
          (grind (arith, e))
          (search rules) l.invariant.2,
    )
