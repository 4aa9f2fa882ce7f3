use native.Mathlib.Omega.{arith}
use Prim.Native.Nat.{◌+◌, ◌-◌, ◌/◌, ◌≤◌, ◌<◌}
use mathlib.Core.Path.{◌≡◌, sym, ◌∙◌, subst}
use mathlib.Core.Logic.{inl, inr, ⊎_elim}
use lib.ListN.{take}
use Rattle.costcells.specs.Cells.{at_most}
use Rattle.costcells.proofs.Cells.{at_most_le, floor_found}
use Rattle.costcells.proofs.floor.Goals as goal

pub loop-low-preserved : goal.loop-low-preserved
loop-low-preserved c =
    let a = c.args in
    let l = c.loop-low in
    let m = l.low + (l.high - l.low) / 2 in
    let t = take a.n a.costs.now in (
      omega arith,
      omega arith,
      λ u h. let z = at_most_le u m t (omega (arith, h)) in let y : at_most m t ≤ a.budget = subst (λ i. i ≤ a.budget) c.at_most.ensures c.if-budget-at_most.false in omega (arith, z, y),
      l.invariant.3,
    )

pub returns : goal.returns
returns c =
    let a = c.args in
    let l = c.loop-low in
    let e : l.high ≡ l.low = omega arith in
    let t = take a.n a.costs.now in
    floor_found t a.budget a.fewest l.low (omega arith) (omega arith) l.invariant.2
    (⊎_elim (λ k. inl (sym e ∙ k)) (λ k. inr (subst (λ i. a.budget < at_most i t) e k)) l.invariant.3)
