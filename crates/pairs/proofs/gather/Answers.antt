use mathlib.Core.Path.{◌≡◌, subst}
use Prim.Native.Nat.{◌+◌}
use Rattle.pairs.specs.Pairs.{Gathered}
use Rattle.pairs.proofs.Gathers.{gather_more, gather_start}
use native.Mathlib.Omega.{arith}
use Rattle.pairs.proofs.gather.Goals as goal

pub loop-m-init : goal.loop-m-init
loop-m-init c = let a = c.args in gather_start a.row.now a.column.now (a.i + 1) a.acc.now

pub loop-m-preserved : goal.loop-m-preserved
loop-m-preserved c =
    let a = c.args in
    let l = c.loop-m in
    gather_more a.row.now a.column.now (a.i + 1) a.acc.now l.m l.acc _ (omega arith) l.invariant c.spread.ensures

pub returns : goal.returns
returns c =
    let a = c.args in
    let l = c.loop-m in
    let e : l.m ≡ a.j = omega arith in
    subst (λ m. Gathered a.row.now a.column.now (a.i + 1) m a.acc.now l.acc) e l.invariant
