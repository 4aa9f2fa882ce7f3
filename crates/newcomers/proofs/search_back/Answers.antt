-- `newcomers::search_back` meets its contract.
use mathlib.Core.Path.{sym, ◌∙◌}
use Prim.Native.Nat.{◌-◌}
use native.Mathlib.Omega.{arith}
use Rattle.counts.specs.Counts.{words}
use Rattle.newcomers.specs.Newcomers.{absent, gives?}
use Rattle.newcomers.proofs.Loops.{back_more, found_at}
use Rattle.newcomers.proofs.search_back.Goals as goal

pub returns-then-gives : goal.returns-then-gives
returns-then-gives c =
    let l = c.loop-j in
    found_at (l.j - 1) (omega (arith, c.loop-j-test.true)) (omega (arith, c.loop-j-test.true)) (sym c.gives.ensures ∙ c.if-gives.true)

pub loop-j-preserved : goal.loop-j-preserved
loop-j-preserved c =
    let a = c.args in
    let l = c.loop-j in
    back_more (gives? a.t.now a.b (words a.c)) l.j (sym c.gives.ensures ∙ c.if-gives.false) l.invariant

pub returns : goal.returns
returns c =
    let l = c.loop-j in
    absent (λ x le lt t. l.invariant x (omega (arith, le, c.loop-j-test.false)) lt t)
