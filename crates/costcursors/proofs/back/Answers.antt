use native.Mathlib.Omega.{arith}
use Prim.Native.Nat.{◌+◌, ◌-◌}
use mathlib.Core.Path.{◌≡◌, sym, ◌∙◌, ap}
use Rattle.counts.specs.Counts.{words}
use Rattle.search.specs.Search.{stands_before?}
use Rattle.costcursors.proofs.Cursors.{back_more, back_stop}
use Rattle.costcursors.proofs.back.Goals as goal

pub returns-then-stands_before : goal.returns-then-stands_before
returns-then-stands_before c = let a = c.args in
    let l = c.loop-j in
    let e : l.j - 1 + 1 ≡ l.j = omega arith in
    rw e (back_stop a.t.now (words a.c) l.j (l.j - 1) (omega arith) (omega (arith, l.auto.j, c.requires.0)) l.invariant (rw (sym (c.stands_before.ensures ∙ ap (λ v. stands_before? v (words a.c)) c.counts_at.ensures) ∙ c.if-stands_before.true) tt))

pub loop-j-preserved : goal.loop-j-preserved
loop-j-preserved c = let a = c.args in
    let l = c.loop-j in
    back_more a.t.now (words a.c) l.j (l.j - 1) (omega arith) l.invariant (rw (sym (c.stands_before.ensures ∙ ap (λ v. stands_before? v (words a.c)) c.counts_at.ensures) ∙ c.if-stands_before.false) tt)
