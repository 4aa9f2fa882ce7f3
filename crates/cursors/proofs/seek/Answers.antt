use mathlib.Core.Path.{sym, ◌∙◌, ap}
use native.Mathlib.Omega.{arith}
use Rattle.profile.specs.Traces.{bit}
use Rattle.cursors.proofs.Search.{seek_on}
use Rattle.cursors.proofs.seek.Goals as goal

pub loop-j-preserved : goal.loop-j-preserved
loop-j-preserved c =
    let a = c.args in
    let t = a.level.now in
    let l = c.loop-j in
    let e = sym (c.has.ensures ∙ ap (λ s. bit s a.x) c.last_at.ensures) in
    l.invariant ∙ seek_on t l.j a.x (omega arith) (e ∙ c.if-has.false)
