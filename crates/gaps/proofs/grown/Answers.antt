use mathlib.Core.Path.{◌≡◌, ap}
use Rattle.profile.specs.Tables.{count_field, layout}
use mathlib.Core.Logic.{⊎_elim}
use Rattle.profile.proofs.Lists.{lt_or_le}
use native.Mathlib.Omega.{arith}
use Rattle.gaps.proofs.grown.Goals as goal

pub loop-x-init : goal.loop-x-init
loop-x-init c = λ y h. absurd (omega arith)

pub returns-then-count_of : goal.returns-then-count_of
returns-then-count_of c =
    let l = c.loop-x in
    (omega arith, omega (arith, c.if-count_of.true, c.count_of-in-loop-x.ensures, c.count_of.ensures), l.invariant)

pub loop-x-preserved : goal.loop-x-preserved
loop-x-preserved c =
    let l = c.loop-x in
    let a = c.args in
    λ y h. ⊎_elim (λ lt. l.invariant y lt) (λ le. let e : y ≡ l.x = omega arith in
    omega (arith, c.if-count_of.false, c.count_of-in-loop-x.ensures, c.count_of.ensures, ap (count_field layout a.c.now) e, ap (count_field layout a.e.now) e)) (lt_or_le y l.x)

pub returns : goal.returns
returns c = λ x h. c.loop-x.invariant x (omega arith)
