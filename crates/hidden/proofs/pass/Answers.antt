use mathlib.Core.Path.{◌≡◌, ◌∙◌, ap, ap₂}
use mathlib.Core.List.{◌++◌, map}
use Prim.Native.Nat.{ℕ, ◌<◌}
use native.Mathlib.Omega.{arith}
use lib.ListN.{drop, get_or, length, set}
use Rattle.profile.specs.Lists.{below}
use Rattle.theory.proofs.Fronts.{front_put}
use Rattle.hidden.specs.Hidden.{widened}
use Rattle.hidden.proofs.Rounds.{front_rest}
use Rattle.hidden.proofs.pass.Goals as goal

pub loop-q-preserved : goal.loop-q-preserved
loop-q-preserved c =
    let a = c.args in
    let l = c.loop-q in
    let R : ℕ → ℕ = λ r. widened (get_or a.reach.now a.n 0) a.n (get_or a.reach.now r 0) in
    let m : l.q < length a.reach.now = omega arith in
    let e : c.widened-to.result ≡ R l.q =
    c.widened-to.ensures ∙ ap (widened (get_or a.reach.now a.n 0) a.n) (ap (λ z. get_or z l.q 0) l.invariant ∙ front_rest R a.reach.now l.q) in
    ap₂ (λ r x. set r l.q x) l.invariant e ∙ front_put R a.reach.now l.q m

pub returns : goal.returns
returns c =
    let a = c.args in
    let l = c.loop-q in
    let e : l.q ≡ a.s = omega arith in
    l.invariant ∙ ap (λ n. map (λ r. widened (get_or a.reach.now a.n 0) a.n (get_or a.reach.now r 0)) (below n) ++ drop n a.reach.now) e
