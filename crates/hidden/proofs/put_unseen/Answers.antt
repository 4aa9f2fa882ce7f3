use mathlib.Core.Path.{◌≡◌, ◌∙◌, ap, ap₂}
use mathlib.Core.List.{◌++◌, map}
use Prim.Native.Nat.{ℕ, ◌<◌}
use native.Mathlib.Omega.{arith}
use lib.ListN.{drop, length, set}
use Rattle.profile.specs.Lists.{below}
use Rattle.theory.proofs.Fronts.{front_put}
use Rattle.views.specs.Views.{unseen}
use Rattle.profile.specs.Automata.{lent}
use Rattle.hidden.proofs.put_unseen.Goals as goal

pub loop-q-preserved : goal.loop-q-preserved
loop-q-preserved c =
    let a = c.args in
    let l = c.loop-q in
    let R : ℕ → ℕ = unseen (lent a.profile.now) a.visible in
    let m : l.q < length a.reach.now = omega arith in
    ap₂ (λ r x. set r l.q x) l.invariant c.unseen-to.ensures ∙ front_put R a.reach.now l.q m

pub returns : goal.returns
returns c =
    let a = c.args in
    let l = c.loop-q in
    let e : l.q ≡ a.profile.now.shape.s = omega arith in
    l.invariant ∙ ap (λ n. map (unseen (lent a.profile.now) a.visible) (below n) ++ drop n a.reach.now) e
