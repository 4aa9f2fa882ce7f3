use mathlib.Core.Path.{◌≡◌, sym, ◌∙◌, ap, ap₂}
use mathlib.Core.List.{◌++◌, map}
use Prim.Native.Nat.{◌≤◌, ◌<◌}
use native.Mathlib.Numerals.{add-one}
use native.Mathlib.Omega.{arith}
use lib.ListN.{drop, length}
use Rattle.profile.specs.Lists.{below}
use Rattle.views.specs.Views.{reach, reaches, unseen}
use Rattle.profile.specs.Automata.{lent}
use Rattle.hidden.proofs.Rounds.{front_behind, round}
use Rattle.hidden.proofs.put_reach.Goals as goal

pub loop-n-preserved : goal.loop-n-preserved
loop-n-preserved c =
    let a = c.args in
    let l = c.loop-n in
    let next = unseen (lent a.profile.now) a.visible in
    let r = c.put_unseen.new.reach in
    let lt : l.n < a.profile.now.shape.s = omega arith in
    let fits : a.profile.now.shape.s ≤ length r = omega arith in
    c.pass.ensures ∙ round next l.n a.profile.now.shape.s r l.reach lt fits l.invariant ∙ ap (λ n. map (reaches next n) (below a.profile.now.shape.s) ++ drop a.profile.now.shape.s r) (sym (add-one l.n))

pub returns : goal.returns
unfolding reach
returns c =
    let a = c.args in
    let l = c.loop-n in
    let next = unseen (lent a.profile.now) a.visible in
    let e : l.n ≡ a.profile.now.shape.s = omega arith in
    l.invariant ∙ ap₂ (λ n z. map (reaches next n) (below a.profile.now.shape.s) ++ z) e (front_behind next a.profile.now.shape.s a.reach.now c.put_unseen.new.reach c.put_unseen.ensures)
