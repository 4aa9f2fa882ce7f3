use mathlib.Core.Path.{◌≡◌, ◌∙◌, ap, ap₂}
use mathlib.Core.List.{◌++◌, map}
use Prim.Native.Nat.{◌*◌, ◌/◌, ◌<◌}
use native.Mathlib.Omega.{arith}
use lib.ListN.{drop, length, set}
use Rattle.profile.specs.Lists.{below}
use Rattle.theory.proofs.Fronts.{front_put}
use Rattle.profile.specs.Automata.{lent}
use Rattle.hidden.specs.Hidden.{late_move}
use Rattle.hidden.proofs.Rounds.{state_of}
use borrow.Author.Rules.{rules}
use Rattle.hidden.proofs.put_moves.Goals as goal

pub offset_bounds-reach-j : goal.offset_bounds-reach-j
offset_bounds-reach-j c =
    let a = c.args in
    let l = c.loop-j in
    let lt : l.j < a.profile.now.shape.s * a.profile.now.shape.k = omega arith in
    let g : l.j / a.profile.now.shape.k < a.profile.now.shape.s = state_of a.profile.now.shape.k a.profile.now.shape.s l.j (omega arith) lt in
    search rules

pub bounds-reach-j : goal.bounds-reach-j
bounds-reach-j c =
    let a = c.args in
    let l = c.loop-j in
    let lt : l.j < a.profile.now.shape.s * a.profile.now.shape.k = omega arith in
    let g : l.j / a.profile.now.shape.k < a.profile.now.shape.s = state_of a.profile.now.shape.k a.profile.now.shape.s l.j (omega arith) lt in
    omega arith

pub loop-j-preserved : goal.loop-j-preserved
loop-j-preserved c =
    let a = c.args in
    let l = c.loop-j in
    let R = late_move (lent a.profile.now) a.reach.now in
    let m : l.j < length a.late.now = omega arith in
    ap₂ (λ r x. set r l.j x) l.invariant c.step_forward-to.ensures ∙ front_put R a.late.now l.j m

pub returns : goal.returns
returns c =
    let a = c.args in
    let l = c.loop-j in
    let e : l.j ≡ a.profile.now.shape.s * a.profile.now.shape.k = omega arith in
    l.invariant ∙ ap (λ n. map (late_move (lent a.profile.now) a.reach.now) (below n) ++ drop n a.late.now) e
