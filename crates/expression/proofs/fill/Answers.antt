use lib.ListN.{set, length, drop, length-set}
use mathlib.Core.Path.{◌≡◌, refl, ◌∙◌, ap}
use mathlib.Core.List.{◌++◌, map}
use Prim.Native.Nat.{◌*◌, ◌/◌, ◌%◌, ◌<◌}
use native.Mathlib.Omega.{arith}
use Rattle.profile.specs.Lists.{below}
use Rattle.expression.specs.Making.{move_from}
use Rattle.theory.proofs.Fronts.{front_put}
use Rattle.expression.proofs.Filling.{column_below, row_below}
use borrow.Author.Rules.{rules}
use Rattle.expression.proofs.fill.Goals as goal

pub loop-j-init : goal.loop-j-init
loop-j-init c = (refl, refl)

pub offset_bounds-rows-q : goal.offset_bounds-rows-q
offset_bounds-rows-q c =
    let S = c in
    let a = S.args in
    let l = c.loop-j in
    let lt : l.j < a.s * a.k = omega arith in
    let g : l.j / a.k < a.s = row_below a.k a.s l.j S.requires.0 lt in
    let b : l.j % a.k < a.k = column_below a.k l.j S.requires.0 in
    search rules

pub bounds-rows-q : goal.bounds-rows-q
bounds-rows-q c =
    let S = c in
    let a = S.args in
    let l = c.loop-j in
    let lt : l.j < a.s * a.k = omega arith in
    let g : l.j / a.k < a.s = row_below a.k a.s l.j S.requires.0 lt in
    let b : l.j % a.k < a.k = column_below a.k l.j S.requires.0 in
    omega (arith, S.requires.2)

pub offset_bounds-sets-a : goal.offset_bounds-sets-a
offset_bounds-sets-a c =
    let S = c in
    let a = S.args in
    let l = c.loop-j in
    let lt : l.j < a.s * a.k = omega arith in
    let g : l.j / a.k < a.s = row_below a.k a.s l.j S.requires.0 lt in
    let b : l.j % a.k < a.k = column_below a.k l.j S.requires.0 in
    search rules

pub bounds-sets-a : goal.bounds-sets-a
bounds-sets-a c =
    let S = c in
    let a = S.args in
    let l = c.loop-j in
    let lt : l.j < a.s * a.k = omega arith in
    let g : l.j / a.k < a.s = row_below a.k a.s l.j S.requires.0 lt in
    let b : l.j % a.k < a.k = column_below a.k l.j S.requires.0 in
    omega (arith, S.requires.1)

pub loop-j-preserved : goal.loop-j-preserved
loop-j-preserved c =
    let S = c in
    let a = S.args in
    let l = c.loop-j in
    let lt : l.j < a.s * a.k = omega arith in
    let g : l.j / a.k < a.s = row_below a.k a.s l.j S.requires.0 lt in
    let b : l.j % a.k < a.k = column_below a.k l.j S.requires.0 in
    let R = move_from a.k a.rows.now a.sets.now in
    let m : l.j < length a.moves.now = omega (arith, S.requires.3) in
    (simp length-set l.invariant.0, ap (λ r. set r l.j (R l.j)) l.invariant.1 ∙ front_put R a.moves.now l.j m)

pub shape_of-moves : goal.shape_of-moves
shape_of-moves c = c.loop-j.invariant.0

pub returns : goal.returns
returns c =
    let a = c.args in
    let l = c.loop-j in
    let e : l.j ≡ a.s * a.k = omega arith in
    l.invariant.1 ∙ ap (λ n. map (move_from a.k a.rows.now a.sets.now) (below n) ++ drop n a.moves.now) e
