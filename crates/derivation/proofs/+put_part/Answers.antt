use Rattle.derivation.proofs.Orders.{going_leaf, going_left, going_right, leaf_room}
use Rattle.derivation.proofs.+put_part.Goals as goal

pub bounds-order-at : goal.bounds-order-at
bounds-order-at t c =
    let a = c.args in
    let q = c.requires.i_lt_j in
    let l = c.loop-at in
    leaf_room a.nested.now a.i a.j a.name q.1 a.order.now q.2 l.n l.from l.to l.order l.invariant c.in-Leaf.at c.in-Leaf.a c.in-Leaf.ensures

pub returns-in-Leaf : goal.returns-in-Leaf
returns-in-Leaf t c =
    let a = c.args in
    let q = c.requires.i_lt_j in
    let l = c.loop-at in
    going_leaf a.nested.now a.i a.j a.name q.1 a.order.now q.2 l.n l.from l.to l.order l.invariant c.in-Leaf.at c.in-Leaf.a c.in-Leaf.ensures

pub loop-at-preserved-then-left : goal.loop-at-preserved-then-left
loop-at-preserved-then-left t c =
    let a = c.args in
    let q = c.requires.i_lt_j in
    let l = c.loop-at in
    let p = c.in-Parts in
    going_left a.nested.now a.i a.j a.name q.1 a.order.now q.2 l.n l.from l.to l.order l.invariant p.parts p.left p.ensures _ c.put_part.ensures

pub loop-at-preserved : goal.loop-at-preserved
loop-at-preserved t c =
    let a = c.args in
    let q = c.requires.i_lt_j in
    let l = c.loop-at in
    let p = c.in-Parts in
    going_right a.nested.now a.i a.j a.name q.1 a.order.now q.2 l.n l.from l.to l.order l.invariant p.parts p.left p.ensures _ c.put_part-else-left.ensures
