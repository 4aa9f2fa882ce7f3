use mathlib.Core.Path.{◌≡◌, sym, subst}
use Prim.Native.Nat.{◌+◌, ◌-◌}
use Rattle.pairs.specs.Pairs.{Known}
use Rattle.filling.proofs.Knowing.{known_column, known_more}
use native.Mathlib.Omega.{arith}
use Rattle.filling.proofs.fill_column.Goals as goal

pub loop-i-init : goal.loop-i-init
loop-i-init c = c.requires.2

pub put_pair-requires : goal.put_pair-requires
put_pair-requires c =
    let q = c.requires in
    (omega (arith, q.0), q.0, c.args.nested.now.setting.few, omega (arith, q.1, c.loop-i.auto.sets))

pub loop-i-preserved : goal.loop-i-preserved
loop-i-preserved c =
    let a = c.args in
    let on = a.nested.now in
    let l = c.loop-i in
    let q = c.requires in
    let i = l.i - 1 in
    let e : l.i ≡ i + 1 = omega arith in
    subst (λ t. Known a.nested.now t a.j i) (sym c.put_pair.ensures)
    (known_more on.grammar.k on.grammar.masks.now on.grammar.rules.now on.log.now on.records l.sets i a.j c.cell-set.result (omega arith) q.0 (omega (arith, q.1, l.auto.sets))
    c.cell-set.ensures (subst (λ n. Known a.nested.now l.sets a.j n) e l.invariant))

pub returns : goal.returns
returns c =
    let a = c.args in
    let on = a.nested.now in
    let l = c.loop-i in
    let e : l.i ≡ 0 = omega arith in
    known_column on.grammar.k on.grammar.masks.now on.grammar.rules.now on.log.now on.records l.sets a.j (subst (λ n. Known a.nested.now l.sets a.j n) e l.invariant)

pub cell-set-requires : goal.cell-set-requires
cell-set-requires c =
    let a = c.args in
    let l = c.loop-i in
    let q = c.requires in
    let e : l.i ≡ l.i - 1 + 1 = omega arith in
    (omega arith, q.0, omega (arith, q.1, l.auto.sets), subst (λ n. Known a.nested.now l.sets a.j n) e l.invariant)
