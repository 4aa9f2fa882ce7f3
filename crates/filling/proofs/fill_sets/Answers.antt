use mathlib.Core.Logic.{inl}
use Rattle.filling.proofs.Knowing.{known_start}
use native.Mathlib.Omega.{arith}
use Rattle.filling.proofs.fill_sets.Goals as goal

pub loop-j-init : goal.loop-j-init
loop-j-init c =
    let a = c.args in
    let on = a.nested.now in
    known_start on.grammar.k on.grammar.masks.now on.grammar.rules.now on.log.now on.records a.sets.now

pub returns : goal.returns
returns c = let l = c.loop-j in record { room = omega (arith, c.requires, l.auto.sets); right = λ a b lt hb. l.invariant a b lt (inl (omega arith)) }
