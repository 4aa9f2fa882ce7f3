-- `grammar_judge::put_verdict` meets its contract.
use mathlib.Core.Path.{refl, sym, ◌∙◌}
use mathlib.Core.Bool.{false}
use Rattle.grammar_judge.specs.GrammarJudge.{VerdictIs}
use Rattle.grammar_judge.proofs.Verdict.{none_short, none_told, order_told, row_inside, some_told}
use native.Mathlib.Omega.{arith}
use Rattle.grammar_judge.proofs.put_verdict.Goals as goal

pub returns-then-records-lt2 : goal.returns-then-records-lt2
returns-then-records-lt2 c =
    let a = c.args in
    let none : VerdictIs a.nested.now.grammar.masks.now a.nested.now.grammar.rules.now a.nested.now.log.now a.order.now a.order.now false =
    (none_short a.nested.now c.if-records-lt2.true, refl) in
    none

pub bounds-sets-records : goal.bounds-sets-records
bounds-sets-records c =
    let a = c.args in
    let r = c.fill_sets.ensures.room in
    row_inside a.nested.now.records _ c.if-records-lt2.false r

pub returns : goal.returns
returns c =
    let a = c.args in
    order_told a.nested.now _ _ c.put_part.ensures

pub returns-then-not-has : goal.returns-then-not-has
returns-then-not-has c =
    let a = c.args in
    (none_told a.nested.now _ c.fill_sets.ensures c.if-records-lt2.false (sym c.has.ensures ∙ c.if-not-has.true), refl)

pub put_part-requires-clause-i_lt_j : goal.put_part-requires-clause-i_lt_j
put_part-requires-clause-i_lt_j c =
    let a = c.args in
    let m = c.if-records-lt2.false in
    (omega (arith, m), omega (arith, m), c.requires.1, some_told a.nested.now _ c.fill_sets.ensures m (sym c.has.ensures ∙ c.if-not-has.false))
