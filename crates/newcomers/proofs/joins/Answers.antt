-- `newcomers::joins` meets its contract.
use mathlib.Core.Path.{sym, ◌∙◌, ap}
use mathlib.Core.Bool.{not}
use native.Mathlib.Omega.{arith}
use borrow.Author.Count.{below_more}
use Rattle.profile.specs.Traces.{independent}
use Rattle.newcomers.specs.Newcomers.{allows?}
use borrow.Author.Tests.{not-false, not-true}
use Rattle.newcomers.proofs.Loops.{all_no, all_yes}
use Rattle.newcomers.proofs.joins.Goals as goal

pub returns-then-not-allows : goal.returns-then-not-allows
returns-then-not-allows c =
    let a = c.args in
    let l = c.loop-b in
    let own = c.numbers-own.ensures ∙ c.counts_at.ensures in
    all_no _ a.profile.now.shape.k l.b c.loop-b-test.true (ap (λ v. allows? (independent a.profile.now.masks.now) a.last.now a.a v l.b) (sym own) ∙ sym c.allows.ensures ∙ not-true _ (ap not c.if-not-allows.true))

pub loop-b-preserved : goal.loop-b-preserved
loop-b-preserved c =
    let l = c.loop-b in
    below_more _ _ l.invariant (sym c.allows.ensures ∙ not-false _ (ap not c.if-not-allows.false))

pub returns : goal.returns
returns c =
    let a = c.args in
    let l = c.loop-b in
    let own = c.numbers-own.ensures ∙ c.counts_at.ensures in
    all_yes _ a.profile.now.shape.k (λ x lt. ap (λ v. allows? (independent a.profile.now.masks.now) a.last.now a.a v x) (sym own) ∙ l.invariant x (omega (arith, lt, c.loop-b-test.false)))
