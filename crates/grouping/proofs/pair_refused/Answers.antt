-- `grouping::pair_refused` meets its contract.
use mathlib.Core.Path.{sym, ◌∙◌}
use Rattle.checks.proofs.Loops.{any_none_below, any_some_below}
use Rattle.grouping.proofs.pair_refused.Goals as goal

pub returns-then-passes : goal.returns-then-passes
returns-then-passes c =
    let b = c in
    sym (any_some_below _ _ b.loop-letter.letter b.loop-letter-test.true (sym c.passes.ensures ∙ c.if-passes.true))

pub returns : goal.returns
returns c = sym (any_none_below _ _ _ c.loop-letter-test.false c.loop-letter.invariant)
