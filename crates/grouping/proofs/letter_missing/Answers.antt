-- `grouping::letter_missing` meets its contract.
use mathlib.Core.Path.{sym, ◌∙◌, ap}
use mathlib.Core.Bool.{not}
use Rattle.checks.proofs.Loops.{any_none_below, any_some_below}
use Rattle.grouping.proofs.letter_missing.Goals as goal

pub returns : goal.returns
returns c = sym (any_none_below _ _ _ c.loop-x-test.false c.loop-x.invariant)

pub returns-then-not-held : goal.returns-then-not-held
returns-then-not-held c =
    let b = c in
    sym (any_some_below _ _ b.loop-x.x b.loop-x-test.true (ap not (sym c.held.ensures) ∙ ap not c.if-not-held.true))
