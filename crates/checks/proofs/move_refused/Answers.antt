-- `checks::move_refused` meets its contract: the chain tests each move.
use mathlib.Core.Path.{◌∙◌}
use Rattle.std.proofs.Common.{rules, tests}
use Rattle.std.proofs.lemmas.Iterator.{YieldsList-from_slice}
use Rattle.std.proofs.lemmas.Iterator.Search.{any_from_yields_List}
use Rattle.profile.specs.Refusals.{bit_from}
use Rattle.profile.proofs.Chains.{any_std}
use Rattle.checks.proofs.move_refused.Goals as goal

pub returns : goal.returns
returns c =
    let a = c.args in
    any_from_yields_List (bit_from a.s) _ _ c.any.result c.any.ensures.ran (YieldsList-from_slice a.moves.now cc) (λ x b q k. search (rules, tests))
    ∙ any_std (bit_from a.s) a.moves.now
