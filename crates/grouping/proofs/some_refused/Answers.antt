-- `grouping::some_refused` meets its contract: the chain tests each group.
use mathlib.Core.Path.{◌∙◌}
use Rattle.std.proofs.Common.{rules, tests}
use Rattle.std.proofs.lemmas.Iterator.{YieldsList-from_slice}
use Rattle.std.proofs.lemmas.Iterator.Search.{any_from_yields_List}
use Rattle.ceilings.specs.Ceilings.{group_bad}
use Rattle.profile.proofs.Chains.{any_std}
use Rattle.grouping.proofs.some_refused.Goals as goal

pub returns : goal.returns
returns c =
    let a = c.args in
    any_from_yields_List (group_bad a.k a.masks.now) _ _ c.any.result c.any.ensures.ran (YieldsList-from_slice a.groups.now cc) (λ x b q k. search (rules, tests))
    ∙ any_std (group_bad a.k a.masks.now) a.groups.now
