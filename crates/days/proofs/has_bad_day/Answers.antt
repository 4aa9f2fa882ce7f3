-- `days::has_bad_day` meets its contract: the chain tests each number.
use mathlib.Core.Path.{◌∙◌}
use mathlib.Core.Bool.{not}
use Rattle.std.proofs.Common.{rules, tests}
use Rattle.std.proofs.lemmas.Iterator.{YieldsList-from_slice}
use Rattle.std.proofs.lemmas.Iterator.Search.{any_from_yields_List}
use Rattle.profile.proofs.Chains.{any_std}
use Rattle.terms.specs.Days.{day?}
use Rattle.days.proofs.has_bad_day.Goals as goal

pub returns : goal.returns
returns c =
    let a = c.args in
    any_from_yields_List (λ d. not (day? d)) _ _ c.any.result c.any.ensures.ran (YieldsList-from_slice a.days.now cc) (λ x b q k. search (rules, tests))
    ∙ any_std (λ d. not (day? d)) a.days.now
