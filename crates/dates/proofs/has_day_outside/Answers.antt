-- `dates::has_day_outside` meets its contract: the chain tests each day.
use mathlib.Core.Path.{◌∙◌}
use mathlib.Core.Bool.{not}
use Rattle.std.proofs.Common.{rules, tests}
use Rattle.std.proofs.lemmas.Iterator.{YieldsList-from_slice}
use Rattle.std.proofs.lemmas.Iterator.Search.{any_from_yields_List}
use Rattle.profile.proofs.Chains.{any_std}
use Rattle.terms.specs.Terms.{has_term?}
use Rattle.dates.proofs.has_day_outside.Goals as goal

pub returns : goal.returns
returns c =
    let a = c.args.calendar.now in
    any_from_yields_List (λ d. not (has_term? a.terms.now d)) _ _ c.any.result c.any.ensures.ran (YieldsList-from_slice a.days.now cc) (λ x b q k. search (rules, tests))
    ∙ any_std (λ d. not (has_term? a.terms.now d)) a.days.now
