-- `comparison::all_agree` meets its contract: the chain tests each letter, and one order of each pair is enough.
use Rattle.std.proofs.Common.{arith, rules, tests}
use mathlib.Core.Path.{sym, ◌∙◌, ap}
use Rattle.std.proofs.lemmas.Iterator.{YieldsList-from_range}
use Rattle.std.proofs.lemmas.Iterator.Search.{all_from_yields_List}
use Rattle.profile.specs.Lists.{all}
use Rattle.profile.proofs.Chains.{all_std, range_std}
use Rattle.comparison.proofs.Projections.{from_letter, same_half}
use Rattle.comparison.proofs.all_agree.Goals as goal

pub returns : goal.returns
returns c =
    let a = c.args in
    let p = from_letter a.k a.masks.now a.first.now a.second.now in
    all_from_yields_List p _ _ c.all.result c.all.ensures.ran (YieldsList-from_range 0 a.k a.k (search rules) (omega arith)) (λ x b q k. search (rules, tests))
    ∙ all_std p _ ∙ ap (all p) (range_std 0 a.k) ∙ sym (same_half a.k a.masks.now a.first.now a.second.now)
