-- `comparison::pairs_agree` meets its contract: the chain tests each letter.
use Rattle.std.proofs.Common.{arith, rules, tests}
use mathlib.Core.Path.{◌∙◌, ap}
use Prim.Native.Nat.{◌-◌}
use Rattle.std.proofs.lemmas.Iterator.{YieldsList-from_range}
use Rattle.std.proofs.lemmas.Iterator.Search.{all_from_yields_List}
use Rattle.profile.specs.Lists.{all}
use Rattle.profile.proofs.Chains.{all_std, range_std}
use Rattle.comparison.specs.Comparison.{pair_agrees?}
use Rattle.comparison.proofs.pairs_agree.Goals as goal

pub returns : goal.returns
returns c =
    let a = c.args in
    let p = pair_agrees? a.masks.now a.first.now a.second.now a.x in
    all_from_yields_List p _ _ c.all.result c.all.ensures.ran (YieldsList-from_range a.x a.k (a.k - a.x) (search rules) (omega arith)) (λ y b q k. search (rules, tests))
    ∙ all_std p _ ∙ ap (all p) (range_std a.x (a.k - a.x))
