-- `dates::rise` meets its contract: the chain tests each term.
use Rattle.std.proofs.Common.{arith, rules, tests}
use mathlib.Core.Path.{◌∙◌, ap}
use Rattle.std.proofs.lemmas.Iterator.{YieldsList-from_range}
use Rattle.std.proofs.lemmas.Iterator.Search.{all_from_yields_List}
use Rattle.profile.specs.Lists.{all}
use Rattle.profile.proofs.Chains.{all_std, range_std}
use Rattle.terms.specs.Terms.{rises?, term_count}
use Rattle.dates.proofs.rise.Goals as goal

pub returns : goal.returns
returns c =
    let terms = c.args.terms.now in
    let n = term_count terms in
    all_from_yields_List (rises? terms) _ _ c.all.result c.all.ensures.ran (YieldsList-from_range 0 n n (search rules) (omega arith)) (λ i b q k. search (rules, tests))
    ∙ all_std (rises? terms) _ ∙ ap (all (rises? terms)) (range_std 0 n)
