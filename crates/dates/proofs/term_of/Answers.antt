-- `dates::term_of` meets its contract: the chain tests each term.
use Rattle.std.proofs.Common.{arith, rules, tests}
use mathlib.Core.Path.{◌∙◌}
use Rattle.std.proofs.lemmas.Iterator.{YieldsList-from_range}
use Rattle.std.proofs.lemmas.Iterator.Search.{position_from_yields_List}
use Rattle.profile.proofs.Chains.{first_below}
use Rattle.terms.specs.Terms.{in_term?, term_count}
use Rattle.dates.proofs.term_of.Goals as goal

pub returns : goal.returns
returns c =
    let a = c.args in
    let p = in_term? a.terms.now a.d in
    let n = term_count a.terms.now in
    let found = position_from_yields_List p _ _ c.position.result c.position.ensures.ran (YieldsList-from_range 0 n n (search rules) (omega arith)) (λ i b q k. search (rules, tests)) in
    c.unwrap_or.ensures ∙ first_below p n found
