-- `order::least_next` meets its contract: the chain tests each letter.
use Rattle.std.proofs.Common.{arith, rules, tests}
use mathlib.Core.Path.{◌∙◌}
use Rattle.std.proofs.lemmas.Iterator.{YieldsList-from_range}
use Rattle.std.proofs.lemmas.Iterator.Search.{position_from_yields_List}
use Rattle.profile.specs.Traces.{independent}
use Rattle.profile.proofs.Chains.{first_below}
use Rattle.events.specs.Events.{comes_next?}
use Rattle.order.proofs.least_next.Goals as goal

pub returns : goal.returns
returns c =
    let a = c.args in
    let p = comes_next? (independent a.keepers.now.masks.now) a.keepers.now.k a.n a.next.now in
    let found = position_from_yields_List p _ _ c.position.result c.position.ensures.ran (YieldsList-from_range 0 a.keepers.now.k a.keepers.now.k (search rules) (omega arith)) (λ x b q k. search (rules, tests)) in
    c.unwrap_or.ensures ∙ first_below p a.keepers.now.k found
