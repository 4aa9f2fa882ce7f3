-- `logcheck::bad_place` meets its contract: the chain tests each letter.
use mathlib.Core.Path.{sym, ◌∙◌, ap, ap₂}
use mathlib.Core.Bool.{cond}
use Rattle.std.proofs.Common.{rules, tests, Some, None}
use Rattle.std.proofs.lemmas.Iterator.{YieldsList-from_slice}
use Rattle.std.proofs.lemmas.Iterator.Search.{position_from_yields_List}
use lib.Dec.{leb, ltb}
use lib.ListN.{length}
use Rattle.profile.proofs.Chains.{first_std}
use Rattle.logcheck.proofs.Search.{any_first}
use Rattle.logcheck.proofs.bad_place.Goals as goal

pub returns : goal.returns
returns c =
    let a = c.args in
    let l = a.log.now in
    position_from_yields_List (leb a.k) _ _ c.position.result c.position.ensures.ran (YieldsList-from_slice l cc) (λ x b q k. search (rules, tests))
    ∙ ap₂ (λ b n. cond b (Some n) None) (ap (λ n. ltb n (length l)) (first_std (leb a.k) l) ∙ sym (any_first (leb a.k) l)) (first_std (leb a.k) l)
