-- `checks::mask_refused` meets its contract: the chain tests each mask.
use mathlib.Core.Path.{◌∙◌, ap}
use mathlib.Core.Bool.{◌||◌}
use Prim.Native.Nat.{ℕ}
use native.Mathlib.Omega.{arith}
use lib.ListN.{length, get_or}
use Rattle.std.proofs.Common.{rules, tests}
use Rattle.std.proofs.lemmas.Iterator.{YieldsList-from_range}
use Rattle.std.proofs.lemmas.Iterator.Search.{any_from_yields_List}
use Rattle.profile.specs.Lists.{any}
use Rattle.profile.specs.Refusals.{bit_from}
use Rattle.profile.specs.Traces.{independent}
use Rattle.profile.proofs.Chains.{any_std, range_std}
use Rattle.checks.proofs.mask_refused.Goals as goal

pub returns : goal.returns
returns c =
    let a = c.args in
    let n = length a.masks.now in
    let p = λ (i : ℕ). bit_from a.k (get_or a.masks.now i 0) || independent a.masks.now i i in
    any_from_yields_List p _ _ c.any.result c.any.ensures.ran (YieldsList-from_range 0 n n (search rules) (omega arith)) (λ i b q k. search (rules, tests))
    ∙ any_std p _ ∙ ap (any p) (range_std 0 n)
