-- `comparison::agree` meets its contract: what the two filters give is compared.
use mathlib.Core.Path.{refl, ◌∙◌, ap₂}
use Prim.Native.Nat.{ℕ}
use Rattle.std.specs.Borrow.{Bor}
use Rattle.std.proofs.Common.{rules, tests}
use Rattle.std.proofs.lemmas.Iterator.{YieldsList-from_slice}
use Rattle.std.proofs.lemmas.Iterator.Consumers.{YieldsList-from_filter}
use Rattle.profile.specs.Lists.{equal?}
use Rattle.comparison.proofs.Equals.{eq_from_yields_List, filter_std}
use Rattle.comparison.proofs.Projections.{kept?}
use Rattle.comparison.proofs.agree.Goals as goal

pub returns : goal.returns
returns c =
    let a = c.args in
    let p = kept? a.x a.y in
    let v = a.first.now in
    let w = a.second.now in
    eq_from_yields_List _ _ (λ (y : Bor ℕ). y.now) _ (λ (m n : Bor ℕ). refl) c.filter.result c.eq.result c.eq.ensures.ran
    (YieldsList-from_filter _ p (YieldsList-from_slice v cc) c.filter-kept.ensures.closure (λ x b q k. search (rules, tests)))
    (YieldsList-from_filter _ p (YieldsList-from_slice w cc) c.filter.ensures.closure (λ x b q k. search (rules, tests)))
    ∙ ap₂ equal? (filter_std p v) (filter_std p w)
