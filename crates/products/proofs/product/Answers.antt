-- `products::product` meets its contract.
use mathlib.Core.Path.{◌≡◌, refl, ◌∙◌, ap}
use Prim.Native.Nat.{◌+◌, ◌*◌}
use native.Mathlib.Omega.{arith}
use lib.ListN.{drop, get_or}
use Rattle.products.specs.Products.{product_of}
use Rattle.products.proofs.Sizes.{product_high, product_next, product_one}
use Rattle.products.proofs.product.Goals as goal
use Rattle.products.proofs.product.Goals.{After-size}

-- one group more
whole : (c : After-size) →
    let a = c.args in
    let l = c.loop-group in
    l.n * (c.size.result + 1) * product_of a.counts.now (drop (l.group-index + 1) a.groups.now) ≡ product_of a.counts.now a.groups.now
whole c =
    let a = c.args in
    let l = c.loop-group in
    ap (λ m. l.n * (m + 1) * product_of a.counts.now (drop (l.group-index + 1) a.groups.now)) c.size.ensures.0
    ∙ product_next a.counts.now a.groups.now l.n l.group-index (get_or a.groups.now l.group-index 0) c.loop-group-test.true refl l.invariant.0

pub returns-then-more-gt-HIGHEST_CEILING : goal.returns-then-more-gt-HIGHEST_CEILING
returns-then-more-gt-HIGHEST_CEILING c =
    let a = c.args in
    let l = c.loop-group in
    product_high _ _ _ (whole (goal.at.returns-then-more-gt-HIGHEST_CEILING c).After-size) (product_one a.counts.now (drop (l.group-index + 1) a.groups.now)) c.if-more-gt-HIGHEST_CEILING.true

pub loop-group-preserved : goal.loop-group-preserved
loop-group-preserved c = (whole (goal.at.loop-group-preserved c).After-size, omega arith)
