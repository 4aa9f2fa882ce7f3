-- `products::size` meets its contract.
use mathlib.Core.Path.{◌≡◌, sym, ◌∙◌, ap, ap₂}
use mathlib.Core.List.{map}
use Prim.Native.Nat.{◌+◌}
use native.Mathlib.Omega.{arith}
use Rattle.profile.specs.Lists.{below, filter}
use Rattle.profile.specs.Prefixes.{at, total}
use Rattle.profile.specs.Traces.{bit}
use Rattle.products.specs.Products.{size_of}
use Rattle.products.proofs.Sizes.{sum_next}
use Rattle.products.proofs.size.Goals as goal

pub loop-x-preserved : goal.loop-x-preserved
loop-x-preserved c =
    let a = c.args in
    let l = c.loop-x in
    (ap₂ ◌+◌ l.invariant.0 c.part-n.ensures.0 ∙ sym (sum_next (at a.counts.now) (bit a.group) l.x), omega (arith, l.invariant.1, c.part-n.ensures.1))

pub returns : goal.returns
unfolding size_of
returns c =
    let a = c.args in
    let e : c.loop-x.x ≡ 16 = omega arith in
    (c.loop-x.invariant.0 ∙ ap (λ n. total (map (at a.counts.now) (filter (bit a.group) (below n)))) e, omega (arith, c.loop-x.invariant.1))
