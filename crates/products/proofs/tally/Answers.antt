-- `products::tally` meets its contract.
use mathlib.Core.Path.{◌∙◌, ap}
use Prim.Native.Nat.{◌+◌}
use native.Mathlib.Omega.{arith}
use lib.ListN.{get_or, set}
use Rattle.products.proofs.Sizes.{few, letter_below, tally_next}
use Rattle.products.proofs.tally.Goals as goal

pub overflow_add-counts : goal.overflow_add-counts
overflow_add-counts c =
    let l = c.loop-at in
    let w = c.args.log.now in
    omega (arith, few l.counts w (get_or w l.at 0) l.at l.invariant (letter_below w 16 l.at c.requires.1 c.loop-at-test.true) c.requires.0)

pub loop-at-preserved : goal.loop-at-preserved
loop-at-preserved c =
    let l = c.loop-at in
    let w = c.args.log.now in
    ap (λ s. set s (get_or w l.at 0) (get_or s (get_or w l.at 0) 0 + 1)) l.invariant ∙ tally_next w l.at c.loop-at-test.true (letter_below w 16 l.at c.requires.1 c.loop-at-test.true)
