-- `costwalk::swaps_of` meets its contract.
use mathlib.Core.Path.{sym, subst}
use Rattle.orderswaps.specs.Arranged.{Arranged}
use Rattle.costwalk.proofs.swaps_of.Goals as goal

pub swaps-requires : goal.swaps-requires
swaps-requires c =
    let a = c.args in
    record {
      placed = c.requires.placed;
      arranged = subst (λ n. Arranged a.k a.log.now n a.order.now) (sym c.last_counts-whole.ensures) c.requires.arranged;
    }
