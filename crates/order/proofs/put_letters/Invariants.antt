-- `order::put_letters` meets its contract. The loop's invariant: t letters are taken, each the smallest that could come next.
use mathlib.Core.Path.{◌≡◌}
use lib.ListN.{length}
use Rattle.order.proofs.First.{Chosen}
use Rattle.order.proofs.put_letters.Given as goal

abbrev pub invariant-loop-t : goal.invariant-loop-t
invariant-loop-t l =
    (length l.next ≡ length l.initial.next) × (length l.used ≡ length l.initial.used) × (length l.out ≡ length l.initial.out) × Chosen l.keepers.k l.keepers.masks.now l.log l.initial.out l.next l.used l.out l.t
