-- `costwalk::put_closest` meets its contract. The loop's invariant: i letters are written and taken (`Walks`).
use mathlib.Core.Path.{◌≡◌}
use lib.ListN.{length}
use Rattle.counts.specs.Counts.{words}
use Rattle.costwalk.proofs.Walking.{Walks}
use Rattle.costwalk.proofs.put_closest.Given as goal

abbrev pub invariant-loop-i : goal.invariant-loop-i
invariant-loop-i l =
    (length l.order ≡ length l.initial.order) × Walks l.profile.shape l.profile.moves.now l.t l.log l.placed.starts.now l.placed.places.now l.costs l.fewest l.initial.order l.i l.order (words l.taken.counts) l.taken.states l.taken.left
