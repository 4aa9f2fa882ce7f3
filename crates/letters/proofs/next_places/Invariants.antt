-- `letters::next_places` meets its contract. The loop's invariant: the letters below y are done.
use mathlib.Core.Path.{◌≡◌}
use mathlib.Core.List.{◌++◌}
use lib.ListN.{length, drop}
use Rattle.letters.specs.Letters.{next_by}
use Rattle.letters.proofs.next_places.Given as goal

abbrev pub invariant-loop-y : goal.invariant-loop-y
invariant-loop-y l = (length l.next ≡ length l.initial.next) × (l.next ≡ next_by l.y l.placed.starts.now l.placed.places.now l.t ++ drop l.y l.initial.next)
