-- `events::keepers_of` meets its contract. The loop's invariant: the letters below y are done.
use mathlib.Core.Path.{◌≡◌}
use Rattle.profile.specs.Traces.{independent}
use Rattle.events.specs.Events.{keepers}
use Rattle.events.proofs.keepers_of.Given as goal

abbrev pub invariant-loop-y : goal.invariant-loop-y
invariant-loop-y l = l.set ≡ keepers (independent l.masks) l.y l.x
