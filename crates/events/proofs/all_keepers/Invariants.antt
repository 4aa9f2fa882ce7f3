-- `events::all_keepers` meets its contract. The loop's invariant: the sets of the letters below x are put, the others are 0.
use mathlib.Core.Path.{◌≡◌}
use mathlib.Core.List.{◌++◌, map}
use lib.ListN.{drop, replicate}
use Rattle.profile.specs.Limits.{most_letters}
use Rattle.profile.specs.Lists.{below}
use Rattle.profile.specs.Traces.{independent}
use Rattle.events.specs.Events.{keepers}
use Rattle.events.proofs.all_keepers.Given as goal

abbrev pub invariant-loop-x : goal.invariant-loop-x
invariant-loop-x l = l.set-items ≡ map (keepers (independent l.masks) l.k) (below l.x) ++ drop l.x (replicate most_letters 0)
