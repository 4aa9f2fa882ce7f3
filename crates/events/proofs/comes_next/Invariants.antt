-- `events::comes_next` meets its contract. The loop's invariant: every letter that is not left lets x by. The measure is the number of the letters that are left.
use Rattle.profile.specs.Prefixes.{at}
use Rattle.profile.specs.Traces.{independent}
use Rattle.events.proofs.Keeping.{Left}
use Rattle.events.proofs.comes_next.Given as goal

abbrev pub invariant-loop-rest : goal.invariant-loop-rest
invariant-loop-rest l = Left (independent l.keepers.masks.now) l.keepers.k l.x (at l.next) l.rest

abbrev pub decreases-loop-rest : goal.decreases-loop-rest
decreases-loop-rest l = l.rest
