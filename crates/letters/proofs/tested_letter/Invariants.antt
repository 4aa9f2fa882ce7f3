-- `letters::tested_letter` meets its contract. The loop's invariant: every letter that is not left lets x by. The measure is the set of the letters that are
-- left, as a number.
use Rattle.profile.specs.Prefixes.{at}
use Rattle.profile.specs.Traces.{independent}
use Rattle.events.proofs.Keeping.{Left}
use Rattle.letters.specs.Letters.{next_by}
use Rattle.letters.proofs.tested_letter.Given as goal

abbrev pub invariant-loop-rest : goal.invariant-loop-rest
invariant-loop-rest l = Left (independent l.by.keepers.now.masks.now) l.by.keepers.now.k l.x (at (next_by l.by.keepers.now.k l.by.placed.now.starts.now l.by.placed.now.places.now l.t)) l.rest

abbrev pub decreases-loop-rest : goal.decreases-loop-rest
decreases-loop-rest l = l.rest
