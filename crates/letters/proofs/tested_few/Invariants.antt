-- `letters::tested_few` meets its contract. The loop's invariant: `out`, united with those of the letters that are left that can be added, is the whole.
-- The measure is the set of the letters that are left, as a number.
use Prim.Native.Nat.{◌^◌, ◌<◌}
use mathlib.Core.Path.{◌≡◌}
use lib.Bits.{bit_or}
use Rattle.profile.specs.Traces.{independent}
use Rattle.letters.specs.Letters.{tested_by}
use Rattle.letters.proofs.tested_few.Given as goal

abbrev pub invariant-loop-rest : goal.invariant-loop-rest
invariant-loop-rest l =
    (l.rest < 2 ^ 32) × (bit_or l.out (tested_by (independent l.by.keepers.now.masks.now) l.by.keepers.now.k l.by.n l.by.placed.now.starts.now l.by.placed.now.places.now l.t l.rest) ≡ tested_by (independent l.by.keepers.now.masks.now) l.by.keepers.now.k l.by.n l.by.placed.now.starts.now l.by.placed.now.places.now l.t l.set)

abbrev pub decreases-loop-rest : goal.decreases-loop-rest
decreases-loop-rest l = l.rest
