-- `letters::tested` meets its contract.
use mathlib.Core.Path.{◌∙◌, ap}
use lib.Bits.{bit_and}
use Rattle.profile.specs.Traces.{independent}
use Rattle.counts.specs.Counts.{words}
use Rattle.letters.proofs.Tests.{tested_all}
use Rattle.letters.proofs.tested.Goals as goal

pub returns : goal.returns
returns c =
    let a = c.args in
    ap (λ S. bit_and S a.set) c.addable-found.ensures.0 ∙ tested_all (independent a.by.now.keepers.now.masks.now) a.by.now.keepers.now.k a.by.now.n a.by.now.placed.now.starts.now a.by.now.placed.now.places.now (words a.c) a.set
