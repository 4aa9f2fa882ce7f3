-- The `addable_with` of `ByPlaces` meets its contract.
use mathlib.Core.Path.{◌∙◌, ap}
use native.Mathlib.Omega.{arith}
use lib.Bits.{bit_or}
use Rattle.profile.specs.Traces.{independent}
use Rattle.counts.specs.Counts.{words}
use Rattle.letters.specs.Letters.{tested_by}
use Rattle.letters.proofs.Handing.{handed_tested}
use Rattle.letters.proofs.ByPlacesFinder.addable_with.Goals as goal

pub returns : goal.returns
returns c =
    let a = c.args in
    let b = a.self.now in
    let all = tested_by (independent b.keepers.now.masks.now) b.keepers.now.k b.n b.placed.now.starts.now b.placed.now.places.now (words a.c) in
    ap (bit_or a.handed) (c.tested.ensures ∙ ap all c.in_neither-open.ensures)
    ∙ handed_tested (independent b.keepers.now.masks.now) b.keepers.now.k b.n b.placed.now.starts.now b.placed.now.places.now (words a.c) b.keepers.now.few
    a.handed a.passed (omega arith) (omega arith) c.requires
