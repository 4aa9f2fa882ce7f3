-- `filewriter::put_numbers` meets its contract: one number more is put behind those that are put.
use mathlib.Core.Path.{◌∙◌, ap}
use mathlib.Core.List.{◌++◌}
use native.Mathlib.Omega.{arith}
use lib.ListN.{length, take}
use Rattle.profile.specs.Lists.{flat_map}
use Rattle.putting.proofs.Texts.{flat_map_more, flat_map_room, put_as, put_then}
use Rattle.filewriter.proofs.put_numbers.Goals as goal

pub put-to-requires : goal.put-to-requires
put-to-requires g c =
    let l = c.loop-number in
    let n = c.number-item in
    omega (
      arith,
      c.requires,
      l.invariant.behind,
      flat_map_room g.T.Written.bytes c.args.numbers.now l.number-index n.result c.loop-number-test.true,
      ap (λ x. length (g.T.Written.bytes x)) n.is,
    )

pub loop-number-preserved : goal.loop-number-preserved
loop-number-preserved g c =
    let l = c.loop-number in
    let n = c.number-item in
    let v = c.args.numbers.now in
    let bytes = g.T.Written.bytes in
    put_as (ap (λ x. flat_map bytes (take l.number-index v) ++ bytes x) n.is ∙ flat_map_more bytes v l.number-index n.result c.loop-number-test.true)
    (put_then l.invariant c.put-to.ensures)
