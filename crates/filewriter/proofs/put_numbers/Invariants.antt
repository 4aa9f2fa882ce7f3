-- `filewriter::put_numbers` meets its contract. The loop's invariant: the numbers before the index are put.
use lib.ListN.{take}
use Rattle.profile.specs.Lists.{flat_map}
use Rattle.putting.specs.Putting.{Put}
use Rattle.filewriter.proofs.put_numbers.Given as goal

abbrev pub invariant-loop-number : goal.invariant-loop-number
invariant-loop-number g l = Put l.initial.out l.at (flat_map g.T.Written.bytes (take l.number-index l.numbers)) l.out l.to
