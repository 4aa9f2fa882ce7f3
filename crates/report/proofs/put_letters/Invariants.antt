-- `report::put_letters` meets its contract. The loop's invariant: the letters before the index are put, in at most four bytes each.
use mathlib.Core.Path.{◌≡◌}
use Prim.Native.Nat.{◌+◌, ◌*◌, ◌≤◌}
use lib.ListN.{length, take}
use Rattle.profile.specs.Lists.{flat_map}
use Rattle.putting.specs.Putting.{Put}
use Rattle.report.specs.Report.{spaced}
use Rattle.report.proofs.put_letters.Given as goal

abbrev pub invariant-loop-letter : goal.invariant-loop-letter
invariant-loop-letter l = record {
  long : length l.out ≡ length l.initial.out;
  put : Put l.initial.out l.at (flat_map spaced (take l.letter-index l.letters)) l.out l.to;
  short : l.to ≤ l.at + 4 * l.letter-index;
}
