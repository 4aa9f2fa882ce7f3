-- `costpasses::fill_there` meets its contract. The loop's invariant: the letters of the records before j have led on, and each cursor stands right.
use mathlib.Core.Path.{◌≡◌}
use mathlib.Core.List.{List}
use Prim.Native.Nat.{ℕ, ◌-◌, ◌<◌}
use lib.ListN.{length}
use Rattle.profile.specs.Limits.{most_letters}
use Rattle.records.specs.Records.{counts_at, records_in}
use Rattle.costcursors.specs.Cursors.{Low}
use Rattle.costtable.proofs.Onward.{Onward}
use Rattle.costtable.proofs.Stepping.{StandsAll}
use Rattle.costpasses.proofs.fill_there.Given as goal

abbrev pub invariant-loop-j : goal.invariant-loop-j
invariant-loop-j l =
    (l.records ≡ records_in l.t) × (l.whole ≡ counts_at l.t (records_in l.t - 1)) × (length l.cursors ≡ most_letters)
    × (l.j < records_in l.t → StandsAll Low l.t l.j l.profile.shape.k l.cursors) × (length l.costs ≡ length l.initial.costs)
    × ((before : List ℕ) → Onward l.profile.shape l.profile.moves.now l.log l.t before l.initial.costs 0 0 → Onward l.profile.shape l.profile.moves.now l.log l.t before l.costs l.j 0)
