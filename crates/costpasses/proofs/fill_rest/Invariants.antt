-- `costpasses::fill_rest` meets its contract. The loop's invariant: the letters of the records from j on have led back, and each cursor stands right.
use mathlib.Core.Path.{◌≡◌}
use mathlib.Core.List.{List}
use Prim.Native.Nat.{ℕ, suc, ◌-◌, ◌<◌}
use lib.ListN.{length}
use Rattle.profile.specs.Limits.{most_letters}
use Rattle.records.specs.Records.{counts_at, records_in}
use Rattle.costcursors.specs.Cursors.{High}
use Rattle.costtable.proofs.Backward.{Backward}
use Rattle.costtable.proofs.Stepping.{StandsAll}
use Rattle.costpasses.proofs.fill_rest.Given as goal

abbrev pub invariant-loop-j : goal.invariant-loop-j
invariant-loop-j l =
    (l.j < records_in l.t) × (l.whole ≡ counts_at l.t (records_in l.t - 1)) × (length l.cursors ≡ most_letters)
    × ((i : ℕ) → suc i ≡ l.j → StandsAll High l.t i l.profile.shape.k l.cursors) × (length l.costs ≡ length l.initial.costs)
    × ((before : List ℕ) → Backward l.profile.shape l.profile.moves.now l.log l.t before l.initial.costs (records_in l.t - 1) l.profile.shape.k → Backward l.profile.shape l.profile.moves.now l.log l.t before l.costs l.j l.profile.shape.k)
