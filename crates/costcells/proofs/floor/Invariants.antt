-- `costcells::floor` meets its contract. The loop's invariant: below `low` no number has more than the budget at most as large; `high` is `fewest` or has. The measure is what lies between.
use Prim.Native.Nat.{ℕ, ◌-◌, ◌≤◌, ◌<◌}
use mathlib.Core.Path.{◌≡◌}
use mathlib.Core.Logic.{◌⊎◌}
use lib.ListN.{take}
use Rattle.costcells.specs.Cells.{at_most}
use Rattle.costcells.proofs.floor.Given as goal

abbrev pub invariant-loop-low : goal.invariant-loop-low
invariant-loop-low l =
    (l.low ≤ l.high) × (l.high ≤ l.fewest) × ((u : ℕ) → u < l.low → at_most u (take l.n l.costs) ≤ l.budget) × ((l.high ≡ l.fewest) ⊎ (l.budget < at_most l.high (take l.n l.costs)))

abbrev pub decreases-loop-low : goal.decreases-loop-low
decreases-loop-low l = l.high - l.low
