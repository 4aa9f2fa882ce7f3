-- `fragments::stars_end` meets its contract.
use mathlib.Core.Path.{◌≡◌}
use Prim.Native.Nat.{◌+◌}
use lib.ListN.{drop}
use Rattle.fragments.specs.Parts.{stars}
use Rattle.fragments.proofs.stars_end.Given as goal

abbrev pub invariant-loop-at : goal.invariant-loop-at
invariant-loop-at l = l.from + stars (drop l.from l.text) ≡ l.at + stars (drop l.at l.text)
