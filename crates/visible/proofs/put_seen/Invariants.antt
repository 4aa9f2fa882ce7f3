-- `visible::put_seen` meets its contract. The loop's invariant: the visible part of the letters passed stands in the first `n` places.
use mathlib.Core.Path.{◌≡◌}
use Prim.Native.Nat.{◌≤◌}
use lib.ListN.{length, take}
use Rattle.views.specs.Views.{seen}
use Rattle.visible.proofs.put_seen.Given as goal

abbrev pub invariant-loop-a : goal.invariant-loop-a
invariant-loop-a l =
    (l.n ≤ l.a-index) × (l.n ≡ length (seen l.visible (take l.a-index l.log))) × (take l.n l.part ≡ seen l.visible (take l.a-index l.log))
