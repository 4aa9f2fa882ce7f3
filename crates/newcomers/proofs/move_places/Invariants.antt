-- `newcomers::move_places` meets its contract.
use mathlib.Core.Path.{◌≡◌}
use Prim.Native.Nat.{ℕ, ◌<◌, ◌≤◌}
use lib.ListN.{get_or, length}
use Rattle.counts.specs.Counts.{words}
use Rattle.newcomers.specs.Newcomers.{PlaceFor}
use Rattle.newcomers.proofs.move_places.Given as goal

abbrev pub invariant-loop-b : goal.invariant-loop-b
invariant-loop-b l = (length l.places ≡ length l.initial.places) × ((x : ℕ) → x < l.b → PlaceFor l.t l.at.first l.at.i l.at.r l.a x (words l.c) (get_or l.initial.places x 0) (get_or l.places x 0)) × ((x : ℕ) → l.b ≤ x → get_or l.places x 0 ≡ get_or l.initial.places x 0)
