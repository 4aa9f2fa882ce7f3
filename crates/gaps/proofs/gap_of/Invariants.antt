-- `gaps::gap_of` meets its contract.
use mathlib.Core.Path.{◌≡◌}
use Prim.Native.Nat.{◌*◌, ◌≤◌}
use Rattle.profile.specs.Tables.{count_field, layout}
use Rattle.gaps.proofs.Gaps.{Inside, events as events_below}
use Rattle.gaps.proofs.gap_of.Given as goal

abbrev pub invariant-loop-x : goal.invariant-loop-x
invariant-loop-x l = (l.events ≤ 65535 * l.x) × (l.events ≡ events_below (count_field layout l.c) (count_field layout l.e) l.x) × Inside (count_field layout l.c) (count_field layout l.e) l.x
