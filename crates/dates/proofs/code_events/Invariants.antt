-- `dates::code_events` meets its contract. The loop's invariant: the codes before place i are put.
use mathlib.Core.Path.{◌≡◌}
use mathlib.Core.List.{◌++◌, map}
use lib.ListN.{length, drop}
use Rattle.profile.specs.Lists.{below}
use Rattle.dates.proofs.Codes.{code_at}
use Rattle.dates.proofs.code_events.Given as goal

abbrev pub invariant-loop-i : goal.invariant-loop-i
invariant-loop-i l =
    (length l.codes ≡ length l.initial.codes) × (l.codes ≡ map (code_at l.log l.calendar.days.now l.calendar.terms.now) (below l.i) ++ drop l.i l.initial.codes)
