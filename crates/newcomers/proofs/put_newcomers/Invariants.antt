-- `newcomers::put_newcomers` meets its contract.
use mathlib.Core.Path.{◌≡◌}
use lib.ListN.{length}
use Rattle.profile.specs.Automata.{lent}
use Rattle.newcomers.specs.Newcomers.{Tried}
use Rattle.newcomers.proofs.put_newcomers.Given as goal

abbrev pub invariant-loop-r : goal.invariant-loop-r
invariant-loop-r l = (length l.places ≡ 16) × Tried (lent l.profile) l.n l.a l.initial.t l.r l.i l.t l.places
