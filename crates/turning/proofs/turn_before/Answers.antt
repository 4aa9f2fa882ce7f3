-- `turning::turn_before` meets its contract: the next event is in the same term, or in another.
use borrow.Author.Tests.{eq-eqb, ne_eqb}
use mathlib.Core.Path.{◌≡◌}
use Prim.Native.Nat.{◌/◌, ◌%◌}
use native.Mathlib.Omega.{arith}
use Rattle.turns.specs.Turns.{place_bound, turn}
use Rattle.turning.proofs.turn_before.Goals as goal

pub returns-then-turn-t : goal.returns-then-turn-t
returns-then-turn-t c =
    let a = c.args in
    let e : a.turn ≡ turn a.t (a.turn % place_bound) = omega arith in
    rw (eq-eqb (a.turn / place_bound) a.t c.if-turn-t.true) e

pub returns-else-turn-t : goal.returns-else-turn-t
returns-else-turn-t c = let a = c.args in rw (ne_eqb (a.turn / place_bound) a.t c.if-turn-t.false)
