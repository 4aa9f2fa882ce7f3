use mathlib.Core.Path.{◌≡◌, ◌∙◌, subst}
use Prim.Native.Nat.{ℕ, ◌-◌, ◌≤◌}
use native.Mathlib.Omega.{arith}
use mathlib.Core.List.{List}
use lib.ListN.{length, length-set, set}
use Rattle.turns.specs.Turns.{past_terms, turn}
use Rattle.turning.proofs.Steps.{Put, place_within, put_no, put_all, put_room, put_start, put_yes, term_below, turns_some}
use Rattle.turning.proofs.put_turns_of.Goals as goal
use Rattle.turning.proofs.put_turns_of.Goals.{Then-e-x}

pub overflow_sub-to : goal.overflow_sub-to
overflow_sub-to c = let a = c.args in omega (arith, turns_some a.events.now a.x)

pub bounds-turns-to : goal.bounds-turns-to
bounds-turns-to c = let a = c.args in omega (arith, turns_some a.events.now a.x)

pub loop-i-init : goal.loop-i-init
loop-i-init c = let a = c.args in put_start a.events.now a.x a.end a.turns.now (omega (arith, turns_some a.events.now a.x))

pub overflow_cast-e : goal.overflow_cast-e
overflow_cast-e c = omega (arith, c.type_inv.events (c.loop-i.i - 1))

pub turn_before-turn-requires : goal.turn_before-turn-requires
turn_before-turn-requires c =
    let s = c in
    let w = s.args.events.now in
    let l = c.loop-i in (
      term_below w s.args.x (l.i - 1) (omega (arith, l.invariant.inside, c.loop-i-test.true)) s.requires.1,
      omega (arith, l.invariant.next_is, place_within w s.args.x l.i l.invariant.inside),
    )

-- the list with its first store
abbrev stored : List ℕ → ℕ → List ℕ → List ℕ
stored turns end events = set turns (end - 1) (turn past_terms (length events))

stored-length : (turns : List ℕ) (end : ℕ) (events : List ℕ) → length (stored turns end events) ≡ length turns
stored-length turns end events = length-set turns (end - 1) (turn past_terms (length events))

-- an event of the letter has room for its turn
place-left : (c : Then-e-x) → 1 ≤ c.loop-i.to
place-left c =
    let a = c.args in
    put_room a.events.now a.x a.end (stored a.turns.now a.end a.events.now) c.loop-i-test.true c.loop-i.invariant c.if-e-x.true c.requires.0 c.requires.1 c.requires.2

pub overflow_sub-to-then-e-x : goal.overflow_sub-to-then-e-x
overflow_sub-to-then-e-x c = place-left (goal.at.overflow_sub-to-then-e-x c).Then-e-x

pub bounds-turns-to-then-e-x : goal.bounds-turns-to-then-e-x
bounds-turns-to-then-e-x c =
    let a = c.args in
    let l = c.loop-i in
    omega (arith, place-left (goal.at.bounds-turns-to-then-e-x c).Then-e-x, l.invariant.long, l.invariant.room, stored-length a.turns.now a.end a.events.now)

pub shape_of-turns : goal.shape_of-turns
shape_of-turns c = let a = c.args in c.loop-i.invariant.long ∙ stored-length a.turns.now a.end a.events.now

pub loop-i-preserved-then-e-x : goal.loop-i-preserved-then-e-x
loop-i-preserved-then-e-x c =
    let a = c.args in
    put_yes a.events.now a.x a.end (stored a.turns.now a.end a.events.now) c.loop-i-test.true c.loop-i.invariant c.if-e-x.true c.requires.0 c.requires.1 c.turn_before-turn.ensures c.requires.2
    (omega (arith, stored-length a.turns.now a.end a.events.now))

pub loop-i-preserved : goal.loop-i-preserved
loop-i-preserved c =
    let a = c.args in
    put_no a.events.now a.x a.end (stored a.turns.now a.end a.events.now) c.loop-i-test.true c.loop-i.invariant c.if-e-x.false

pub returns : goal.returns
returns c =
    let a = c.args in
    let l = c.loop-i in
    let z : l.i ≡ 0 = omega arith in
    put_all a.events.now a.x a.end a.turns.now (turn past_terms (length a.events.now))
    (subst (λ m. Put a.events.now a.x a.end (stored a.turns.now a.end a.events.now) l.turns m l.to l.turn l.next) z l.invariant)
