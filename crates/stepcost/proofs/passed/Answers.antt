use native.Mathlib.Omega.{arith}
use Prim.Native.Nat.{◌+◌, ◌-◌, ◌/◌, ◌≤◌}
use Rattle.profile.specs.Prefixes.{count}
use Rattle.stepcost.proofs.Sums.{before_of, few_of, not_before_of, placed_at, take_le}
use Rattle.stepcost.proofs.passed.Goals as goal

pub loop-low-init : goal.loop-low-init
loop-low-init c =
    let a = c.args in
    let r = take_le a.log.now a.place a.y in
    (omega arith, omega arith, omega arith, omega arith, omega (arith, r))

pub overflow_cast-middle : goal.overflow_cast-middle
overflow_cast-middle c =
    let b = c in
    let f = few_of b.args.log.now b.args.y in
    let g = b.requires.placed.few in
    omega (arith, f, g)

pub loop-low-preserved-then-next_place-place : goal.loop-low-preserved-then-next_place-place
loop-low-preserved-then-next_place-place c =
    let b = c in
    let a = b.args in
    let l = c.loop-low in
    let m = l.low + (l.high - l.low) / 2 in
    let h : m ≤ count (λ a. a) a.log.now a.y = omega arith in
    let e = placed_at a.k a.log.now a.placed.now.starts.now a.placed.now.places.now a.y m b.requires.placed (omega arith) h in
    let r = before_of a.log.now a.y m a.place h (omega arith) (omega (arith, e, c.next_place.ensures, c.if-next_place-place.true)) in
    (omega arith, omega arith, omega arith, omega (arith, r), omega arith)

pub loop-low-preserved : goal.loop-low-preserved
loop-low-preserved c =
    let b = c in
    let a = b.args in
    let l = c.loop-low in
    let m = l.low + (l.high - l.low) / 2 in
    let h : m ≤ count (λ a. a) a.log.now a.y = omega arith in
    let e = placed_at a.k a.log.now a.placed.now.starts.now a.placed.now.places.now a.y m b.requires.placed (omega arith) h in
    let r = not_before_of a.log.now a.y m a.place h (omega arith) (omega (arith, e, c.next_place.ensures, c.if-next_place-place.false)) in
    (omega arith, omega arith, omega arith, omega arith, omega (arith, r))

pub returns : goal.returns
returns c = omega arith
