use mathlib.Core.Path.{refl, ◌∙◌}
use Prim.Native.Nat.{◌-◌}
use lib.Bits.{bit_or, and_le_r}
use lib.Count.{trailing_le, count_trailing_zeros}
use lib.ListN.{get_or, length-set}
use Rattle.rulesets.proofs.Spreads.{lowest_name, spread_end, spread_more, spread_start}
use native.Mathlib.Omega.{arith}
use Rattle.rulesets.proofs.spread.Goals as goal

pub loop-rest-init : goal.loop-rest-init
loop-rest-init c = (omega arith, refl, spread_start c.args.x c.args.y c.args.acc.now)

pub overflow_cast-l : goal.overflow_cast-l
overflow_cast-l c = omega (arith, trailing_le 32 c.loop-rest.rest)

pub offset_bounds-acc-l : goal.offset_bounds-acc-l
offset_bounds-acc-l c = omega (arith, trailing_le 32 c.loop-rest.rest)

pub bounds-acc-l : goal.bounds-acc-l
bounds-acc-l c =
    let a = c.args in
    let l = c.loop-rest in
    let n = l.rest in
    let s = l.invariant.2 in
    let lt = lowest_name a.x a.y a.acc.now l.acc n (omega arith) (omega arith) s (omega arith) in
    omega arith

pub offset_bounds-acc-l-in-loop-rest : goal.offset_bounds-acc-l-in-loop-rest
offset_bounds-acc-l-in-loop-rest c = omega (arith, trailing_le 32 c.loop-rest.rest)

pub bounds-acc-l-in-loop-rest : goal.bounds-acc-l-in-loop-rest
bounds-acc-l-in-loop-rest c =
    let a = c.args in
    let l = c.loop-rest in
    let n = l.rest in
    let s = l.invariant.2 in
    let lt = lowest_name a.x a.y a.acc.now l.acc n (omega arith) (omega arith) s (omega arith) in
    omega arith

pub loop-rest-smaller : goal.loop-rest-smaller
loop-rest-smaller c = let n = c.loop-rest.rest in omega (arith, and_le_r n (n - 1))

pub loop-rest-preserved : goal.loop-rest-preserved
loop-rest-preserved c =
    let a = c.args in
    let l = c.loop-rest in
    let n = l.rest in
    let s = l.invariant.2 in
    let lt = lowest_name a.x a.y a.acc.now l.acc n (omega arith) (omega arith) s (omega arith) in
    (omega (arith, and_le_r n (n - 1)), length-set l.acc (count_trailing_zeros 32 n) (bit_or (get_or l.acc (count_trailing_zeros 32 n) 0) a.y) ∙ l.invariant.1, spread_more a.x a.y a.acc.now l.acc n (omega arith) (omega arith) s (omega arith))

pub returns : goal.returns
returns c = let a = c.args in let l = c.loop-rest in spread_end a.x a.y a.acc.now (omega arith) l.invariant.2
