-- `ceilings::has` meets its contract: a bit by a shift and a mask; a group has no bit from 16 on.
use mathlib.Core.Path.{sym}
use Prim.Native.Nat.{◌<◌, ◌^◌}
use native.Mathlib.Omega.{arith}
use lib.Dec.{not_T}
use Rattle.profile.specs.Traces.{bit}
use Rattle.profile.proofs.Lists.{is_false}
use Rattle.profile.proofs.Sets.{bit_below, shift_mask}
use Rattle.ceilings.proofs.has.Goals as goal

pub returns-then-x-ge16 : goal.returns-then-x-ge16
returns-then-x-ge16 c =
    let a = c.args in
    sym (is_false (bit a.group a.x) (not_T (bit a.group a.x) (λ t.
    let h : a.group < 2 ^ 16 = omega arith in
    let k = bit_below 16 a.group a.x h t in omega arith)))

pub returns : goal.returns
returns c = shift_mask c.args.group c.args.x
