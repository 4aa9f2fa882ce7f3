-- `commutation::independent` meets its contract: a bit by a shift and a mask; a mask that is not there is 0, and a mask has no bit from 16 on.
use borrow.Author.Rules.{rules}
use mathlib.Core.Path.{sym, ◌∙◌, ap}
use lib.Dec.{not_T}
use native.Mathlib.Omega.{arith}
use lib.ListN.{get_or, get_or-eq_default}
use Prim.Native.Nat.{◌<◌, ◌^◌}
use Rattle.profile.specs.Traces.{bit}
use Rattle.profile.proofs.Lists.{is_false}
use Rattle.profile.proofs.Sets.{bit_below, bit_none, shift_mask}
use Rattle.commutation.proofs.independent.Goals as goal

pub returns-then-masks-i : goal.returns-then-masks-i
returns-then-masks-i c = sym (ap (λ m. bit m c.args.j) (get_or-eq_default c.args.masks.now 0 c.if-masks-i.true) ∙ bit_none c.args.j)

pub returns-then-j-ge16 : goal.returns-then-j-ge16
returns-then-j-ge16 c =
    let a = c.args in
    let m = get_or a.masks.now a.i 0 in
    sym (is_false (bit m a.j) (not_T (bit m a.j) (λ t.
    let h : m < 2 ^ 16 = omega (arith, c.type_inv.masks a.i) in
    let k = bit_below 16 m a.j h t in omega arith)))

pub returns : goal.returns
returns c = let a = c.args in shift_mask (get_or a.masks.now a.i 0) a.j
