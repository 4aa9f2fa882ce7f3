-- `visible::place_after` meets its contract.
use mathlib.Core.Path.{◌≡◌, sym, ◌∙◌, ap}
use mathlib.Core.Bool.{true, false}
use mathlib.Core.List.{[]}
use Prim.Native.Nat.{◌/◌, ◌^◌}
use native.Mathlib.Omega.{arith}
use borrow.Author.Tests.{eq-eqb, ne_eqb}
use lib.Bits.{bit_and}
use lib.ListN.{length}
use Rattle.profile.specs.Traces.{bit}
use Rattle.profile.proofs.Lists.{filter_no, filter_yes}
use Rattle.profile.proofs.Sets.{shift_mask}
use Rattle.visible.proofs.place_after.Goals as goal

pub returns-then-visible-a-eq1 : goal.returns-then-visible-a-eq1
returns-then-visible-a-eq1 c =
    let a = c.args in
    let e : bit a.visible a.a ≡ true = sym (shift_mask a.visible a.a) ∙ eq-eqb (bit_and (a.visible / 2 ^ a.a) 1) 1 c.if-visible-a-eq1.true in
    omega (arith, ap length (filter_yes (bit a.visible) a.a [] (rw e tt)))

pub returns-else-visible-a-eq1 : goal.returns-else-visible-a-eq1
returns-else-visible-a-eq1 c =
    let a = c.args in
    let e : bit a.visible a.a ≡ false = sym (shift_mask a.visible a.a) ∙ ne_eqb (bit_and (a.visible / 2 ^ a.a) 1) 1 c.if-visible-a-eq1.false in
    omega (arith, ap length (filter_no (bit a.visible) a.a [] (rw e tt)))
