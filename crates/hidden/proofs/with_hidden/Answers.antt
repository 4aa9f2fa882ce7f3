-- `hidden::with_hidden` meets its contract.
use mathlib.Core.Path.{◌≡◌, sym, ◌∙◌, ap}
use mathlib.Core.Bool.{true, false, not, cond}
use Prim.Native.Nat.{◌/◌, ◌^◌}
use borrow.Author.Tests.{eq-eqb, ne_eqb}
use lib.Bits.{bit_and, bit_or}
use Rattle.profile.specs.Traces.{bit}
use Rattle.profile.proofs.Sets.{shift_mask}
use Rattle.hidden.proofs.with_hidden.Goals as goal

pub returns-then-visible-a-eq1 : goal.returns-then-visible-a-eq1
returns-then-visible-a-eq1 c =
    let a = c.args in
    let e : bit a.visible a.a ≡ true = sym (shift_mask a.visible a.a) ∙ eq-eqb (bit_and (a.visible / 2 ^ a.a) 1) 1 c.if-visible-a-eq1.true in
    ap (λ b. cond (not b) (bit_or a.set a.to) a.set) (sym e)

pub returns-else-visible-a-eq1 : goal.returns-else-visible-a-eq1
returns-else-visible-a-eq1 c =
    let a = c.args in
    let e : bit a.visible a.a ≡ false = sym (shift_mask a.visible a.a) ∙ ne_eqb (bit_and (a.visible / 2 ^ a.a) 1) 1 c.if-visible-a-eq1.false in
    ap (λ b. cond (not b) (bit_or a.set a.to) a.set) (sym e)
