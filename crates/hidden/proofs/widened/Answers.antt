-- `hidden::widened` meets its contract.
use mathlib.Core.Path.{◌≡◌, sym, ◌∙◌, ap}
use mathlib.Core.Bool.{true, false, cond}
use Prim.Native.Nat.{◌^◌}
use native.Mathlib.Nat.{one-mul}
use native.Mathlib.Omega.{arith}
use lib.Bits.{bit_or}
use lib.Pow.{shl_exact}
use Rattle.profile.specs.Automata.{meets}
use Rattle.profile.specs.Traces.{bit}
use Rattle.hidden.proofs.Rounds.{meets_one}
use Rattle.hidden.proofs.widened.Goals as goal

pub returns-then-meet : goal.returns-then-meet
returns-then-meet c =
    let a = c.args in
    let e : bit a.set a.n ≡ true = sym (meets_one a.set a.n) ∙ ap (meets a.set) (sym (shl_exact 1 a.n 32 (omega arith) (omega arith) ∙ one-mul (2 ^ a.n))) ∙ sym c.meet.ensures ∙ c.if-meet.true in
    ap (λ b. cond b (bit_or a.set a.over) a.set) (sym e)

pub returns-else-meet : goal.returns-else-meet
returns-else-meet c =
    let a = c.args in
    let e : bit a.set a.n ≡ false = sym (meets_one a.set a.n) ∙ ap (meets a.set) (sym (shl_exact 1 a.n 32 (omega arith) (omega arith) ∙ one-mul (2 ^ a.n))) ∙ sym c.meet.ensures ∙ c.if-meet.false in
    ap (λ b. cond b (bit_or a.set a.over) a.set) (sym e)
