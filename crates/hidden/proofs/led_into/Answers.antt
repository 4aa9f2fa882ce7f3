use mathlib.Core.Path.{◌≡◌, sym, ◌∙◌, ap, ap₂}
use mathlib.Core.Bool.{Bool, true, false}
use Prim.Native.Nat.{ℕ, ◌^◌}
use native.Mathlib.Nat.{one-mul}
use native.Mathlib.Omega.{arith}
use lib.Bits.{bit_or}
use lib.ListN.{get_or}
use lib.Pow.{shl_exact}
use Rattle.profile.specs.Automata.{meets}
use Rattle.theory.proofs.SetLoops.{union_next}
use Rattle.hidden.specs.Hidden.{led_into}
use Rattle.hidden.proofs.led_into.Goals as goal
use Rattle.hidden.proofs.led_into.Goals.{then-meet, else-meet}

pub returns : goal.returns
returns c =
    let a = c.args in
    let e : c.loop-q.q ≡ a.s = omega arith in
    c.loop-q.invariant ∙ ap (λ n. led_into n a.reach.now a.set) e

pub loop-q-preserved : goal.loop-q-preserved
loop-q-preserved c =
    let a = c.args in
    let l = c.loop-q in
    let p : ℕ → Bool = λ q. meets (get_or a.reach.now q 0) a.set in
    let one = shl_exact 1 l.q 32 (omega arith) (omega arith) ∙ one-mul (2 ^ l.q) in
    let m : p l.q ≡ c.meet.result = sym c.meet.ensures in
    elim c.if-meet.branch [
      | then-meet w ↦ w.out-is ∙ ap₂ bit_or l.invariant one ∙ sym (union_next (λ q. 2 ^ q) p l.q true (m ∙ w.if-meet.true))
      | else-meet w ↦ w.out-is ∙ l.invariant ∙ sym (union_next (λ q. 2 ^ q) p l.q false (m ∙ w.if-meet.false))
    ]
