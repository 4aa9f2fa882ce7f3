use Prim.Native.Nat.{ℕ, ◌^◌}
use mathlib.Core.Path.{◌≡◌, sym, ◌∙◌, ap, ap₂}
use mathlib.Core.Bool.{Bool, true, false}
use native.Mathlib.Nat.{one-mul}
use native.Mathlib.Omega.{arith}
use lib.Bits.{bit_or}
use lib.Pow.{shl_exact}
use Rattle.profile.specs.Automata.{meets}
use Rattle.theory.proofs.SetLoops.{union_next}
use Rattle.rows.specs.Rows.{backward_by, led_by}
use Rattle.rows.proofs.backward_by.Goals as goal
use Rattle.rows.proofs.backward_by.Goals.{else-meet, then-meet}

pub loop-q-preserved : goal.loop-q-preserved
loop-q-preserved c =
    let a = c.args in
    let l = c.loop-q in
    let p : ℕ → Bool = λ q. meets (led_by a.rows.now a.a q) a.set in
    let one = shl_exact 1 l.q 32 (omega arith) (omega arith) ∙ one-mul (2 ^ l.q) in
    let m : p l.q ≡ c.meet.result = sym c.meet.ensures in (
      l.invariant.0,
      (elim c.if-meet.branch [ then-meet w ↦ w.out-is ∙ ap₂ bit_or l.invariant.1 one ∙ sym (union_next (λ q. 2 ^ q) p l.q true (m ∙ w.if-meet.true)) | else-meet w ↦ w.out-is ∙ l.invariant.1 ∙ sym (union_next (λ q. 2 ^ q) p l.q false (m ∙ w.if-meet.false)) ]),
    )

pub returns : goal.returns
returns c =
    let a = c.args in
    let e : c.loop-q.q ≡ a.s = omega (arith, c.loop-q.invariant.0) in
    c.loop-q.invariant.1 ∙ ap (λ n. backward_by n a.rows.now a.set a.a) e
