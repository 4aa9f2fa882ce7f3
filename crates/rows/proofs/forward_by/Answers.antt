use Prim.Native.Nat.{ℕ, ◌^◌}
use mathlib.Core.Path.{◌≡◌, sym, ◌∙◌, ap}
use mathlib.Core.Bool.{true, false}
use native.Mathlib.Nat.{one-mul}
use native.Mathlib.Omega.{arith}
use lib.Bits.{bit_or}
use lib.Pow.{shl_exact}
use Rattle.profile.specs.Automata.{meets}
use Rattle.profile.specs.Traces.{bit}
use Rattle.theory.proofs.SetLoops.{union_next}
use Rattle.rows.specs.Rows.{forward_by, led_by}
use Rattle.rows.proofs.Steps.{meets_one}
use Rattle.rows.proofs.forward_by.Goals as goal
use Rattle.rows.proofs.forward_by.Goals.{else-meet, then-meet}

pub loop-q-preserved : goal.loop-q-preserved
loop-q-preserved c =
    let a = c.args in
    let l = c.loop-q in
    let f : ℕ → ℕ = led_by a.rows.now a.a in
    let one = shl_exact 1 l.q 32 (omega arith) (omega arith) ∙ one-mul (2 ^ l.q) in
    let m : bit a.set l.q ≡ c.meet.result = sym (c.meet.ensures ∙ ap (meets a.set) one ∙ meets_one a.set l.q) in (
      l.invariant.0,
      (elim c.if-meet.branch [ then-meet w ↦ w.out-is ∙ ap (λ o. bit_or o (f l.q)) l.invariant.1 ∙ sym (union_next f (bit a.set) l.q true (m ∙ w.if-meet.true)) | else-meet w ↦ w.out-is ∙ l.invariant.1 ∙ sym (union_next f (bit a.set) l.q false (m ∙ w.if-meet.false)) ]),
    )

pub returns : goal.returns
returns c =
    let a = c.args in
    let e : c.loop-q.q ≡ a.s = omega (arith, c.loop-q.invariant.0) in
    c.loop-q.invariant.1 ∙ ap (λ n. forward_by n a.rows.now a.set a.a) e
