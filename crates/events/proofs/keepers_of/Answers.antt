use mathlib.Core.Path.{◌≡◌, sym, ◌∙◌, ap₂}
use mathlib.Core.Bool.{true, false}
use Prim.Native.Nat.{◌*◌, ◌%◌, ◌^◌}
use native.Mathlib.Nat.{one-mul}
use native.Mathlib.Omega.{arith}
use lib.Bits.{bit_or}
use lib.Pow.{shl_exact}
use Rattle.profile.specs.Traces.{independent}
use Rattle.theory.proofs.SetLoops.{union_next}
use Rattle.events.specs.Events.{keeps?}
use Rattle.events.proofs.keepers_of.Goals as goal
use Rattle.events.proofs.keepers_of.Goals.{else-keeps, then-keeps}

pub loop-y-preserved : goal.loop-y-preserved
loop-y-preserved c =
    let a = c.args in
    let l = c.loop-y in
    let p = keeps? (independent a.masks.now) a.x in
    let e : p l.y ≡ c.keeps.result = sym c.keeps.ensures in
    let one : 1 * 2 ^ l.y % 2 ^ 32 ≡ 2 ^ l.y = shl_exact {a = 1} 1 l.y 32 (omega arith) (omega arith) ∙ one-mul (2 ^ l.y) in
    (elim c.if-keeps.branch [ then-keeps w ↦ w.set-is ∙ ap₂ bit_or l.invariant one ∙ sym (union_next (λ y. 2 ^ y) p l.y true (e ∙ w.if-keeps.true)) | else-keeps w ↦ w.set-is ∙ l.invariant ∙ sym (union_next (λ y. 2 ^ y) p l.y false (e ∙ w.if-keeps.false)) ])
