use mathlib.Core.Path.{◌≡◌, refl, sym, ◌∙◌, ap, ap₂}
use mathlib.Core.Bool.{Bool, not, cond}
use Prim.Native.Nat.{ℕ, ◌^◌}
use native.Mathlib.Nat.{one-mul}
use native.Mathlib.Omega.{arith}
use lib.Bits.{bit_or}
use lib.Pow.{shl_exact}
use Rattle.profile.specs.Automata.{row, union}
use Rattle.profile.specs.Lists.{below, filter}
use Rattle.profile.specs.Traces.{bit}
use Rattle.theory.proofs.SetLoops.{union_next}
use Rattle.hidden.proofs.unseen.Goals as goal

pub loop-a-preserved : goal.loop-a-preserved
loop-a-preserved c =
    let a = c.args in
    let l = c.loop-a in
    let f : ℕ → ℕ = λ x. row a.profile.now.shape.k a.profile.now.moves.now a.q x in
    let p : ℕ → Bool = λ x. not (bit a.visible x) in
    c.with_hidden-out.ensures ∙ ap₂ (λ u v. cond (p l.a) (bit_or u v) u) l.invariant c.leads_from-to.ensures ∙ sym (union_next f p l.a (p l.a) refl)

pub returns : goal.returns
returns c =
    let a = c.args in
    let l = c.loop-a in
    let e : l.a ≡ a.profile.now.shape.k = omega arith in
    let one = shl_exact 1 a.q 32 (omega arith) (omega arith) ∙ one-mul (2 ^ a.q) in
    ap₂ bit_or one (l.invariant ∙ ap (λ n. union (λ x. row a.profile.now.shape.k a.profile.now.moves.now a.q x) (filter (λ x. not (bit a.visible x)) (below n))) e)
