-- `steps::step_forward` meets its contract: the lowest state and the others make the set.
use Prim.Native.Nat.{ℕ, ◌-◌}
use mathlib.Core.Path.{◌≡◌, sym, ◌∙◌, ap}
use native.Mathlib.Omega.{arith}
use lib.Bits.{bit_and, bit_or, and_le_r, or_zero_r}
use lib.Count.{count_trailing_zeros}
use Rattle.profile.specs.Automata.{forward_step, row}
use Rattle.profile.specs.Lists.{below}
use Rattle.profile.specs.Traces.{bit}
use Rattle.profile.proofs.Sets.{not_in_none, or_assoc}
use Rattle.theory.proofs.SetLoops.{lowest}
use Rattle.theory.proofs.Unions.{union_in, union_none, union_out}
use Rattle.steps.proofs.step_forward.Goals as goal
use Rattle.steps.proofs.step_forward.Goals.{then-q-s, else-q-s}

pub returns : goal.returns
returns c =
    let a = c.args in
    let step : ℕ → ℕ = λ S. forward_step a.k a.s a.moves.now S a.a in
    let none : step 0 ≡ 0 = union_none (λ q. row a.k a.moves.now q a.a) (bit 0) (below a.s) not_in_none in
    let e : c.loop-rest.rest ≡ 0 = omega arith in
    let out = c.loop-rest.out in
    sym (ap (bit_or out) (ap step e ∙ none) ∙ or_zero_r out) ∙ c.loop-rest.invariant.1

pub loop-rest-preserved : goal.loop-rest-preserved
loop-rest-preserved c =
    let a = c.args in
    let step : ℕ → ℕ = λ S. forward_step a.k a.s a.moves.now S a.a in
    let f : ℕ → ℕ = λ q. row a.k a.moves.now q a.a in
    let out = c.loop-rest.out in
    let n = c.loop-rest.rest in
    let i = c.loop-rest.invariant.1 in
    let q = count_trailing_zeros 32 n in
    let r = bit_and n (n - 1) in
    let e = ap step (lowest 32 n (omega arith) (omega arith)) in (
      omega (arith, and_le_r n (n - 1)),
      elim c.if-q-s.branch [
        | then-q-s w ↦
            ap (λ o. bit_or o (step r)) (w.out-is ∙ ap (bit_or out) w.leads_from-out.ensures) ∙ or_assoc out (f q) (step r)
            ∙ ap (bit_or out) (sym (union_in f q r a.s w.if-q-s.true) ∙ e) ∙ i
        | else-q-s w ↦ ap (λ o. bit_or o (step r)) w.out-is ∙ ap (bit_or out) (sym (union_out f q r a.s w.if-q-s.false) ∙ e) ∙ i
      ],
    )
