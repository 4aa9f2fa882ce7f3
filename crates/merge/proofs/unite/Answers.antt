use Prim.Native.Nat.{ℕ, ◌-◌, ◌<◌}
use mathlib.Core.Path.{◌≡◌, sym, ◌∙◌, ap}
use native.Mathlib.Omega.{arith}
use lib.Bits.{bit_and, bit_or, and_le_r}
use lib.Count.{count_trailing_zeros}
use lib.ListN.{get_or}
use Rattle.profile.specs.Automata.{forward_step}
use Rattle.profile.specs.Prefixes.{at}
use Rattle.theory.proofs.SetLoops.{rest_first, rest_in}
use Rattle.records.specs.Records.{forward_at, records_in}
use Rattle.merge.specs.declared.Handed.{Handed}
use Rattle.merge.specs.Merge.{inherited, other_letters, passing, united}
use Rattle.parents.proofs.Unions.{over_left, over_none, over_taken}
use Rattle.merge.proofs.unite.Goals as goal
use Rattle.merge.proofs.unite.Goals.{else-x-k, then-x-k}

pub with_parent-out-requires : goal.with_parent-out-requires
with_parent-out-requires c =
    let s = c in
    let l = c.loop-rest in
    let x = count_trailing_zeros 32 l.rest in
    let lt : x < s.args.rows.now.profile.shape.k = omega arith in
    let h : at s.args.cursors.now x < records_in s.args.level.now = s.requires.given x lt (l.invariant.1 x (rest_first l.rest (omega arith) l.invariant.0)) in
    (omega arith, omega arith, h)

pub loop-rest-preserved : goal.loop-rest-preserved
loop-rest-preserved c =
    let b = c in
    let a = b.args in
    let p = a.rows.now.profile in
    let l = c.loop-rest in
    let n = l.rest in
    let x = count_trailing_zeros 32 n in
    let r = bit_and n (n - 1) in
    let some : 0 < n = omega arith in
    let small = l.invariant.0 in
    let f : ℕ → ℕ = λ y. forward_step p.shape.k p.shape.s p.moves.now (forward_at a.level.now (at a.cursors.now y)) y in
    let g : ℕ → ℕ = λ y. other_letters a.level.now (at a.cursors.now y) y in
    let m : ℕ → ℕ = λ y. get_or p.masks.now y 0 in
    let U = united p.shape.k p.shape.s p.moves.now a.level.now a.cursors.now in
    let I = inherited p.shape.k a.level.now a.cursors.now in
    let P = passing p.shape.k p.masks.now in (
      omega (arith, and_le_r n (n - 1), small),
      (λ y q. l.invariant.1 y (rest_in n some small y q)),
      (elim c.if-x-k.branch [
        | then-x-k w ↦ let lt = w.if-x-k.true in
            ap (λ (o : Handed). bit_or o.forward (U r)) w.out-is ∙ ap (λ v. bit_or v (U r)) w.with_parent-out.ensures.0
            ∙ over_taken f p.shape.k n some small l.out.forward lt ∙ l.invariant.2
        | else-x-k w ↦ ap (λ (o : Handed). bit_or o.forward (U r)) w.out-is ∙ ap (bit_or l.out.forward) (over_left f p.shape.k n some small w.if-x-k.false) ∙ l.invariant.2
      ]),
      (elim c.if-x-k.branch [ then-x-k w ↦ ap (λ (o : Handed). bit_or o.letters (I r)) w.out-is ∙ ap (λ v. bit_or v (I r)) w.with_parent-out.ensures.1 ∙ over_taken g p.shape.k n some small l.out.letters w.if-x-k.true ∙ l.invariant.3 | else-x-k w ↦ ap (λ (o : Handed). bit_or o.letters (I r)) w.out-is ∙ ap (bit_or l.out.letters) (over_left g p.shape.k n some small w.if-x-k.false) ∙ l.invariant.3 ]),
      (elim c.if-x-k.branch [ then-x-k w ↦ ap (λ (o : Handed). bit_or o.passed (P r)) w.out-is ∙ ap (λ v. bit_or v (P r)) w.with_parent-out.ensures.2 ∙ over_taken m p.shape.k n some small l.out.passed w.if-x-k.true ∙ l.invariant.4 | else-x-k w ↦ ap (λ (o : Handed). bit_or o.passed (P r)) w.out-is ∙ ap (bit_or l.out.passed) (over_left m p.shape.k n some small w.if-x-k.false) ∙ l.invariant.4 ]),
    )

pub returns : goal.returns
returns c =
    let a = c.args in
    let p = a.rows.now.profile in
    let l = c.loop-rest in
    let f : ℕ → ℕ = λ y. forward_step p.shape.k p.shape.s p.moves.now (forward_at a.level.now (at a.cursors.now y)) y in
    let g : ℕ → ℕ = λ y. other_letters a.level.now (at a.cursors.now y) y in
    let m : ℕ → ℕ = λ y. get_or p.masks.now y 0 in
    let U = united p.shape.k p.shape.s p.moves.now a.level.now a.cursors.now in
    let I = inherited p.shape.k a.level.now a.cursors.now in
    let P = passing p.shape.k p.masks.now in
    let e : 0 ≡ l.rest = omega arith in (
      sym (over_none f p.shape.k l.out.forward) ∙ ap (λ n. bit_or l.out.forward (U n)) e ∙ l.invariant.2,
      sym (over_none g p.shape.k l.out.letters) ∙ ap (λ n. bit_or l.out.letters (I n)) e ∙ l.invariant.3,
      sym (over_none m p.shape.k l.out.passed) ∙ ap (λ n. bit_or l.out.passed (P n)) e ∙ l.invariant.4,
    )
