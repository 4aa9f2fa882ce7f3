use Prim.Native.Nat.{◌-◌, ◌<◌}
use mathlib.Core.Path.{◌≡◌, sym, ◌∙◌, ap}
use native.Mathlib.Omega.{arith}
use lib.Bits.{bit_and, bit_or, and_le_r}
use Rattle.profile.specs.Traces.{independent}
use Rattle.parents.proofs.Unions.{over_left, over_none, over_taken}
use Rattle.letters.specs.Letters.{letter_by, tested_by}
use Rattle.letters.proofs.tested_few.Goals as goal
use Rattle.letters.proofs.tested_few.Goals.{else-x-by, then-x-by}

pub loop-rest-preserved : goal.loop-rest-preserved
loop-rest-preserved c =
    let a = c.args in
    let l = c.loop-rest in
    let n = l.rest in
    let t = c.numbers-t.result in
    let r = bit_and n (n - 1) in
    let some : 0 < n = omega arith in
    let f = letter_by (independent a.by.now.keepers.now.masks.now) a.by.now.keepers.now.k a.by.now.n a.by.now.placed.now.starts.now a.by.now.placed.now.places.now t in
    let all = tested_by (independent a.by.now.keepers.now.masks.now) a.by.now.keepers.now.k a.by.now.n a.by.now.placed.now.starts.now a.by.now.placed.now.places.now t in (
      omega (arith, and_le_r n (n - 1), l.invariant.0),
      (elim c.if-x-by.branch [ then-x-by w ↦ ap (λ o. bit_or o (all r)) (w.out-is ∙ ap (bit_or l.out) w.tested_letter-out.ensures) ∙ over_taken f a.by.now.keepers.now.k n some l.invariant.0 l.out w.if-x-by.true ∙ l.invariant.1 | else-x-by w ↦ ap (λ o. bit_or o (all r)) w.out-is ∙ ap (bit_or l.out) (over_left f a.by.now.keepers.now.k n some l.invariant.0 w.if-x-by.false) ∙ l.invariant.1 ]),
    )

pub returns : goal.returns
returns c =
    let a = c.args in
    let l = c.loop-rest in
    let t = c.numbers-t.result in
    let f = letter_by (independent a.by.now.keepers.now.masks.now) a.by.now.keepers.now.k a.by.now.n a.by.now.placed.now.starts.now a.by.now.placed.now.places.now t in
    let all = tested_by (independent a.by.now.keepers.now.masks.now) a.by.now.keepers.now.k a.by.now.n a.by.now.placed.now.starts.now a.by.now.placed.now.places.now in
    let e : 0 ≡ l.rest = omega arith in
    sym (over_none f a.by.now.keepers.now.k l.out) ∙ ap (λ n. bit_or l.out (all t n)) e ∙ l.invariant.1 ∙ ap (λ v. all v a.set) c.numbers-t.ensures
