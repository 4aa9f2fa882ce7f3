use lib.ListN.{set, length, get_or, drop, length-set, drop_of_length-le}
use mathlib.Core.Path.{◌≡◌, ◌∙◌, ap, ap₂}
use mathlib.Core.List.{◌++◌, map, append-nil}
use Prim.Native.Nat.{ℕ, ◌<◌}
use native.Mathlib.Omega.{arith}
use Rattle.profile.specs.Lists.{below}
use Rattle.profile.specs.Traces.{bit}
use lib.Bits.{bit_or}
use Rattle.expressions.specs.Positions.{when}
use Rattle.profile.proofs.Sets.{shift_mask}
use Rattle.theory.proofs.Fronts.{front_put}
use Rattle.fragments.proofs.Rows.{front_here}
use Rattle.fragments.proofs.link.Goals as goal

pub loop-i-preserved : goal.loop-i-preserved
loop-i-preserved c = let a = c.args in
    let t = a.rows.now in
    let l = c.loop-i in
    let f : ℕ → ℕ = (λ i. bit_or (get_or t i 0) (when (bit a.from i) a.to)) in
    let h : l.i < length t = omega arith in
    let g : bit_or (get_or l.rows l.i 0) c.when-more.result ≡ f l.i =
    ap₂ bit_or (ap (λ r. get_or r l.i 0) l.invariant.1 ∙ front_here f t l.i) (c.when-more.ensures ∙ ap (λ b. when b a.to) (shift_mask a.from l.i)) in
    (simp length-set l.invariant.0, ap₂ (λ r v. set r l.i v) l.invariant.1 g ∙ front_put f t l.i h)

pub shape_of-rows : goal.shape_of-rows
shape_of-rows c = c.loop-i.invariant.0

pub returns : goal.returns
returns c = let a = c.args in
    let t = a.rows.now in
    let l = c.loop-i in
    let f : ℕ → ℕ = (λ i. bit_or (get_or t i 0) (when (bit a.from i) a.to)) in
    let e : l.i ≡ length t = omega arith in
    l.invariant.1 ∙ (ap (λ n. map f (below n) ++ drop n t) e ∙ (ap (λ r. map f (below (length t)) ++ r) (drop_of_length-le t {i = length t} (omega arith)) ∙ append-nil (map f (below (length t)))))
