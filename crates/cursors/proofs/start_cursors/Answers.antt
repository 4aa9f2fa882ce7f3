use Prim.Native.Nat.{ℕ, ◌<◌}
use mathlib.Core.Path.{◌∙◌, ap₂}
use native.Mathlib.Omega.{arith}
use lib.ListN.{length, length-set, set}
use Rattle.cursors.specs.Cursors.{seek_from}
use Rattle.theory.proofs.Fronts.{front_put}
use Rattle.cursors.proofs.start_cursors.Goals as goal

pub loop-x-preserved : goal.loop-x-preserved
loop-x-preserved c =
    let a = c.args in
    let t = a.level.now in
    let cs = a.cursors.now in
    let l = c.loop-x in
    let x = l.x in
    let f : ℕ → ℕ = seek_from t 0 in
    let h : x < length cs = omega arith in (
      simp length-set l.invariant.0,
      ap₂ (λ i j. set i x j) l.invariant.1 c.seek-first.ensures ∙ front_put f cs x h,
    )
