use mathlib.Core.Path.{◌≡◌, refl, ◌∙◌, ap, ap₂}
use mathlib.Core.List.{◌++◌, map}
use Prim.Native.Nat.{ℕ, ◌+◌, ◌*◌}
use native.Mathlib.Omega.{arith}
use lib.ListN.{set, drop, length-set}
use Rattle.profile.specs.Lists.{below}
use Rattle.logfile.proofs.Bytes.{front_more}
use Rattle.logfile.proofs.fill.Goals as goal

pub loop-j-init : goal.loop-j-init
loop-j-init g c = (refl, refl)

pub loop-j-preserved : goal.loop-j-preserved
loop-j-preserved g c =
    let l = c.loop-j in
    let a = c.args in
    let value = λ (i : ℕ). g.T.Number.value (drop (a.at + g.T.Number.WIDTH * i) a.f.now) in
    let e = c.number_at.ensures ∙ ap (λ w. g.T.Number.value (drop (a.at + w * l.j) a.f.now)) c.WIDTH.ensures in (
      simp length-set l.invariant.0,
      ap₂ (λ t v. set t l.j v) l.invariant.1 e ∙ front_more value a.numbers.now l.j (omega arith),
    )

pub returns : goal.returns
returns g c =
    let a = c.args in
    let l = c.loop-j in
    let e : l.j ≡ a.n = omega arith in
    l.invariant.1 ∙ ap (λ n. map (λ (i : ℕ). g.T.Number.value (drop (a.at + g.T.Number.WIDTH * i) a.f.now)) (below n) ++ drop n a.numbers.now) e
