use mathlib.Core.Path.{◌≡◌, ◌∙◌, ap, ap₂}
use Prim.Native.Nat.{ℕ, ◌+◌}
use native.Mathlib.Omega.{arith}
use lib.ListN.{get_or, set, length-set}
use Rattle.profile.specs.Tables.{count_field, layout}
use Rattle.theory.proofs.Fronts.{front_put}
use Rattle.letters.proofs.next_places.Goals as goal

pub loop-y-preserved : goal.loop-y-preserved
loop-y-preserved c =
    let l = c.loop-y in
    let a = c.args in
    let t = c.numbers-t.result in
    let place : ℕ → ℕ → ℕ = λ y n. get_or a.placed.now.places.now (get_or a.placed.now.starts.now y 0 + n) 0 in
    let e : c.next_place.result ≡ place l.y (count_field layout t l.y) = c.next_place.ensures ∙ ap (place l.y) c.count_of-n.ensures in (
      length-set l.next l.y c.next_place.result ∙ l.invariant.0,
      ap₂ (λ n v. set n l.y v) l.invariant.1 e ∙ front_put (λ y. place y (count_field layout t y)) a.next.now l.y (omega arith),
    )
