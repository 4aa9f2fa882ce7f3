use mathlib.Core.Path.{◌≡◌, refl, ◌∙◌, ap, ap₂}
use mathlib.Core.List.{List, ◌++◌, map, append-nil}
use Prim.Native.Nat.{ℕ, ◌+◌}
use lib.ListN.{length, get_or, drop, set, length-set}
use lib.Seq.{drop-length}
use Rattle.profile.specs.Lists.{below}
use Rattle.theory.proofs.Fronts.{front_put}
use native.Mathlib.Omega.{arith}
use Rattle.order.proofs.first_places.Goals as goal

-- the place of the first event of letter x
abbrev first_of : List ℕ → List ℕ → ℕ → ℕ
first_of starts places x = get_or places (get_or starts x 0 + 0) 0

pub loop-x-init : goal.loop-x-init
loop-x-init c = (omega arith, refl, refl)

pub loop-x-preserved : goal.loop-x-preserved
loop-x-preserved c =
    let a = c.args in
    let l = c.loop-x in
    let f = first_of a.placed.now.starts.now a.placed.now.places.now in (
      omega arith,
      length-set l.next l.x c.next_place.result ∙ l.invariant.1,
      ap₂ (λ m v. set m l.x v) l.invariant.2 c.next_place.ensures ∙ front_put f a.next.now l.x (omega arith),
    )

pub shape_of-next : goal.shape_of-next
shape_of-next c = c.loop-x.invariant.1

pub returns : goal.returns
returns c =
    let a = c.args in
    let l = c.loop-x in
    let e : l.x ≡ length a.next.now = omega arith in
    l.invariant.2 ∙ ap (λ n. map (first_of a.placed.now.starts.now a.placed.now.places.now) (below n) ++ drop n a.next.now) e
    ∙ ap (λ m. map (first_of a.placed.now.starts.now a.placed.now.places.now) (below (length a.next.now)) ++ m) (drop-length a.next.now) ∙ append-nil _
