use mathlib.Core.Path.{◌≡◌, sym, ◌∙◌, ap, subst}
use mathlib.Core.Bool.{◌&&◌}
use Prim.Native.Nat.{◌≤◌, ◌<◌}
use native.Mathlib.Omega.{arith}
use lib.Count.{count_trailing_zeros}
use lib.Dec.{not_T, ltb, lt→ltb}
use Rattle.profile.specs.Lists.{all, below}
use Rattle.profile.specs.Prefixes.{at}
use Rattle.profile.specs.Traces.{independent}
use Rattle.profile.proofs.Lists.{both, is_false, is_true, snd_of}
use Rattle.events.specs.Events.{keepers, lets_by?}
use Rattle.events.proofs.Keeping.{Left, keepers_own, left_first, left_next, left_none, left_stops}
use Rattle.events.proofs.comes_next.Goals as goal

pub loop-rest-init : goal.loop-rest-init
loop-rest-init c =
    let s = c in
    let a = s.args in
    let may = independent a.keepers.now.masks.now in
    let e : at a.keepers.now.sets a.x ≡ keepers may a.keepers.now.k a.x = ap (λ l. at l a.x) a.keepers.now.kept ∙ keepers_own may a.keepers.now.k a.x (omega arith) in
    subst (Left may a.keepers.now.k a.x (at a.next.now)) (sym e) (left_first may a.keepers.now.k a.x (at a.next.now) a.keepers.now.few)

pub returns-then-place_at-own : goal.returns-then-place_at-own
returns-then-place_at-own c =
    let a = c.args in
    let l = c.loop-rest in
    let p = lets_by? (independent a.keepers.now.masks.now) (at a.next.now) a.x in
    let q = ltb (at a.next.now a.x) a.n in
    let h : at a.next.now (count_trailing_zeros 32 l.rest) ≤ at a.next.now a.x = omega (arith, c.place_at.ensures, c.place_at-own.ensures) in
    sym (is_false (q && all p (below a.keepers.now.k)) (not_T (q && all p (below a.keepers.now.k)) (λ t.
    left_stops (independent a.keepers.now.masks.now) a.keepers.now.k a.x (at a.next.now) l.rest (omega arith) l.invariant h (snd_of q (all p (below a.keepers.now.k)) t))))

pub loop-rest-preserved : goal.loop-rest-preserved
loop-rest-preserved c =
    let a = c.args in
    let l = c.loop-rest in
    let h : at a.next.now a.x < at a.next.now (count_trailing_zeros 32 l.rest) = omega (arith, c.place_at.ensures, c.place_at-own.ensures) in
    left_next (independent a.keepers.now.masks.now) a.keepers.now.k a.x (at a.next.now) l.rest (omega arith) l.invariant h

pub returns : goal.returns
returns c =
    let a = c.args in
    let may = independent a.keepers.now.masks.now in
    let p = lets_by? may (at a.next.now) a.x in
    let q = ltb (at a.next.now a.x) a.n in
    let h : at a.next.now a.x < a.n = omega (arith, c.place_at-own.ensures) in
    let e : c.loop-rest.rest ≡ 0 = omega arith in
    sym (is_true (q && all p (below a.keepers.now.k)) (both q (all p (below a.keepers.now.k))
    (lt→ltb (at a.next.now a.x) a.n h) (left_none may a.keepers.now.k a.x (at a.next.now) (subst (Left may a.keepers.now.k a.x (at a.next.now)) e c.loop-rest.invariant))))
