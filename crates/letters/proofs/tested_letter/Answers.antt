use borrow.Author.Tests.{le-ltb}
use mathlib.Core.Path.{◌≡◌, sym, ◌∙◌, ap, subst}
use mathlib.Core.Bool.{◌&&◌, cond}
use Prim.Native.Nat.{◌^◌, ◌≤◌, ◌<◌}
use native.Mathlib.Nat.{one-mul}
use native.Mathlib.Omega.{arith}
use lib.Count.{count_trailing_zeros}
use lib.Dec.{not_T, ltb, lt→ltb}
use lib.Pow.{shl_exact}
use Rattle.profile.specs.Lists.{all, below}
use Rattle.profile.specs.Prefixes.{at}
use Rattle.profile.specs.Traces.{independent}
use Rattle.profile.proofs.Lists.{both, is_false, is_true, snd_of}
use Rattle.theory.proofs.SetLoops.{rest_first}
use Rattle.events.specs.Events.{keepers, lets_by?}
use Rattle.events.proofs.Keeping.{Left, keepers_own, left_first, left_next, left_none, left_stops}
use Rattle.letters.specs.Letters.{next_by, place_by}
use Rattle.letters.proofs.Additions.{at_next_by}
use Rattle.letters.proofs.tested_letter.Goals as goal

pub returns-then-by-own : goal.returns-then-by-own
returns-then-by-own c =
    let a = c.args in
    let next = next_by a.by.now.keepers.now.k a.by.now.placed.now.starts.now a.by.now.placed.now.places.now a.t.now in
    let own : at next a.x ≡ place_by a.by.now.placed.now.starts.now a.by.now.placed.now.places.now a.t.now a.x = at_next_by a.by.now.keepers.now.k a.by.now.placed.now.starts.now a.by.now.placed.now.places.now a.t.now a.x c.requires in
    let h : a.by.now.n ≤ at next a.x = omega (arith, c.place_of-own.ensures, own) in
    sym (ap (λ b. cond (b && all (lets_by? (independent a.by.now.keepers.now.masks.now) (at next) a.x) (below a.by.now.keepers.now.k)) (2 ^ a.x) 0) (le-ltb (at next a.x) a.by.now.n h))

pub loop-rest-init : goal.loop-rest-init
loop-rest-init c =
    let s = c in
    let a = s.args in
    let may = independent a.by.now.keepers.now.masks.now in
    let next = next_by a.by.now.keepers.now.k a.by.now.placed.now.starts.now a.by.now.placed.now.places.now a.t.now in
    let e : at a.by.now.keepers.now.sets a.x ≡ keepers may a.by.now.keepers.now.k a.x = ap (λ l. at l a.x) a.by.now.keepers.now.kept ∙ keepers_own may a.by.now.keepers.now.k a.x (omega arith) in
    subst (Left may a.by.now.keepers.now.k a.x (at next)) (sym e) (left_first may a.by.now.keepers.now.k a.x (at next) a.by.now.keepers.now.few)

pub place_of-requires : goal.place_of-requires
place_of-requires c =
    let l = c.loop-rest in
    omega (arith, (l.invariant.keep (count_trailing_zeros 32 l.rest) (rest_first l.rest (omega arith) l.invariant.small)).0)

pub returns-then-place_of-own : goal.returns-then-place_of-own
returns-then-place_of-own c =
    let a = c.args in
    let next = next_by a.by.now.keepers.now.k a.by.now.placed.now.starts.now a.by.now.placed.now.places.now a.t.now in
    let own : at next a.x ≡ place_by a.by.now.placed.now.starts.now a.by.now.placed.now.places.now a.t.now a.x = at_next_by a.by.now.keepers.now.k a.by.now.placed.now.starts.now a.by.now.placed.now.places.now a.t.now a.x c.requires in
    let l = c.loop-rest in
    let y = count_trailing_zeros 32 l.rest in
    let lt = (l.invariant.keep y (rest_first l.rest (omega arith) l.invariant.small)).0 in
    let his : at next y ≡ place_by a.by.now.placed.now.starts.now a.by.now.placed.now.places.now a.t.now y = at_next_by a.by.now.keepers.now.k a.by.now.placed.now.starts.now a.by.now.placed.now.places.now a.t.now y lt in
    let p = lets_by? (independent a.by.now.keepers.now.masks.now) (at next) a.x in
    let q = ltb (at next a.x) a.by.now.n in
    let h : at next y ≤ at next a.x = omega (arith, c.place_of.ensures, c.place_of-own.ensures, own, his) in
    sym (ap (λ b. cond b (2 ^ a.x) 0) (is_false (q && all p (below a.by.now.keepers.now.k)) (not_T (q && all p (below a.by.now.keepers.now.k)) (λ t.
    left_stops (independent a.by.now.keepers.now.masks.now) a.by.now.keepers.now.k a.x (at next) l.rest (omega arith) l.invariant h (snd_of q (all p (below a.by.now.keepers.now.k)) t)))))

pub loop-rest-preserved : goal.loop-rest-preserved
loop-rest-preserved c =
    let a = c.args in
    let next = next_by a.by.now.keepers.now.k a.by.now.placed.now.starts.now a.by.now.placed.now.places.now a.t.now in
    let own : at next a.x ≡ place_by a.by.now.placed.now.starts.now a.by.now.placed.now.places.now a.t.now a.x = at_next_by a.by.now.keepers.now.k a.by.now.placed.now.starts.now a.by.now.placed.now.places.now a.t.now a.x c.requires in
    let l = c.loop-rest in
    let y = count_trailing_zeros 32 l.rest in
    let lt = (l.invariant.keep y (rest_first l.rest (omega arith) l.invariant.small)).0 in
    let his : at next y ≡ place_by a.by.now.placed.now.starts.now a.by.now.placed.now.places.now a.t.now y = at_next_by a.by.now.keepers.now.k a.by.now.placed.now.starts.now a.by.now.placed.now.places.now a.t.now y lt in
    let h : at next a.x < at next y = omega (arith, c.place_of.ensures, c.place_of-own.ensures, own, his) in
    left_next (independent a.by.now.keepers.now.masks.now) a.by.now.keepers.now.k a.x (at next) l.rest (omega arith) l.invariant h

pub returns : goal.returns
returns c =
    let a = c.args in
    let next = next_by a.by.now.keepers.now.k a.by.now.placed.now.starts.now a.by.now.placed.now.places.now a.t.now in
    let own : at next a.x ≡ place_by a.by.now.placed.now.starts.now a.by.now.placed.now.places.now a.t.now a.x = at_next_by a.by.now.keepers.now.k a.by.now.placed.now.starts.now a.by.now.placed.now.places.now a.t.now a.x c.requires in
    let may = independent a.by.now.keepers.now.masks.now in
    let p = lets_by? may (at next) a.x in
    let q = ltb (at next a.x) a.by.now.n in
    let h : at next a.x < a.by.now.n = omega (arith, c.place_of-own.ensures, own) in
    let e : c.loop-rest.rest ≡ 0 = omega arith in
    (shl_exact {a = 1} 1 a.x 32 (omega arith) (omega arith) ∙ one-mul (2 ^ a.x))
    ∙ sym (ap (λ b. cond b (2 ^ a.x) 0) (is_true (q && all p (below a.by.now.keepers.now.k)) (both q (all p (below a.by.now.keepers.now.k))
    (lt→ltb (at next a.x) a.by.now.n h) (left_none may a.by.now.keepers.now.k a.x (at next) (subst (Left may a.by.now.keepers.now.k a.x (at next)) e c.loop-rest.invariant)))))
