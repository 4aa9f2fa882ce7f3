use mathlib.Core.Path.{◌≡◌, ◌∙◌, ap}
use Prim.Native.Nat.{◌<◌}
use native.Mathlib.Omega.{arith}
use lib.ListN.{get_or, length, set, take}
use lib.Seq.{take-length}
use Rattle.views.specs.Views.{seen}
use Rattle.visible.proofs.Parts.{good_letter, seen_one, seen_part, seen_place}
use borrow.Author.Rules.{rules}
use Rattle.visible.proofs.put_seen.Goals as goal

pub bounds-part-n : goal.bounds-part-n
bounds-part-n c =
    let S = c in
    let l = c.loop-a in
    omega (arith, l.auto.part, S.requires.1, S.requires.2.short)

pub overflow_cast-a : goal.overflow_cast-a
overflow_cast-a c =
    let S = c in
    let l = c.loop-a in
    let lt : l.a-index < length S.args.log.now = omega arith in
    let g = good_letter S.args.k S.args.log.now l.a-index S.requires.0 S.requires.2 lt in
    search rules

pub place_after-n-requires : goal.place_after-n-requires
place_after-n-requires c =
    let S = c in
    let l = c.loop-a in
    let lt : l.a-index < length S.args.log.now = omega arith in
    (good_letter S.args.k S.args.log.now l.a-index S.requires.0 S.requires.2 lt, omega (arith, S.requires.2.short))

pub loop-a-preserved : goal.loop-a-preserved
loop-a-preserved c =
    let S = c in
    let a = S.args in
    let l = c.loop-a in
    let lt : l.a-index < length a.log.now = omega arith in
    let m : l.n < length l.part = omega (arith, l.auto.part, S.requires.1, S.requires.2.short) in
    let e = c.place_after-n.ensures in
    let y = seen_place a.visible a.log.now l.part l.a-index l.n lt m l.invariant.1 l.invariant.2 in (
      omega (arith, e, seen_one a.visible (get_or a.log.now l.a-index 0)),
      e ∙ y,
      ap (λ z. take z (set l.part l.n (get_or a.log.now l.a-index 0))) e ∙ seen_part a.visible a.log.now l.part l.a-index l.n lt m l.invariant.1 l.invariant.2,
    )

pub returns : goal.returns
returns c =
    let a = c.args in
    let l = c.loop-a in
    let e : l.a-index ≡ length a.log.now = omega arith in
    let w = ap (λ n. seen a.visible (take n a.log.now)) e ∙ ap (seen a.visible) (take-length a.log.now) in
    (l.invariant.1 ∙ ap length w, l.invariant.2 ∙ w)
