use Prim.Native.Nat.{suc, ◌-◌, ◌<◌}
use mathlib.Core.Path.{◌≡◌, sym, ◌∙◌, ap, subst}
use native.Mathlib.Numerals.{add-one}
use native.Mathlib.Omega.{arith}
use lib.Bits.{bit_and}
use lib.Count.{count_trailing_zeros}
use Rattle.profile.specs.Prefixes.{at}
use Rattle.records.specs.Records.{records_in}
use Rattle.cursors.specs.Cursors.{seek_from}
use Rattle.cursors.proofs.Moving.{Moving, moving_end, moving_from, moving_in, moving_next, moving_skip}
use Rattle.cursors.proofs.advance.Goals as goal
use Rattle.cursors.proofs.advance.Goals.{else-x-k, then-x-k}
use Rattle.cursors.proofs.advance.Goals.{After-slice_known-then-x-k-1}

-- the letter is in the set: its cursor is at a record
inside : (c : After-slice_known-then-x-k-1) → at c.loop-left.cursors (count_trailing_zeros 32 c.loop-left.left) < records_in c.args.level.now
inside c =
    let a = c.args in
    let l = c.loop-left in
    let first = moving_in a.level.now a.k a.cursors.now a.set l.left (omega arith) l.cursors l.invariant in
    let from = moving_from a.level.now a.k a.cursors.now a.set l.left (omega arith) l.cursors l.invariant in
    omega (arith, from, c.requires.given (count_trailing_zeros 32 l.left) c.if-x-k.true first)

pub overflow_add-cursors : goal.overflow_add-cursors
overflow_add-cursors c = omega (arith, inside (goal.at.overflow_add-cursors c).After-slice_known-then-x-k-1)

pub seek-next-requires : goal.seek-next-requires
seek-next-requires c = omega (arith, inside (goal.at.seek-next-requires c).After-slice_known-then-x-k-1)

pub loop-left-preserved : goal.loop-left-preserved
loop-left-preserved c =
    let a = c.args in
    let t = a.level.now in
    let cs = a.cursors.now in
    let l = c.loop-left in
    let x = count_trailing_zeros 32 l.left in
    let some : 0 < l.left = omega arith in
    let from = moving_from t a.k cs a.set l.left some l.cursors l.invariant in (elim c.if-x-k.branch [
      | then-x-k w ↦ let e = w.seek-next.ensures ∙ ap (λ i. seek_from t i x) (add-one (at l.cursors x) ∙ ap suc from) in
          subst (Moving t a.k cs a.set (bit_and l.left (l.left - 1))) (sym w.cursors-is)
          (moving_next t a.k cs a.set l.left some l.cursors l.invariant w.if-x-k.true (omega arith) w.seek-next.result e)
      | else-x-k w ↦ subst (Moving t a.k cs a.set (bit_and l.left (l.left - 1))) (sym w.cursors-is)
          (moving_skip t a.k cs a.set l.left some l.cursors l.invariant w.if-x-k.false)
    ])

pub returns : goal.returns
returns c =
    let a = c.args in
    let l = c.loop-left in
    let e : l.left ≡ 0 = omega arith in
    moving_end a.level.now a.k a.cursors.now a.set (omega arith) l.cursors
    (subst (λ n. Moving a.level.now a.k a.cursors.now a.set n l.cursors) e l.invariant)
