use native.Mathlib.Numerals.{add-one}
use mathlib.Core.Path.{sym, ◌∙◌, ap, subst}
use native.Mathlib.Omega.{arith}
use Rattle.counts.specs.Counts.{words}
use Rattle.search.specs.Search.{stands_before?}
use Rattle.search.proofs.Halves.{Between, between_down, between_up}
use Rattle.successors.proofs.place_between.Goals as goal

pub loop-low-preserved-then-stands_before : goal.loop-low-preserved-then-stands_before
loop-low-preserved-then-stands_before c =
    let a = c.args in
    let l = c.loop-low in
    let m = c.probe-middle.result in (
      omega arith,
      omega arith,
      l.invariant.2,
      λ o. subst (λ n. Between a.t.now (words a.c) n l.high) (sym (add-one m)) (between_up a.t.now (words a.c) o l.low l.high m (l.invariant.3 o) (omega arith)
          (rw (sym (c.stands_before.ensures ∙ ap (λ v. stands_before? v (words a.c)) c.counts_at.ensures) ∙ c.if-stands_before.true) tt)),
    )

pub loop-low-preserved : goal.loop-low-preserved
loop-low-preserved c =
    let a = c.args in
    let l = c.loop-low in
    let m = c.probe-middle.result in (
      l.invariant.0,
      omega arith,
      omega arith,
      λ o. between_down a.t.now (words a.c) o l.low l.high m (l.invariant.3 o)
          (rw (sym (c.stands_before.ensures ∙ ap (λ v. stands_before? v (words a.c)) c.counts_at.ensures) ∙ c.if-stands_before.false) tt),
    )
