use Prim.Native.Nat.{◌+◌, ◌-◌, ◌/◌, ◌<◌}
use native.Mathlib.Numerals.{add-one}
use mathlib.Core.Path.{◌≡◌, sym, ◌∙◌, ap, subst}
use native.Mathlib.Omega.{arith}
use Rattle.counts.specs.Counts.{words}
use Rattle.records.specs.Records.{records_in}
use Rattle.search.specs.Search.{stands_before?}
use Rattle.search.proofs.Halves.{Between, between_down, between_end, between_up}
use Rattle.search.proofs.place_of.Goals as goal

pub loop-low-preserved-then-stands_before : goal.loop-low-preserved-then-stands_before
loop-low-preserved-then-stands_before c =
    let a = c.args in
    let l = c.loop-low in
    let m = l.low + (l.high - l.low) / 2 in
    let h : m < records_in a.t.now = omega arith in (
      omega arith,
      l.invariant.1,
      λ o. subst (λ n. Between a.t.now (words a.c) n l.high) (sym (add-one m)) (between_up a.t.now (words a.c) o l.low l.high m (l.invariant.2 o) h
          (rw (sym (c.stands_before.ensures ∙ ap (λ v. stands_before? v (words a.c)) c.counts_at.ensures) ∙ c.if-stands_before.true) tt)),
    )

pub loop-low-preserved : goal.loop-low-preserved
loop-low-preserved c =
    let a = c.args in
    let l = c.loop-low in
    let m = l.low + (l.high - l.low) / 2 in (
      omega arith,
      omega arith,
      λ o. between_down a.t.now (words a.c) o l.low l.high m (l.invariant.2 o)
          (rw (sym (c.stands_before.ensures ∙ ap (λ v. stands_before? v (words a.c)) c.counts_at.ensures) ∙ c.if-stands_before.false) tt),
    )

pub returns : goal.returns
returns c =
    let a = c.args in
    let l = c.loop-low in
    let e : l.high ≡ l.low = omega arith in
    λ o. between_end a.t.now (words a.c) l.low (omega arith) (subst (Between a.t.now (words a.c) l.low) e (l.invariant.2 o))
