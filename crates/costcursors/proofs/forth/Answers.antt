use native.Mathlib.Omega.{arith}
use Prim.Native.Nat.{◌+◌}
use native.Mathlib.Numerals.{add-one}
use mathlib.Core.Path.{sym, ◌∙◌, ap}
use mathlib.Core.Bool.{not}
use Rattle.counts.specs.Counts.{words}
use Rattle.records.specs.Records.{counts_at}
use Rattle.search.specs.Search.{stands_before?}
use Rattle.costcursors.proofs.Cursors.{forth_more, forth_stop, not_false}
use Rattle.costcursors.proofs.forth.Goals as goal

pub returns-then-not-stands_before : goal.returns-then-not-stands_before
returns-then-not-stands_before c = let a = c.args in
    let l = c.loop-j in
    forth_stop a.t.now (words a.c) l.j (omega arith) l.invariant.1 (rw (sym (ap not (c.stands_before.ensures ∙ ap (λ v. stands_before? v (words a.c)) c.counts_at.ensures)) ∙ ap not c.if-not-stands_before.true) tt)

pub loop-j-preserved : goal.loop-j-preserved
loop-j-preserved c = let a = c.args in
    let l = c.loop-j in
    (l.invariant.0, forth_more a.t.now (words a.c) l.j (l.j + 1) (add-one l.j) l.invariant.1 (not_false (stands_before? (counts_at a.t.now l.j) (words a.c)) (sym (ap not (c.stands_before.ensures ∙ ap (λ v. stands_before? v (words a.c)) c.counts_at.ensures)) ∙ ap not c.if-not-stands_before.false)))
