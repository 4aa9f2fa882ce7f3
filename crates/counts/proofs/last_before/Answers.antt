-- `counts::last_before` meets its contract: the first numbers that differ decide.
use Rattle.std.proofs.Common.{not, drop, sym, ap, ◌∙◌, arith}
use Rattle.profile.specs.Tables.{layout}
use Rattle.counts.specs.Counts.{words}
use Rattle.counts.proofs.Order.{no_later_differ, no_later_same}
use Rattle.counts.proofs.last_before.Goals as goal

pub returns-then-a-b : goal.returns-then-a-b
returns-then-a-b c =
    let a = c.args.a in
    let b = c.args.b in
    c.word_before.ensures ∙ sym (ap not (no_later_differ layout b.w4 a.w4 (drop 5 (words b)) (drop 5 (words a)) (omega arith) (omega arith) (λ e. c.if-a-b.true (sym e))))

pub returns-then-a-b-2 : goal.returns-then-a-b-2
returns-then-a-b-2 c =
    let a = c.args.a in
    let b = c.args.b in
    c.word_before-then-a-b-2.ensures ∙ sym (ap not (no_later_same layout b.w4 a.w4 (drop 5 (words b)) (drop 5 (words a)) (sym c.if-a-b.false)
    ∙ no_later_differ layout b.w5 a.w5 (drop 6 (words b)) (drop 6 (words a)) (omega arith) (omega arith) (λ e. c.if-a-b-2.true (sym e))))

pub returns-then-a-b-3 : goal.returns-then-a-b-3
returns-then-a-b-3 c =
    let a = c.args.a in
    let b = c.args.b in
    c.word_before-then-a-b-3.ensures ∙ sym (ap not (no_later_same layout b.w4 a.w4 (drop 5 (words b)) (drop 5 (words a)) (sym c.if-a-b.false)
    ∙ no_later_same layout b.w5 a.w5 (drop 6 (words b)) (drop 6 (words a)) (sym c.if-a-b-2.false)
    ∙ no_later_differ layout b.w6 a.w6 (drop 7 (words b)) (drop 7 (words a)) (omega arith) (omega arith) (λ e. c.if-a-b-3.true (sym e))))

pub returns : goal.returns
returns c =
    let a = c.args.a in
    let b = c.args.b in
    c.word_before-2.ensures ∙ sym (ap not (no_later_same layout b.w4 a.w4 (drop 5 (words b)) (drop 5 (words a)) (sym c.if-a-b.false)
    ∙ no_later_same layout b.w5 a.w5 (drop 6 (words b)) (drop 6 (words a)) (sym c.if-a-b-2.false)
    ∙ no_later_same layout b.w6 a.w6 (drop 7 (words b)) (drop 7 (words a)) (sym c.if-a-b-3.false)))
