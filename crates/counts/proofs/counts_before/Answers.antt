-- `counts::counts_before` meets its contract: the first numbers that differ decide.
use Rattle.std.proofs.Common.{◌≡◌, not, drop, sym, ap, ◌∙◌, ap₂, arith}
use Rattle.profile.specs.Lists.{flat_map}
use Rattle.profile.specs.Orders.{no_later?}
use Rattle.profile.specs.Tables.{layout}
use Rattle.counts.specs.declared.Counts.{Counts}
use Rattle.counts.specs.Counts.{before?, word_counts, words}
use Rattle.counts.proofs.Words.{counts_by_word}
use Rattle.counts.proofs.Order.{no_later_differ, no_later_same}
use Rattle.counts.proofs.counts_before.Goals as goal

-- the order of two records, a number at a time
by_word : (a b : Counts) → before? layout (words a) (words b) ≡ not (no_later? (flat_map (word_counts layout) (words b)) (flat_map (word_counts layout) (words a)))
by_word a b = ap₂ (λ x y. not (no_later? x y)) (counts_by_word b) (counts_by_word a)

pub returns-then-a-b : goal.returns-then-a-b
returns-then-a-b c =
    let a = c.args.a in
    let b = c.args.b in
    c.word_before.ensures ∙ sym (by_word a b
    ∙ ap not (no_later_differ layout b.w0 a.w0 (drop 1 (words b)) (drop 1 (words a)) (omega arith) (omega arith) (λ e. c.if-a-b.true (sym e))))

pub returns-then-a-b-2 : goal.returns-then-a-b-2
returns-then-a-b-2 c =
    let a = c.args.a in
    let b = c.args.b in
    c.word_before-then-a-b-2.ensures ∙ sym (by_word a b
    ∙ ap not (no_later_same layout b.w0 a.w0 (drop 1 (words b)) (drop 1 (words a)) (sym c.if-a-b.false)
    ∙ no_later_differ layout b.w1 a.w1 (drop 2 (words b)) (drop 2 (words a)) (omega arith) (omega arith) (λ e. c.if-a-b-2.true (sym e))))

pub returns-then-a-b-3 : goal.returns-then-a-b-3
returns-then-a-b-3 c =
    let a = c.args.a in
    let b = c.args.b in
    c.word_before-then-a-b-3.ensures ∙ sym (by_word a b
    ∙ ap not (no_later_same layout b.w0 a.w0 (drop 1 (words b)) (drop 1 (words a)) (sym c.if-a-b.false)
    ∙ no_later_same layout b.w1 a.w1 (drop 2 (words b)) (drop 2 (words a)) (sym c.if-a-b-2.false)
    ∙ no_later_differ layout b.w2 a.w2 (drop 3 (words b)) (drop 3 (words a)) (omega arith) (omega arith) (λ e. c.if-a-b-3.true (sym e))))

pub returns-then-a-b-4 : goal.returns-then-a-b-4
returns-then-a-b-4 c =
    let a = c.args.a in
    let b = c.args.b in
    c.word_before-then-a-b-4.ensures ∙ sym (by_word a b
    ∙ ap not (no_later_same layout b.w0 a.w0 (drop 1 (words b)) (drop 1 (words a)) (sym c.if-a-b.false)
    ∙ no_later_same layout b.w1 a.w1 (drop 2 (words b)) (drop 2 (words a)) (sym c.if-a-b-2.false)
    ∙ no_later_same layout b.w2 a.w2 (drop 3 (words b)) (drop 3 (words a)) (sym c.if-a-b-3.false)
    ∙ no_later_differ layout b.w3 a.w3 (drop 4 (words b)) (drop 4 (words a)) (omega arith) (omega arith) (λ e. c.if-a-b-4.true (sym e))))

pub returns : goal.returns
returns c =
    let a = c.args.a in
    let b = c.args.b in
    c.last_before.ensures ∙ sym (by_word a b
    ∙ ap not (no_later_same layout b.w0 a.w0 (drop 1 (words b)) (drop 1 (words a)) (sym c.if-a-b.false)
    ∙ no_later_same layout b.w1 a.w1 (drop 2 (words b)) (drop 2 (words a)) (sym c.if-a-b-2.false)
    ∙ no_later_same layout b.w2 a.w2 (drop 3 (words b)) (drop 3 (words a)) (sym c.if-a-b-3.false)
    ∙ no_later_same layout b.w3 a.w3 (drop 4 (words b)) (drop 4 (words a)) (sym c.if-a-b-4.false)))
