-- `expression`, `factor` and `sequence` meet their contracts: one proof of the three, which call each other.
use Rattle.std.proofs.Common.{rules, ◌+◌, drop, arith, ap, ◌∙◌, inl, inr}
use Rattle.fragments.specs.Parts.{starred_part, starred_rows, stars}
use Rattle.walk.proofs.Views.{exp_first, exp_more, exp_only, fac_bracket, fac_inside, fac_letter, seq_first, seq_more, seq_only}
use Rattle.walk.proofs.+expression_factor_sequence.Goals as goal

pub expression-sequence-x-requires : goal.expression-sequence-x-requires
expression-sequence-x-requires t c =
    let a = c.args in
    let u = a.text.now in
    let s = c.requires.1 in
    (omega (arith, c.decreases), (omega (arith, c.requires.0), exp_first u a.at a.n s))

pub expression-expression-y-requires : goal.expression-expression-y-requires
expression-expression-y-requires t c =
    let a = c.args in
    let u = a.text.now in
    let s = c.requires.1 in
    let X = c.sequence-x in
    let x = X.result in
    let t0 = a.rows.now in
    let t1 = X.new.rows in
    let m = exp_more u a.at a.n x t0 t1 X.ensures s c.if-i-text.true c.if-text-i-eq124.true in
    (omega (arith, c.decreases, m.1, c.if-i-text.true), (search rules, m.0))

pub expression-returns-then-text-i-eq124 : goal.expression-returns-then-text-i-eq124
expression-returns-then-text-i-eq124 t c =
    let a = c.args in
    let u = a.text.now in
    let s = c.requires.1 in
    let X = c.sequence-x in
    let x = X.result in
    let t0 = a.rows.now in
    let t1 = X.new.rows in
    let Y = c.expression-y in λ s.
    let m = exp_more u a.at a.n x t0 t1 X.ensures s c.if-i-text.true c.if-text-i-eq124.true in
    m.2 Y.result c.choice_part.result Y.new.rows (Y.ensures m.0) c.choice_part.ensures

pub expression-returns-else-text-i-eq124 : goal.expression-returns-else-text-i-eq124
expression-returns-else-text-i-eq124 t c =
    let a = c.args in
    let u = a.text.now in
    let s = c.requires.1 in
    let X = c.sequence-x in
    let x = X.result in
    let t0 = a.rows.now in
    let t1 = X.new.rows in
    λ s. exp_only u a.at a.n x t0 t1 X.ensures s (λ h g. c.if-text-i-eq124.false g)

pub expression-returns-else-i-text : goal.expression-returns-else-i-text
expression-returns-else-i-text t c =
    let a = c.args in
    let u = a.text.now in
    let s = c.requires.1 in
    let X = c.sequence-x in
    let x = X.result in
    let t0 = a.rows.now in
    let t1 = X.new.rows in
    λ s. exp_only u a.at a.n x t0 t1 X.ensures s (λ h g. let l = c.if-i-text.false in omega arith)

pub factor-bounds-text-at : goal.factor-bounds-text-at
factor-bounds-text-at t c =
    let a = c.args in
    let u = a.text.now in
    let s = c.requires.1 in
    fac_inside u a.at a.n s

pub factor-expression-x-requires : goal.factor-expression-x-requires
factor-expression-x-requires t c =
    let a = c.args in
    let u = a.text.now in
    let s = c.requires.1 in
    let h = fac_inside u a.at a.n s in
    let b = fac_bracket u a.at a.n s c.if-text-at-eq40.true in
    (omega (arith, c.decreases), (omega (arith, c.requires.0), b.0))

pub factor-overflow_add-x : goal.factor-overflow_add-x
factor-overflow_add-x t c =
    let a = c.args in
    let u = a.text.now in
    let s = c.requires.1 in
    let X = c.expression-x in
    let x = X.result in
    let t0 = a.rows.now in
    let t1 = X.new.rows in
    let b = fac_bracket u a.at a.n s c.if-text-at-eq40.true in
    let h = (b.1 x t0 t1 (X.ensures b.0)).0 in
    search rules

pub factor-starred-requires : goal.factor-starred-requires
factor-starred-requires t c =
    let a = c.args in
    let u = a.text.now in
    let s = c.requires.1 in
    let X = c.expression-x in
    let x = X.result in
    let t0 = a.rows.now in
    let t1 = X.new.rows in
    let b = fac_bracket u a.at a.n s c.if-text-at-eq40.true in
    ((b.1 x t0 t1 (X.ensures b.0)).0, search rules)

pub factor-returns-then-text-at-eq40 : goal.factor-returns-then-text-at-eq40
factor-returns-then-text-at-eq40 t c =
    let a = c.args in
    let u = a.text.now in
    let s = c.requires.1 in
    let X = c.expression-x in
    let x = X.result in
    let t0 = a.rows.now in
    let t1 = X.new.rows in
    let R = c.starred in λ s.
    let b = fac_bracket u a.at a.n s c.if-text-at-eq40.true in
    (b.1 x t0 t1 (X.ensures b.0)).1 R.result R.new.rows R.ensures.0 R.ensures.1

pub factor-overflow_add-at-2 : goal.factor-overflow_add-at-2
factor-overflow_add-at-2 t c =
    let a = c.args in
    let u = a.text.now in
    let s = c.requires.1 in
    let h = fac_inside u a.at a.n s in
    search rules

pub factor-overflow_add-at-3 : goal.factor-overflow_add-at-3
factor-overflow_add-at-3 t c =
    let a = c.args in
    let u = a.text.now in
    let s = c.requires.1 in
    let h = fac_inside u a.at a.n s in
    search rules

pub factor-letter_part-requires : goal.factor-letter_part-requires
factor-letter_part-requires t c =
    let a = c.args in
    let u = a.text.now in
    let s = c.requires.1 in
    (fac_letter u a.at a.n s c.if-text-at-eq40.false).0

pub factor-starred-requires-2 : goal.factor-starred-requires-2
factor-starred-requires-2 t c =
    let a = c.args in
    let u = a.text.now in
    let s = c.requires.1 in
    let h = fac_inside u a.at a.n s in
    (omega arith, omega (arith, c.requires.0))

pub factor-returns : goal.factor-returns
factor-returns t c =
    let a = c.args in
    let u = a.text.now in
    let s = c.requires.1 in
    let R = c.starred-2 in
    let P = c.letter_part in
    let m = stars (drop (a.at + 1) u) in λ s.
    (fac_letter u a.at a.n s c.if-text-at-eq40.false).1 R.result a.rows.now R.new.rows
    (R.ensures.0 ∙ ap (starred_part m (a.at + 1)) P.ensures)
    (R.ensures.1 ∙ ap (λ q. starred_rows m q a.rows.now) P.ensures)

pub sequence-factor-x-requires : goal.sequence-factor-x-requires
sequence-factor-x-requires t c =
    let a = c.args in
    let u = a.text.now in
    let s = c.requires.1 in
    (omega (arith, c.decreases), (omega (arith, c.requires.0), seq_first u a.at a.n s))

pub sequence-sequence-y-requires : goal.sequence-sequence-y-requires
sequence-sequence-y-requires t c =
    let a = c.args in
    let u = a.text.now in
    let s = c.requires.1 in
    let X = c.factor-x in
    let x = X.result in
    let t0 = a.rows.now in
    let t1 = X.new.rows in
    let m = seq_more u a.at a.n x t0 t1 X.ensures s c.if-i-text.true c.if-c-ne124.true c.if-c-ne41.true in
    (omega (arith, c.decreases, m.1, c.if-i-text.true), (search rules, m.0))

pub sequence-returns-then-c-ne41 : goal.sequence-returns-then-c-ne41
sequence-returns-then-c-ne41 t c =
    let a = c.args in
    let u = a.text.now in
    let s = c.requires.1 in
    let X = c.factor-x in
    let x = X.result in
    let t0 = a.rows.now in
    let t1 = X.new.rows in
    let Y = c.sequence-y in
    let L = c.link in λ s.
    let m = seq_more u a.at a.n x t0 t1 X.ensures s c.if-i-text.true c.if-c-ne124.true c.if-c-ne41.true in
    m.2 Y.result c.sequence_part.result Y.new.rows L.new.rows (Y.ensures m.0) L.ensures c.sequence_part.ensures

pub sequence-returns-else-c-ne41 : goal.sequence-returns-else-c-ne41
sequence-returns-else-c-ne41 t c =
    let a = c.args in
    let u = a.text.now in
    let s = c.requires.1 in
    let X = c.factor-x in
    let x = X.result in
    let t0 = a.rows.now in
    let t1 = X.new.rows in
    λ s. seq_only u a.at a.n x t0 t1 X.ensures s (λ h. inr c.if-c-ne41.false)

pub sequence-returns-else-c-ne124 : goal.sequence-returns-else-c-ne124
sequence-returns-else-c-ne124 t c =
    let a = c.args in
    let u = a.text.now in
    let s = c.requires.1 in
    let X = c.factor-x in
    let x = X.result in
    let t0 = a.rows.now in
    let t1 = X.new.rows in
    λ s. seq_only u a.at a.n x t0 t1 X.ensures s (λ h. inl c.if-c-ne124.false)

pub sequence-returns-else-i-text : goal.sequence-returns-else-i-text
sequence-returns-else-i-text t c =
    let a = c.args in
    let u = a.text.now in
    let s = c.requires.1 in
    let X = c.factor-x in
    let x = X.result in
    let t0 = a.rows.now in
    let t1 = X.new.rows in
    λ s. seq_only u a.at a.n x t0 t1 X.ensures s (λ h. let l = c.if-i-text.false in absurd (omega arith))
