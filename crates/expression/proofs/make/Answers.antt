-- `expression::make` meets its contract.
use mathlib.Core.Path.{sym, ◌∙◌}
use Rattle.expression.proofs.Answers.{makes_broken, makes_equal, makes_high, makes_low}
use Rattle.expression.proofs.make.Goals as goal

pub returns-then-k-lt1 : goal.returns-then-k-lt1
returns-then-k-lt1 c =
    let S = c in
    let a = S.args in
    let u = a.text.now in
    let v = a.moves.now in
    makes_equal a.k u v _ _ (makes_low a.k u v c.if-k-lt1.true)

pub returns-then-k-gt-MOST_LETTERS : goal.returns-then-k-gt-MOST_LETTERS
returns-then-k-gt-MOST_LETTERS c =
    let S = c in
    let a = S.args in
    let u = a.text.now in
    let v = a.moves.now in
    makes_equal a.k u v _ _ (makes_high a.k u v c.if-k-lt1.false c.if-k-gt-MOST_LETTERS.true)

pub make_right-requires : goal.make_right-requires
make_right-requires c =
    (c.if-k-lt1.false, c.if-k-gt-MOST_LETTERS.false, sym c.scan.ensures ∙ c.in-Ok.is)

pub returns-in-Err : goal.returns-in-Err
returns-in-Err c =
    let S = c in
    let a = S.args in
    let u = a.text.now in
    let v = a.moves.now in
    makes_equal a.k u v _ _ (makes_broken a.k u v c.if-k-lt1.false c.if-k-gt-MOST_LETTERS.false _ (sym c.scan.ensures ∙ c.in-Err.is))
