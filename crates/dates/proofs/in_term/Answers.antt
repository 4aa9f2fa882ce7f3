-- `dates::in_term` meets its contract: the two comparisons.
use borrow.Author.Tests.{le-leb, lt-leb}
use mathlib.Core.Path.{sym, ◌∙◌, ap}
use mathlib.Core.Bool.{◌&&◌}
use native.Mathlib.Omega.{arith}
use lib.Dec.{leb}
use Rattle.terms.specs.Terms.{first_day, last_day}
use Rattle.dates.proofs.in_term.Goals as goal

pub returns-then-d-number_at : goal.returns-then-d-number_at
returns-then-d-number_at c =
    let a = c.args in
    sym (ap (λ t. t && leb a.d (last_day a.terms.now a.i)) (lt-leb (first_day a.terms.now a.i) a.d (omega (arith, c.if-d-number_at.true, c.number_at.ensures))))

pub returns : goal.returns
returns c =
    let a = c.args in
    ap (leb a.d) c.number_at-2.ensures
    ∙ sym (ap (λ t. t && leb a.d (last_day a.terms.now a.i)) (le-leb (first_day a.terms.now a.i) a.d (omega (arith, c.if-d-number_at.false, c.number_at.ensures))))
