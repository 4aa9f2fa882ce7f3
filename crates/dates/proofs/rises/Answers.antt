-- `dates::rises` meets its contract: the two comparisons.
use mathlib.Core.Path.{◌≡◌, ◌∙◌, ap, ap₂}
use Prim.Native.Nat.{suc, ◌+◌, ◌*◌}
use native.Mathlib.Omega.{arith}
use lib.Dec.{ltb}
use lib.ListN.{get_or}
use Rattle.dates.proofs.Codes.{last_rises, next_after, turned_back}
use Rattle.dates.proofs.rises.Goals as goal

pub returns-then-last-number_at : goal.returns-then-last-number_at
returns-then-last-number_at c =
    let a = c.args in
    turned_back a.terms.now a.i (omega (arith, c.if-last-number_at.true, c.number_at-last.ensures, c.number_at.ensures))

pub returns-then-terms-i : goal.returns-then-terms-i
returns-then-terms-i c =
    let a = c.args in
    last_rises a.terms.now a.i (omega (arith, c.if-last-number_at.false, c.number_at-last.ensures, c.number_at.ensures)) (omega arith)

pub returns : goal.returns
returns c =
    let a = c.args in
    let e : 2 * a.i + 2 ≡ 2 * suc a.i = omega arith in
    ap₂ ltb c.number_at-last.ensures (c.number_at-2.ensures ∙ ap (λ m. get_or a.terms.now m 0) e)
    ∙ next_after a.terms.now a.i (omega (arith, c.if-last-number_at.false, c.number_at-last.ensures, c.number_at.ensures)) (omega arith)
