-- `days::month_days` meets its contract: the days of the months in a list.
use mathlib.Core.Path.{sym, ◌∙◌, ap}
use mathlib.Core.Bool.{cond}
use mathlib.Core.List.{[], ◌∷◌}
use lib.ListN.{get_or, get_or-eq_default}
use Rattle.terms.specs.Days.{leap?}
use Rattle.days.proofs.month_days.Goals as goal
use Rattle.days.proofs.month_days.Goals.{then-leap, else-leap}

pub returns-else-m-lt13 : goal.returns-else-m-lt13
returns-else-m-lt13 c =
    let a = c.args in
    sym (get_or-eq_default (0 ∷ 31 ∷ cond (leap? a.y) 29 28 ∷ 31 ∷ 30 ∷ 31 ∷ 30 ∷ 31 ∷ 31 ∷ 30 ∷ 31 ∷ 30 ∷ 31 ∷ []) 0 c.if-m-lt13.false)

pub returns-then-m-lt13 : goal.returns-then-m-lt13
returns-then-m-lt13 c =
    let a = c.args in
    let l = c.leap in
    ap (λ f. get_or (0 ∷ 31 ∷ f ∷ 31 ∷ 30 ∷ 31 ∷ 30 ∷ 31 ∷ 31 ∷ 30 ∷ 31 ∷ 30 ∷ 31 ∷ []) a.m 0) (elim c.if-leap.branch [
      | then-leap w ↦ w.february-is ∙ sym (ap (λ t. cond t 29 28) (sym l.ensures ∙ w.if-leap.true))
      | else-leap w ↦ w.february-is ∙ sym (ap (λ t. cond t 29 28) (sym l.ensures ∙ w.if-leap.false))
    ])
