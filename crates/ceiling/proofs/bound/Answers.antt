-- `ceiling::bound` meets its contract: the refusals in their order; the product is made only where 18 does not apply.
use mathlib.Core.Path.{sym}
use Rattle.ceiling.proofs.Answers.{bound_high, bound_told, log_fits}
use Rattle.ceiling.proofs.bound.Goals as goal

pub tally-counts-requires : goal.tally-counts-requires
tally-counts-requires c =
    let a = c.args in
    log_fits a.k a.masks.now a.log.now (sym c.in_ok-check_relation.ensures) (sym c.in_ok-check_log.ensures)

pub returns-then-n-gt-HIGHEST_CEILING : goal.returns-then-n-gt-HIGHEST_CEILING
returns-then-n-gt-HIGHEST_CEILING c =
    let a = c.args in
    bound_high a.k a.masks.now a.log.now a.groups.now (sym c.in_ok-check_relation.ensures) (sym c.in_ok-check_log.ensures) (sym c.if-groups_refused.ensures) _ _
    c.tally-counts.ensures c.product-n.ensures c.if-n-gt-HIGHEST_CEILING.true

pub returns : goal.returns
returns c =
    let a = c.args in
    bound_told a.k a.masks.now a.log.now a.groups.now (sym c.in_ok-check_relation.ensures) (sym c.in_ok-check_log.ensures) (sym c.if-groups_refused.ensures) _ _
    c.tally-counts.ensures c.product-n.ensures c.if-n-gt-HIGHEST_CEILING.false
