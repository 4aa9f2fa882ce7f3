-- `gaps::gap_between` meets its contract.
use mathlib.Core.Path.{◌∙◌}
use mathlib.Core.Path.{subst₂}
use Rattle.profile.specs.Tables.{count_field, layout}
use Rattle.gaps.specs.Gaps.{GapIs}
use Rattle.gaps.proofs.gap_between.Goals as goal

pub returns : goal.returns
returns c =
    let a = c.args in
    subst₂ (λ u v. GapIs a.k (count_field layout u) (count_field layout v) c.gap_of.result) (c.numbers-c.ensures ∙ c.counts_at.ensures)
    (c.numbers-e.ensures ∙ c.counts_at-2.ensures) c.gap_of.ensures
