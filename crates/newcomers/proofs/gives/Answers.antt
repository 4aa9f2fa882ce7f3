-- `newcomers::gives` meets its contract.
use mathlib.Core.Path.{◌∙◌, ap}
use Rattle.profile.specs.Lists.{equal?}
use Rattle.profile.specs.Tables.{layout}
use Rattle.counts.specs.Counts.{add_count, words}
use Rattle.newcomers.proofs.gives.Goals as goal

pub returns : goal.returns
returns c =
    let a = c.args in
    c.same_counts.ensures.value ∙ ap (λ v. equal? v (words a.c)) (c.one_more.ensures ∙ ap (λ v. add_count layout v a.b) c.counts_at.ensures)
