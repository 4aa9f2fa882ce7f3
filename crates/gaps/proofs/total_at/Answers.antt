-- `gaps::total_at` meets its contract.
use mathlib.Core.Path.{◌∙◌, ap}
use Rattle.profile.specs.Prefixes.{total}
use Rattle.profile.specs.Tables.{layout}
use Rattle.counts.specs.Counts.{counts_in}
use Rattle.gaps.proofs.total_at.Goals as goal

pub returns : goal.returns
returns c = c.total_of.ensures ∙ ap (λ v. total (counts_in layout v)) c.counts_at.ensures
