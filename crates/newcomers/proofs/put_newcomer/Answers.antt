-- `newcomers::put_newcomer` meets its contract.
use mathlib.Core.Path.{◌∙◌, ap}
use Rattle.profile.specs.Automata.{lent}
use Rattle.profile.specs.Tables.{layout}
use Rattle.counts.specs.Counts.{add_count}
use Rattle.newcomers.proofs.Puts.{put_made}
use Rattle.newcomers.proofs.put_newcomer.Goals as goal

pub returns : goal.returns
returns c =
    let a = c.args in
    put_made (lent a.profile.now)
    (c.one_more-c.ensures ∙ ap (λ v. add_count layout v a.a) c.counts_at.ensures)
    c.forward_from-forward.ensures c.last_at-last.ensures c.move_places.ensures c.put.ensures
