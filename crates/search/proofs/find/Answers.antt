-- `search::find` meets its contract: the record at the place has the counts, or none has.
use mathlib.Core.Path.{sym, ◌∙◌, ap}
use native.Mathlib.Omega.{arith}
use Rattle.profile.specs.Lists.{equal?}
use Rattle.counts.specs.Counts.{words}
use Rattle.search.proofs.Halves.{found_here, found_nowhere}
use Rattle.search.proofs.find.Goals as goal
use Rattle.search.proofs.find.Goals.{else-at-records_in-via-then-at-records_in+else-same_counts, else-at-records_in-via-else-at-records_in}

pub returns-then-same_counts : goal.returns-then-same_counts
returns-then-same_counts c =
    let s = c.args in
    let at = c.place_of-at in
    λ o. found_here s.t.now (words s.c) o at.result (at.ensures o) (omega arith)
    (sym (c.same_counts.ensures.value ∙ ap (λ v. equal? v (words s.c)) c.counts_at.ensures) ∙ c.if-same_counts.true)

pub returns-else-at-records_in : goal.returns-else-at-records_in
returns-else-at-records_in c =
    let s = c.args in
    let at = c.place_of-at in
    λ o. found_nowhere s.t.now (words s.c) o at.result (at.ensures o) (elim c.else-at-records_in.branch [
      | else-at-records_in-via-then-at-records_in+else-same_counts w ↦
          λ h. sym (w.same_counts.ensures.value ∙ ap (λ v. equal? v (words s.c)) w.counts_at.ensures) ∙ w.if-same_counts.false
      | else-at-records_in-via-else-at-records_in w ↦ λ h. absurd (omega arith)
    ])
