-- `merge::with_cursor` meets its contract.
use mathlib.Core.Path.{sym, ◌∙◌, ap}
use mathlib.Core.Bool.{cond}
use mathlib.Core.Option.{none, some}
use native.Mathlib.Omega.{arith}
use borrow.Author.Tests.{lt-ltb}
use Rattle.profile.specs.Tables.{layout}
use Rattle.counts.specs.Counts.{add_count}
use Rattle.records.specs.Records.{records_in}
use Rattle.merge.specs.Merge.{better, grown, joined, least_letters, least_words}
use Rattle.merge.proofs.with_cursor.Goals as goal

pub returns : goal.returns
returns c =
    let a = c.args in
    let t = a.level.now in
    let d = c.one_more.ensures ∙ ap (λ w. add_count layout w a.x) c.counts_at.ensures in
    let e = lt-ltb a.j (records_in t) (omega arith) in record {
      result_value = c.with_counts.ensures.result_value ∙ ap (λ w. better (least_words a.best) (some w)) d
          ∙ sym (ap (λ b. better (least_words a.best) (cond b (some (grown t a.j a.x)) none)) e);
      result_value_2 = c.with_counts.ensures.result_value_2 ∙ ap (λ w. joined (some w) (least_words a.best) (least_letters a.best) a.x) d
          ∙ sym (ap (λ b. joined (cond b (some (grown t a.j a.x)) none) (least_words a.best) (least_letters a.best) a.x) e);
    }
