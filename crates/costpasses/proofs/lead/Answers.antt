-- `costpasses::lead` meets its contract. Where the cursor stops stands the record with one more of the letter, or there is none.
use native.Mathlib.Omega.{arith}
use mathlib.Core.Path.{◌≡◌, sym, ◌∙◌, ap, subst}
use Prim.Native.Nat.{◌*◌}
use Rattle.profile.specs.Tables.{count_field, layout}
use Rattle.counts.specs.Counts.{add_count, words}
use Rattle.records.specs.Records.{counts_at}
use Rattle.stepcost.specs.StepCosts.{Within}
use Rattle.swaps.specs.Swaps.{step_cost}
use Rattle.costcursors.specs.Cursors.{Splits}
use Rattle.costrows.specs.Rows.{Rows}
use Rattle.costtable.proofs.Ways.{Next, cost_after}
use Rattle.costtable.proofs.Stepping.{found_next, given_laid, next_rows, next_within, no_next, row_fits}
use Rattle.costpasses.proofs.lead.Goals as goal

pub seek-r-requires : goal.seek-r-requires
seek-r-requires g c =
    let b = c in
    let a = b.args in
    let want : words c.one_more-d.result ≡ add_count layout (counts_at a.t.now a.step.record) a.step.letter =
    c.one_more-d.ensures ∙ ap (λ v. add_count layout v a.step.letter) c.counts_at-c.ensures in
    (b.requires.record_bound.2, subst (λ v. g.P.Pass.stands a.t.now v a.step.cursor) (sym want) b.requires.record_bound.3)

pub step_cost-more-requires : goal.step_cost-more-requires
step_cost-more-requires g c =
    let b = c in
    let a = b.args in
    let want : words c.one_more-d.result ≡ add_count layout (counts_at a.t.now a.step.record) a.step.letter =
    c.one_more-d.ensures ∙ ap (λ v. add_count layout v a.step.letter) c.counts_at-c.ensures in
    let r = c.seek-r.result in
    let next : Next a.profile.now.shape a.profile.now.moves.now a.log.now a.t.now a.step.record a.step.letter r =
    found_next a.profile.now.shape a.profile.now.moves.now a.t.now a.log.now a.placed.now.starts.now a.placed.now.places.now a.costs.now b.requires.given a.step.record a.step.letter r (words c.one_more-d.result) b.requires.record_bound.0 b.requires.record_bound.1 want
    (sym c.stands_at.ensures ∙ c.if-stands_at.true) in
    let own = c.numbers-n.ensures ∙ c.counts_at-c.ensures in record {
      placed = b.requires.given.lent.placed;
      within = subst (λ v. Within a.profile.now.shape.k a.log.now v a.whole.now a.step.letter) (sym own)
          (subst (λ v. Within a.profile.now.shape.k a.log.now (counts_at a.t.now a.step.record) v a.step.letter) (sym b.requires.whole_value)
          (next_within a.profile.now.shape a.profile.now.moves.now a.t.now a.log.now a.placed.now.starts.now a.placed.now.places.now a.costs.now b.requires.given a.step.record a.step.letter r (words c.one_more-d.result) b.requires.record_bound.0 b.requires.record_bound.1 want next));
    }

pub row_of-from-requires : goal.row_of-from-requires
row_of-from-requires g c =
    let b = c in
    let a = b.args in
    omega (arith, row_fits a.profile.now.shape a.profile.now.moves.now a.t.now a.log.now a.placed.now.starts.now a.placed.now.places.now a.costs.now b.requires.given a.step.record b.requires.record_bound.0, b.well_formed)

pub row_of-to-requires : goal.row_of-to-requires
row_of-to-requires g c =
    let b = c in
    let a = b.args in
    let want : words c.one_more-d.result ≡ add_count layout (counts_at a.t.now a.step.record) a.step.letter =
    c.one_more-d.ensures ∙ ap (λ v. add_count layout v a.step.letter) c.counts_at-c.ensures in
    let r = c.seek-r.result in
    let next : Next a.profile.now.shape a.profile.now.moves.now a.log.now a.t.now a.step.record a.step.letter r =
    found_next a.profile.now.shape a.profile.now.moves.now a.t.now a.log.now a.placed.now.starts.now a.placed.now.places.now a.costs.now b.requires.given a.step.record a.step.letter r (words c.one_more-d.result) b.requires.record_bound.0 b.requires.record_bound.1 want
    (sym c.stands_at.ensures ∙ c.if-stands_at.true) in
    omega (arith, row_fits a.profile.now.shape a.profile.now.moves.now a.t.now a.log.now a.placed.now.starts.now a.placed.now.places.now a.costs.now b.requires.given r next.inside, b.well_formed)

pub lead-requires : goal.lead-requires
lead-requires g c =
    let b = c in
    let a = b.args in
    let want : words c.one_more-d.result ≡ add_count layout (counts_at a.t.now a.step.record) a.step.letter =
    c.one_more-d.ensures ∙ ap (λ v. add_count layout v a.step.letter) c.counts_at-c.ensures in
    let r = c.seek-r.result in
    let next : Next a.profile.now.shape a.profile.now.moves.now a.log.now a.t.now a.step.record a.step.letter r =
    found_next a.profile.now.shape a.profile.now.moves.now a.t.now a.log.now a.placed.now.starts.now a.placed.now.places.now a.costs.now b.requires.given a.step.record a.step.letter r (words c.one_more-d.result) b.requires.record_bound.0 b.requires.record_bound.1 want
    (sym c.stands_at.ensures ∙ c.if-stands_at.true) in
    let rows = next_rows a.profile.now.shape a.profile.now.moves.now a.t.now a.log.now a.placed.now.starts.now a.placed.now.places.now a.costs.now b.requires.given a.step.record a.step.letter r (words c.one_more-d.result) b.requires.record_bound.0 b.requires.record_bound.1 want next in
    subst (λ f. Rows a.costs.now f c.row_of-to.result a.profile.now.shape.k a.profile.now.shape.s a.profile.now.moves.now a.step.letter) (sym c.row_of-from.ensures)
    (subst (λ f. Rows a.costs.now (a.step.record * a.profile.now.shape.s) f a.profile.now.shape.k a.profile.now.shape.s a.profile.now.moves.now a.step.letter) (sym c.row_of-to.ensures) rows)

pub returns-then-stands_at : goal.returns-then-stands_at
returns-then-stands_at g c =
    let b = c in
    let a = b.args in
    let want : words c.one_more-d.result ≡ add_count layout (counts_at a.t.now a.step.record) a.step.letter =
    c.one_more-d.ensures ∙ ap (λ v. add_count layout v a.step.letter) c.counts_at-c.ensures in
    let r = c.seek-r.result in
    let next : Next a.profile.now.shape a.profile.now.moves.now a.log.now a.t.now a.step.record a.step.letter r =
    found_next a.profile.now.shape a.profile.now.moves.now a.t.now a.log.now a.placed.now.starts.now a.placed.now.places.now a.costs.now b.requires.given a.step.record a.step.letter r (words c.one_more-d.result) b.requires.record_bound.0 b.requires.record_bound.1 want
    (sym c.stands_at.ensures ∙ c.if-stands_at.true) in
    let splits = c.seek-r.ensures b.requires.given.lent.records.ordered in
    let u = c.lead.new.costs in
    let from = c.row_of-from.ensures in
    let to = c.row_of-to.ensures in
    let more : c.step_cost-more.result ≡ cost_after a.profile.now.shape a.profile.now.moves.now a.log.now a.t.now a.step.record a.step.letter =
    c.step_cost-more.ensures
    ∙ ap (λ v. step_cost (λ e. e) a.log.now (count_field layout v) a.step.letter) (c.numbers-n.ensures ∙ c.counts_at-c.ensures) in
    let led : g.P.Pass.leads a.costs.now u (a.step.record * a.profile.now.shape.s) (r * a.profile.now.shape.s) a.profile.now.shape.k a.profile.now.shape.s a.profile.now.moves.now a.step.letter
    (cost_after a.profile.now.shape a.profile.now.moves.now a.log.now a.t.now a.step.record a.step.letter) a.profile.now.shape.s =
    subst (λ m. g.P.Pass.leads a.costs.now u (a.step.record * a.profile.now.shape.s) (r * a.profile.now.shape.s) a.profile.now.shape.k a.profile.now.shape.s a.profile.now.moves.now a.step.letter m a.profile.now.shape.s) more
    (subst (λ m. g.P.Pass.leads a.costs.now u (a.step.record * a.profile.now.shape.s) m a.profile.now.shape.k a.profile.now.shape.s a.profile.now.moves.now a.step.letter c.step_cost-more.result a.profile.now.shape.s) to
    (subst (λ m. g.P.Pass.leads a.costs.now u m c.row_of-to.result a.profile.now.shape.k a.profile.now.shape.s a.profile.now.moves.now a.step.letter c.step_cost-more.result a.profile.now.shape.s) from
    c.lead.ensures)) in record {
      splits = subst (λ v. Splits a.t.now v r) want splits;
      by_index = λ before o. g.met.P.Pass.led a.profile.now.shape a.profile.now.moves.now a.log.now a.t.now (given_laid a.profile.now.shape a.profile.now.moves.now a.t.now a.log.now a.placed.now.starts.now a.placed.now.places.now a.costs.now b.requires.given) before a.costs.now u a.step.record a.step.letter r next led o;
    }

pub returns-else-stands_at : goal.returns-else-stands_at
returns-else-stands_at g c =
    let b = c in
    let a = b.args in
    let want : words c.one_more-d.result ≡ add_count layout (counts_at a.t.now a.step.record) a.step.letter =
    c.one_more-d.ensures ∙ ap (λ v. add_count layout v a.step.letter) c.counts_at-c.ensures in
    let r = c.seek-r.result in
    let splits = c.seek-r.ensures b.requires.given.lent.records.ordered in record {
      splits = subst (λ v. Splits a.t.now v r) want splits;
      by_index = λ before o. g.met.P.Pass.none a.profile.now.shape a.profile.now.moves.now a.log.now a.t.now (given_laid a.profile.now.shape a.profile.now.moves.now a.t.now a.log.now a.placed.now.starts.now a.placed.now.places.now a.costs.now b.requires.given) before a.costs.now a.step.record a.step.letter
          (no_next a.profile.now.shape a.profile.now.moves.now a.t.now a.log.now a.placed.now.starts.now a.placed.now.places.now a.costs.now b.requires.given a.step.record a.step.letter r (words c.one_more-d.result) b.requires.record_bound.0 b.requires.record_bound.1 want (sym c.stands_at.ensures ∙ c.if-stands_at.false) splits) o;
    }
