use native.Mathlib.Omega.{arith}
use mathlib.Core.Path.{◌≡◌, refl, sym, ◌∙◌, ap, subst}
use Prim.Native.Nat.{suc, ◌-◌, ◌*◌, ◌<◌}
use lib.ListN.{get_or-replicate, replicate}
use Rattle.profile.specs.Limits.{most_letters}
use Rattle.records.specs.Records.{counts_at, records_in}
use Rattle.costcells.specs.Cells.{Cleared, Lowered}
use Rattle.costcursors.specs.Cursors.{High}
use Rattle.costtable.proofs.Filling.{backward_fills}
use Rattle.costtable.proofs.Backward.{Backward, backward_row, backward_start}
use Rattle.costtable.proofs.Stepping.{StandsAll, given_as_long, given_laid, high_record, high_start, row_fits}
use Rattle.costpasses.proofs.fill_rest.Goals as goal

pub overflow_sub-last : goal.overflow_sub-last
overflow_sub-last c =
    let b = c in
    let a = b.args in
    omega (arith, (given_laid a.profile.now.shape a.profile.now.moves.now a.t.now a.log.now a.placed.now.starts.now a.placed.now.places.now a.costs.now b.requires).some, c.records_in-records.ensures)

pub counts_at-requires : goal.counts_at-requires
counts_at-requires c =
    let b = c in
    let a = b.args in
    omega (arith, (given_laid a.profile.now.shape a.profile.now.moves.now a.t.now a.log.now a.placed.now.starts.now a.placed.now.places.now a.costs.now b.requires).some, c.records_in-records.ensures)

pub clear-requires : goal.clear-requires
clear-requires c =
    let b = c in
    let a = b.args in
    let n = c.records_in-records.ensures in
    let lt : c.records_in-records.result - 1 < records_in a.t.now = omega (arith, n, (given_laid a.profile.now.shape a.profile.now.moves.now a.t.now a.log.now a.placed.now.starts.now a.placed.now.places.now a.costs.now b.requires).some) in
    omega (arith, row_fits a.profile.now.shape a.profile.now.moves.now a.t.now a.log.now a.placed.now.starts.now a.placed.now.places.now a.costs.now b.requires (c.records_in-records.result - 1) lt, c.row_of-end.ensures)

pub lower_all-requires : goal.lower_all-requires
lower_all-requires c =
    let b = c in
    let a = b.args in
    let n = c.records_in-records.ensures in
    let lt : c.records_in-records.result - 1 < records_in a.t.now = omega (arith, n, (given_laid a.profile.now.shape a.profile.now.moves.now a.t.now a.log.now a.placed.now.starts.now a.placed.now.places.now a.costs.now b.requires).some) in
    (b.requires.lent.profile.states.1, omega (arith, row_fits a.profile.now.shape a.profile.now.moves.now a.t.now a.log.now a.placed.now.starts.now a.placed.now.places.now a.costs.now b.requires (c.records_in-records.result - 1) lt, c.row_of-end.ensures, c.clear.auto.costs), b.requires.lent.profile.finals_inside)

pub loop-j-init : goal.loop-j-init
loop-j-init c =
    let b = c in
    let a = b.args in
    let n = c.records_in-records.ensures in
    let lt : c.records_in-records.result - 1 < records_in a.t.now = omega (arith, n, (given_laid a.profile.now.shape a.profile.now.moves.now a.t.now a.log.now a.placed.now.starts.now a.placed.now.places.now a.costs.now b.requires).some) in
    let down : c.records_in-records.result - 1 ≡ records_in a.t.now - 1 = ap (λ m. m - 1) n in (
      lt,
      c.numbers-whole.ensures ∙ c.counts_at.ensures ∙ ap (counts_at a.t.now) down,
      refl,
      (λ i e. high_start a.t.now i a.profile.now.shape.k (replicate most_letters c.records_in-records.result)
          (λ x xk. get_or-replicate most_letters x c.records_in-records.result 0 (omega (arith, b.requires.lent.records.letters, xk)) ∙ n)),
      refl,
      λ before o. subst (λ m. Backward a.profile.now.shape a.profile.now.moves.now a.log.now a.t.now before c.lower_all.new.costs m a.profile.now.shape.k) (sym down) o,
    )

pub loop-j-preserved : goal.loop-j-preserved
loop-j-preserved c =
    let b = c in
    let a = b.args in
    let l = c.loop-j in
    let f = c.lead_all in
    let up : suc (l.j - 1) ≡ l.j = omega arith in
    let cleared : Cleared l.costs c.clear-in-loop-j.new.costs ((l.j - 1) * a.profile.now.shape.s) a.profile.now.shape.s =
    subst (λ m. Cleared l.costs c.clear-in-loop-j.new.costs m a.profile.now.shape.s) c.row_of-row.ensures c.clear-in-loop-j.ensures in (
      omega (arith, l.invariant.0),
      l.invariant.1,
      f.auto.cursors ∙ l.invariant.2,
      (λ i e. high_record a.profile.now.shape a.profile.now.moves.now a.t.now a.log.now a.placed.now.starts.now a.placed.now.places.now a.costs.now b.requires i (omega (arith, e, l.invariant.0)) f.new.cursors
          (subst (λ m. StandsAll High a.t.now m a.profile.now.shape.k f.new.cursors) (sym e) f.ensures.stand)),
      f.auto.costs ∙ c.clear-in-loop-j.auto.costs ∙ l.invariant.4,
      λ before o. f.ensures.by_index before (backward_row a.profile.now.shape a.profile.now.moves.now a.log.now a.t.now (given_laid a.profile.now.shape a.profile.now.moves.now a.t.now a.log.now a.placed.now.starts.now a.placed.now.places.now a.costs.now b.requires) before l.costs c.clear-in-loop-j.new.costs (l.j - 1) a.profile.now.shape.k
          (omega arith) (omega (arith, up, l.invariant.0)) cleared
          (subst (λ m. Backward a.profile.now.shape a.profile.now.moves.now a.log.now a.t.now before l.costs m a.profile.now.shape.k) (sym up) (l.invariant.5 before o))),
    )

pub shape_of-costs : goal.shape_of-costs
shape_of-costs c =
    c.loop-j.invariant.4 ∙ c.lower_all.auto.costs ∙ c.clear.auto.costs

pub returns : goal.returns
returns c =
    let b = c in
    let a = b.args in
    let n = c.records_in-records.ensures in
    let lt : c.records_in-records.result - 1 < records_in a.t.now = omega (arith, n, (given_laid a.profile.now.shape a.profile.now.moves.now a.t.now a.log.now a.placed.now.starts.now a.placed.now.places.now a.costs.now b.requires).some) in
    let l = c.loop-j in
    let u = c.clear.new.costs in
    let v = c.lower_all.new.costs in
    let down : c.records_in-records.result - 1 ≡ records_in a.t.now - 1 = ap (λ m. m - 1) n in
    let row = c.row_of-end.ensures ∙ ap (λ m. m * a.profile.now.shape.s) down in
    let begun = backward_start a.profile.now.shape a.profile.now.moves.now a.log.now a.t.now (given_laid a.profile.now.shape a.profile.now.moves.now a.t.now a.log.now a.placed.now.starts.now a.placed.now.places.now a.costs.now b.requires) a.costs.now u v (records_in a.t.now - 1) a.profile.now.shape.k
    (omega (arith, (given_laid a.profile.now.shape a.profile.now.moves.now a.t.now a.log.now a.placed.now.starts.now a.placed.now.places.now a.costs.now b.requires).some)) (subst (λ m. Cleared a.costs.now u m a.profile.now.shape.s) row c.clear.ensures)
    (subst (λ m. Lowered u v m a.profile.now.shape.finals 0) row c.lower_all.ensures) in
    let none : l.j ≡ 0 = omega arith in
    λ masks may letter w g. backward_fills a.profile.now.shape masks a.profile.now.moves.now may letter w a.t.now a.log.now a.placed.now.starts.now a.placed.now.places.now g
    a.costs.now l.costs a.profile.now.shape.k (omega arith)
    (subst (λ m. Backward a.profile.now.shape a.profile.now.moves.now a.log.now a.t.now a.costs.now l.costs m a.profile.now.shape.k) none (l.invariant.5 a.costs.now begun))

pub row_of-end-requires : goal.row_of-end-requires
row_of-end-requires c =
    let b = c in
    let a = b.args in
    let n = c.records_in-records.ensures in
    let lt : c.records_in-records.result - 1 < records_in a.t.now = omega (arith, n, (given_laid a.profile.now.shape a.profile.now.moves.now a.t.now a.log.now a.placed.now.starts.now a.placed.now.places.now a.costs.now b.requires).some) in
    omega (arith, row_fits a.profile.now.shape a.profile.now.moves.now a.t.now a.log.now a.placed.now.starts.now a.placed.now.places.now a.costs.now b.requires (c.records_in-records.result - 1) lt, b.well_formed)

pub lead_all-requires : goal.lead_all-requires
lead_all-requires c =
    let b = c in
    let a = b.args in
    let l = c.loop-j in
    let up : suc (l.j - 1) ≡ l.j = omega arith in record {
      given = given_as_long a.profile.now.shape a.profile.now.moves.now a.t.now a.log.now a.placed.now.starts.now a.placed.now.places.now a.costs.now c.clear-in-loop-j.new.costs (c.clear-in-loop-j.auto.costs ∙ l.invariant.4 ∙ c.lower_all.auto.costs ∙ c.clear.auto.costs) b.requires;
      whole_value = l.invariant.1;
      j_bound = (omega (arith, l.invariant.0), l.invariant.2, l.invariant.3 (l.j - 1) up);
    }

pub row_of-row-requires : goal.row_of-row-requires
row_of-row-requires c =
    let b = c in
    let a = b.args in
    let lt : c.loop-j.j - 1 < records_in a.t.now = omega (arith, c.loop-j.invariant.0) in
    omega (arith, row_fits a.profile.now.shape a.profile.now.moves.now a.t.now a.log.now a.placed.now.starts.now a.placed.now.places.now a.costs.now b.requires (c.loop-j.j - 1) lt, b.well_formed)

pub clear-requires-in-loop-j : goal.clear-requires-in-loop-j
clear-requires-in-loop-j c =
    let b = c in
    let a = b.args in
    let l = c.loop-j in
    let lt : l.j - 1 < records_in a.t.now = omega (arith, l.invariant.0) in
    omega (arith, row_fits a.profile.now.shape a.profile.now.moves.now a.t.now a.log.now a.placed.now.starts.now a.placed.now.places.now a.costs.now b.requires (l.j - 1) lt, c.row_of-row.ensures, l.invariant.4, c.lower_all.auto.costs, c.clear.auto.costs)
