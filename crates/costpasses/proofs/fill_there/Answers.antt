use native.Mathlib.Omega.{arith}
use native.Mathlib.Numerals.{add-one}
use mathlib.Core.Path.{refl, sym, ◌∙◌, ap, subst}
use Prim.Native.Nat.{◌-◌, ◌*◌, ◌<◌}
use lib.ListN.{get_or-replicate, replicate}
use Rattle.profile.specs.Limits.{most_letters}
use Rattle.records.specs.Records.{counts_at, records_in}
use Rattle.costcells.specs.Cells.{Cleared}
use Rattle.costcursors.specs.Cursors.{Low}
use Rattle.costtable.proofs.Filling.{onward_fills}
use Rattle.costtable.proofs.Onward.{Onward, onward_record, onward_start}
use Rattle.costtable.proofs.Stepping.{StandsAll, given_as_long, given_laid, low_record, low_start, row_fits}
use Rattle.costpasses.proofs.fill_there.Goals as goal

pub overflow_sub-records : goal.overflow_sub-records
overflow_sub-records c =
    let b = c in
    let a = b.args in
    omega (arith, (given_laid a.profile.now.shape a.profile.now.moves.now a.t.now a.log.now a.placed.now.starts.now a.placed.now.places.now a.costs.now b.requires).some, c.records_in-records.ensures)

pub counts_at-requires : goal.counts_at-requires
counts_at-requires c =
    let b = c in
    let a = b.args in
    omega (arith, (given_laid a.profile.now.shape a.profile.now.moves.now a.t.now a.log.now a.placed.now.starts.now a.placed.now.places.now a.costs.now b.requires).some, c.records_in-records.ensures)

pub clear-requires : goal.clear-requires
clear-requires c =
    let b = c in
    let a = b.args in
    omega (arith, c.row_of-cells.ensures ∙ ap (λ n. n * a.profile.now.shape.s) c.records_in-records.ensures, b.requires.room)

pub lower-requires : goal.lower-requires
lower-requires c =
    let b = c in
    let a = b.args in
    omega (arith, row_fits a.profile.now.shape a.profile.now.moves.now a.t.now a.log.now a.placed.now.starts.now a.placed.now.places.now a.costs.now b.requires 0 (given_laid a.profile.now.shape a.profile.now.moves.now a.t.now a.log.now a.placed.now.starts.now a.placed.now.places.now a.costs.now b.requires).some, b.requires.lent.profile.starts, c.clear.ensures.as_long)

pub loop-j-init : goal.loop-j-init
loop-j-init c =
    let b = c in
    let a = b.args in
    let n = c.records_in-records.ensures in (
      n,
      c.numbers-whole.ensures ∙ c.counts_at.ensures ∙ ap (λ m. counts_at a.t.now (m - 1)) n,
      refl,
      (λ lt. low_start a.t.now 0 a.profile.now.shape.k (replicate most_letters 0) (λ x xk. get_or-replicate most_letters x 0 0 (omega (arith, b.requires.lent.records.letters, xk)))),
      refl,
      λ before o. o,
    )

pub loop-j-preserved : goal.loop-j-preserved
loop-j-preserved c =
    let b = c in
    let a = b.args in
    let l = c.loop-j in
    let f = c.lead_all in
    let one = add-one l.j in (
      l.invariant.0,
      l.invariant.1,
      f.auto.cursors ∙ l.invariant.2,
      (λ lt. subst (λ n. StandsAll Low a.t.now n a.profile.now.shape.k f.new.cursors) (sym one)
          (low_record a.profile.now.shape a.profile.now.moves.now a.t.now a.log.now a.placed.now.starts.now a.placed.now.places.now a.costs.now b.requires l.j (subst (λ n. n < records_in a.t.now) one lt) f.new.cursors f.ensures.stand)),
      f.auto.costs ∙ l.invariant.4,
      λ before o. subst (λ n. Onward a.profile.now.shape a.profile.now.moves.now a.log.now a.t.now before f.new.costs n 0) (sym one)
          (onward_record a.profile.now.shape a.profile.now.moves.now a.log.now a.t.now (given_laid a.profile.now.shape a.profile.now.moves.now a.t.now a.log.now a.placed.now.starts.now a.placed.now.places.now a.costs.now b.requires)
          before f.new.costs l.j a.profile.now.shape.k (omega arith) (f.ensures.by_index before (l.invariant.5 before o))),
    )

pub shape_of-costs : goal.shape_of-costs
shape_of-costs c =
    c.loop-j.invariant.4 ∙ c.lower.auto.costs ∙ c.clear.auto.costs

pub returns : goal.returns
returns c =
    let b = c in
    let a = b.args in
    let l = c.loop-j in
    let begun = onward_start a.profile.now.shape a.profile.now.moves.now a.log.now a.t.now (given_laid a.profile.now.shape a.profile.now.moves.now a.t.now a.log.now a.placed.now.starts.now a.placed.now.places.now a.costs.now b.requires) a.costs.now c.clear.new.costs c.lower.new.costs
    (subst (λ m. Cleared a.costs.now c.clear.new.costs 0 m) (c.row_of-cells.ensures ∙ ap (λ m. m * a.profile.now.shape.s) c.records_in-records.ensures) c.clear.ensures)
    c.lower.ensures b.requires.room in
    λ masks may letter w g. onward_fills a.profile.now.shape masks a.profile.now.moves.now may letter w a.t.now a.log.now a.placed.now.starts.now a.placed.now.places.now g
    a.costs.now l.costs l.j 0 (omega (arith, l.invariant.0)) (l.invariant.5 a.costs.now begun)

pub row_of-cells-requires : goal.row_of-cells-requires
row_of-cells-requires c =
    let b = c in
    let a = b.args in
    omega (arith, ap (λ n. n * a.profile.now.shape.s) c.records_in-records.ensures, b.requires.room, b.well_formed)

pub lead_all-requires : goal.lead_all-requires
lead_all-requires c =
    let b = c in
    let a = b.args in
    let l = c.loop-j in
    let lt : l.j < records_in a.t.now = omega (arith, l.invariant.0) in record {
      given = given_as_long a.profile.now.shape a.profile.now.moves.now a.t.now a.log.now a.placed.now.starts.now a.placed.now.places.now a.costs.now l.costs (l.invariant.4 ∙ c.lower.auto.costs ∙ c.clear.auto.costs) b.requires;
      whole_value = l.invariant.1;
      j_bound = (lt, l.invariant.2, l.invariant.3 lt);
    }
