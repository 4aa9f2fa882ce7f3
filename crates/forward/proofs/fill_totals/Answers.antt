use mathlib.Core.Path.{sym, subst}
use Prim.Native.Nat.{◌+◌}
use native.Mathlib.Omega.{arith}
use Rattle.terms.specs.Coded.{rules_of}
use Rattle.profile.specs.Automata.{lent}
use Rattle.forward.specs.Forward.{Ready}
use Rattle.forward.specs.Merging.{Grows}
use Rattle.forward.proofs.Fills.{Reaching, reaching_end, reaching_few, reaching_full, reaching_next, reaching_start}
use Rattle.forward.proofs.fill_totals.Goals as goal
use Rattle.forward.proofs.fill_totals.Goals.{In_ok-records}

pub loop-at-init : goal.loop-at-init
loop-at-init g c =
    let h = c.requires in
    reaching_start c.args.number h.standing.1 h.t_in_bounds.0 h.t_in_bounds.1

pub fill_total-requires : goal.fill_total-requires
fill_total-requires g c =
    let a = c.args in
    let h = c.requires in
    let f = c.loop-at.invariant in
    (subst (λ m. Ready (rules_of (lent a.pass.now.rows.now.profile) g.F.Finder.termed) a.pass.now.log.now m a.pass.now.room (g.F.Finder.found a.pass.now.finder.now)) (sym f.kept) h.standing.0, f.begins)

pub returns-in_err-records : goal.returns-in_err-records
returns-in_err-records g c =
    let a = c.args in
    let l = c.loop-at in
    let x = c.fill_total in
    rw c.from_residual.ensures
    (reaching_full c.requires.standing.0 l.invariant c.loop-at-test.true x.new.table
    (subst (Grows (rules_of (lent a.pass.now.rows.now.profile) g.F.Finder.termed) a.pass.now.log.now a.pass.now.room l.at.t l.at.first l.table x.new.table) c.in_err-records.was x.ensures))

-- the totals up to the one behind the part are put
reaching : (g : _) (c : In_ok-records g)
    → Reaching (rules_of (lent c.args.pass.now.rows.now.profile) g.F.Finder.termed) c.args.pass.now.log.now c.args.table.now c.fill_total.new.table
    c.args.pass.now.room (c.loop-at.at.t + 1) c.loop-at.at.first (c.loop-at.at.first + c.in_ok-records.records) (c.loop-at.looks + c.in_ok-records.pairs)
reaching g c =
    let a = c.args in
    let l = c.loop-at in
    let x = c.fill_total in
    reaching_next c.requires.standing.0 l.invariant c.loop-at-test.true c.in_ok-records.records c.in_ok-records.pairs x.new.table
    (subst (Grows (rules_of (lent a.pass.now.rows.now.profile) g.F.Finder.termed) a.pass.now.log.now a.pass.now.room l.at.t l.at.first l.table x.new.table) c.in_ok-records.was x.ensures) x.auto.table

pub overflow_add-looks : goal.overflow_add-looks
overflow_add-looks g c = omega (arith, reaching_few c.requires.standing.0 (reaching g (goal.at.overflow_add-looks g c).In_ok-records), c.requires.standing.0.few)

pub loop-at-preserved : goal.loop-at-preserved
loop-at-preserved g c = reaching g (goal.at.loop-at-preserved g c).In_ok-records

pub returns : goal.returns
returns g c = reaching_end c.requires.standing.0 c.loop-at.invariant c.loop-at-test.false
