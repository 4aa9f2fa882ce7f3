-- `forward::fill_forward` meets its contract.
use mathlib.Core.Path.{sym, subst}
use lib.ListN.{length}
use native.Mathlib.Omega.{arith}
use Rattle.profile.specs.Automata.{lent}
use Rattle.terms.specs.Coded.{rules_of}
use Rattle.forward.specs.Forward.{Forward, Ready}
use Rattle.forward.proofs.Fills.{first_begun, from_first, some_prefix}
use Rattle.forward.proofs.fill_forward.Goals as goal
use Rattle.forward.proofs.fill_forward.Goals.{After-of-rows}

pub returns-then-room-eq0 : goal.returns-then-room-eq0
returns-then-room-eq0 g c = omega (arith, some_prefix c.requires, c.if-room-eq0.true)

-- the pass goes by the profile that the call is lent
ready : (g : _) (c : After-of-rows g)
    → Ready (rules_of (lent c.of-rows.result.profile) g.F.Finder.termed) c.args.log.now (length c.args.table.now) c.args.room (g.F.Finder.found c.args.finder.now)
ready g c =
    let a = c.args in
    subst (λ q. Ready (rules_of (lent q) g.F.Finder.termed) a.log.now (length a.table.now) a.room (g.F.Finder.found a.finder.now)) (sym c.of-rows.ensures) c.requires

pub of-rows-requires : goal.of-rows-requires
of-rows-requires g c = let p = c.requires.profile in (p.relation.most, p.states.1)

pub put_first-number-requires : goal.put_first-number-requires
put_first-number-requires g c =
    let h = ready g (goal.at.put_first-number-requires g c).After-of-rows in
    record { profile = h.profile; log = h.log; fits = omega (arith, h.fits); few = omega (arith, h.few); finds = h.finds }

pub fill_totals-requires : goal.fill_totals-requires
fill_totals-requires g c =
    let a = c.args in
    let h = ready g (goal.at.fill_totals-requires g c).After-of-rows in
    let x = c.put_first-number in record {
      standing = (
        subst (λ m. Ready (rules_of (lent c.of-rows.result.profile) g.F.Finder.termed) a.log.now m a.room (g.F.Finder.found a.finder.now)) (sym x.auto.table) h,
        first_begun h (omega arith) a.table.now x.new.table x.ensures.1,
      );
      t_in_bounds = (omega arith, x.ensures.0);
    }

pub returns : goal.returns
returns g c =
    let a = c.args in
    let x = c.put_first-number in
    let y = c.fill_totals in
    subst (λ q. Forward (rules_of (lent q) g.F.Finder.termed) a.log.now a.room a.table.now y.new.table y.result) c.of-rows.ensures
    (from_first (ready g (goal.at.returns g c).After-of-rows) a.table.now x.new.table y.new.table x.ensures.1 y.result y.ensures)
