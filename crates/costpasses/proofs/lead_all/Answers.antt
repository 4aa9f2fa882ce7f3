use native.Mathlib.Omega.{arith}
use native.Mathlib.Numerals.{add-one}
use mathlib.Core.Path.{◌≡◌, refl, sym, ◌∙◌, subst}
use Prim.Native.Nat.{◌<◌}
use lib.ListN.{length, length-set}
use Rattle.profile.specs.Tables.{layout}
use Rattle.counts.specs.Counts.{add_count}
use Rattle.records.specs.Records.{counts_at}
use Rattle.costtable.proofs.Stepping.{given_as_long, stands_set}
use Rattle.costpasses.proofs.lead_all.Goals as goal

pub bounds-cursors-x : goal.bounds-cursors-x
bounds-cursors-x g c =
    omega (arith, c.requires.given.lent.records.letters, c.loop-x.invariant.1)

pub bounds-cursors-x-in-loop-x : goal.bounds-cursors-x-in-loop-x
bounds-cursors-x-in-loop-x g c =
    omega (arith, c.requires.given.lent.records.letters, c.loop-x.invariant.1)

pub loop-x-preserved : goal.loop-x-preserved
loop-x-preserved g c =
    let b = c in
    let a = b.args in
    let l = c.loop-x in
    let f = c.lead in
    let lt : l.x < length l.cursors = omega (arith, b.requires.given.lent.records.letters, l.invariant.1) in (
      f.auto.costs ∙ l.invariant.0,
      length-set l.cursors l.x f.result ∙ l.invariant.1,
      stands_set g.P.Pass.stands a.t.now a.j a.profile.now.shape.k l.x f.result l.cursors lt f.ensures.splits.inside
          (g.met.P.Pass.stops a.t.now (add_count layout (counts_at a.t.now a.j) l.x) f.result f.ensures.splits) l.invariant.2,
      λ before o. subst (λ n. g.P.Pass.finds a.profile.now.shape a.profile.now.moves.now a.log.now a.t.now before f.new.costs a.j n) (sym (add-one l.x))
          (f.ensures.by_index before (l.invariant.3 before o)),
    )

pub loop-x-init : goal.loop-x-init
loop-x-init g c =
    let b = c in
    (refl, b.requires.j_bound.1, b.requires.j_bound.2, λ before o. o)

pub lead-requires : goal.lead-requires
lead-requires g c =
    let b = c in
    let a = b.args in
    let l = c.loop-x in
    let lt : l.x < a.profile.now.shape.k = omega arith in record {
      given = given_as_long a.profile.now.shape a.profile.now.moves.now a.t.now a.log.now a.placed.now.starts.now a.placed.now.places.now a.costs.now l.costs l.invariant.0 b.requires.given;
      whole_value = b.requires.whole_value;
      record_bound = (b.requires.j_bound.0, lt, (l.invariant.2 l.x lt).0, (l.invariant.2 l.x lt).1);
    }

pub returns : goal.returns
returns g c =
    let a = c.args in
    let l = c.loop-x in
    let all : l.x ≡ a.profile.now.shape.k = omega arith in record {
      stand = l.invariant.2;
      by_index = λ before o. subst (λ n. g.P.Pass.finds a.profile.now.shape a.profile.now.moves.now a.log.now a.t.now before l.costs a.j n) all (l.invariant.3 before o);
    }
