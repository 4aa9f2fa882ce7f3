use mathlib.Core.Path.{subst}
use native.Mathlib.Omega.{arith}
use Rattle.counts.specs.Counts.{words}
use Rattle.costwalk.specs.Walk.{Tries}
use Rattle.costwalk.proofs.Trying.{chosen_of, passed_more, passed_none}
use Rattle.costwalk.proofs.choose.Goals as goal

pub loop-x-init : goal.loop-x-init
loop-x-init c = let a = c.args in passed_none a.profile.now.shape a.profile.now.moves.now a.t.now a.log.now a.placed.now.starts.now a.placed.now.places.now a.costs.now (words a.taken.counts) a.taken.states a.taken.left

pub try_letter-next-requires : goal.try_letter-next-requires
try_letter-next-requires c = record {
  stands = c.requires.stands;
  x_lt_k = c.loop-x-test.true;
}

pub returns-in-Some : goal.returns-in-Some
returns-in-Some c =
    let a = c.args in
    let l = c.loop-x in
    chosen_of a.profile.now.shape a.profile.now.moves.now a.t.now a.log.now a.placed.now.starts.now a.placed.now.places.now a.costs.now (words a.taken.counts) a.taken.states a.taken.left l.x c.in-Some.cost c.loop-x-test.true l.invariant
    (subst (Tries a.profile.now.shape a.profile.now.moves.now a.t.now a.log.now a.placed.now.starts.now a.placed.now.places.now a.costs.now (words a.taken.counts) a.taken.states a.taken.left l.x) c.in-Some.is c.try_letter-next.ensures)

pub loop-x-preserved : goal.loop-x-preserved
loop-x-preserved c =
    let a = c.args in
    let l = c.loop-x in
    passed_more a.profile.now.shape a.profile.now.moves.now a.t.now a.log.now a.placed.now.starts.now a.placed.now.places.now a.costs.now (words a.taken.counts) a.taken.states a.taken.left l.x l.invariant
    (subst (Tries a.profile.now.shape a.profile.now.moves.now a.t.now a.log.now a.placed.now.starts.now a.placed.now.places.now a.costs.now (words a.taken.counts) a.taken.states a.taken.left l.x) c.in_default.is c.try_letter-next.ensures)

-- some letter leads to an end
pub unreachable-requires : goal.unreachable-requires
unreachable-requires c =
    let h = c.requires.stands in
    let e = c.requires.some in
    c.loop-x.invariant h.masks h.may h.letter h.events h.standing e.0 (omega (arith, e.1, c.loop-x-test.false)) e.2
