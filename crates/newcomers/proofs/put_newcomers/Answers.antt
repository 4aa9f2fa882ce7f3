-- `newcomers::put_newcomers` meets its contract.
use mathlib.Core.Path.{refl, sym, ◌∙◌, ap}
use Prim.Native.Nat.{◌+◌, ◌*◌, ◌≤◌}
use native.Mathlib.Omega.{arith}
use lib.ListN.{length}
use Rattle.profile.specs.Automata.{lent}
use Rattle.profile.specs.Traces.{independent}
use Rattle.records.specs.Records.{counts_at}
use Rattle.newcomers.specs.Newcomers.{begin, joins_at?}
use Rattle.newcomers.proofs.Trials.{joined, joined_upto, place_for, standing, try_again}
use Rattle.newcomers.proofs.put_newcomers.Goals as goal

pub loop-r-init : goal.loop-r-init
loop-r-init c = (refl, begin)

pub put_if_joins-i-requires : goal.put_if_joins-i-requires
put_if_joins-i-requires c =
    let a = c.args in
    let h = c.requires in
    let l = c.loop-r in
    let last = c.numbers-last.ensures ∙ c.counts_at.ensures in
    let room : 10 * (a.n + joined (lent a.profile.now) a.n a.a a.t.now a.n) ≤ length a.t.now = h.3 in
    let s = standing (lent a.profile.now) a.n a.a a.t.now room l.invariant.1 in
    let lt = c.loop-r-test.true in record {
      k_le_most_letters = (h.0, h.1, omega (arith, l.invariant.0), omega (arith, lt, s.counted), omega (arith, room, s.counted, s.long, joined_upto (lent a.profile.now) a.n a.a a.t.now l.r lt));
      layout_in_bounds = λ e. omega (arith, (place_for (lent a.profile.now) a.n a.a a.t.now room s lt (ap (λ v. joins_at? (independent a.profile.now.masks.now) a.profile.now.shape.k v a.a (counts_at l.t l.r)) (sym last) ∙ e)).0);
    }

pub loop-r-preserved : goal.loop-r-preserved
loop-r-preserved c =
    let a = c.args in
    let l = c.loop-r in
    try_again (lent a.profile.now) a.n a.a a.t.now c.requires.3 (c.numbers-last.ensures ∙ c.counts_at.ensures) l.invariant.1 c.loop-r-test.true c.put_if_joins-i.ensures
