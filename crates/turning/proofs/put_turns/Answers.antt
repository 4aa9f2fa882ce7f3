use mathlib.Core.Path.{◌≡◌, subst}
use Prim.Native.Nat.{◌≤◌}
use lib.ListN.{length}
use Rattle.turns.specs.Turns.{turn_table}
use native.Mathlib.Omega.{arith}
use Rattle.turning.proofs.Steps.{AllPut, all_done, all_room, all_start, all_step, turn_table_many}
use Rattle.turning.proofs.put_turns.Goals as goal
use Rattle.turning.proofs.put_turns.Goals.{Start}

pub loop-x-init : goal.loop-x-init
loop-x-init c = let s = c in all_start s.args.events.now s.args.k s.args.turns.now s.requires.2

-- the table has its place
fits : (s : Start) → length (turn_table s.args.k s.args.events.now) ≤ length s.args.turns.now
fits s = omega (arith, turn_table_many s.args.events.now s.args.k s.requires.2, s.requires.4)

pub put_turns_of-to-requires : goal.put_turns_of-to-requires
put_turns_of-to-requires c =
    let s = c in
    let l = c.loop-x in
    let m = all_room s.args.events.now s.args.k s.args.turns.now c.loop-x-test.true l.invariant (fits (goal.at.put_turns_of-to-requires c).Start) in
    (s.requires.0, s.requires.3, m.0, m.1)

pub loop-x-preserved : goal.loop-x-preserved
loop-x-preserved c =
    let s = c in
    let l = c.loop-x in
    let f = c.put_turns_of-to in
    all_step s.args.events.now s.args.k s.args.turns.now c.loop-x-test.true l.invariant (fits (goal.at.loop-x-preserved c).Start) f.ensures.0 f.ensures.1

pub shape_of-turns : goal.shape_of-turns
shape_of-turns c = c.loop-x.invariant.long

pub returns : goal.returns
returns c =
    let s = c in
    let l = c.loop-x in
    let z : l.x ≡ 0 = omega arith in
    all_done s.args.events.now s.args.k s.args.turns.now (fits (goal.at.returns c).Start) (subst (AllPut s.args.events.now s.args.k s.args.turns.now l.turns l.to) z l.invariant)
