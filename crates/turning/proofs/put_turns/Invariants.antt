-- `turning::put_turns` meets its contract. The loop's invariant: the turns of the letters from x on are put.
use Rattle.turning.proofs.Steps.{AllPut}
use Rattle.turning.proofs.put_turns.Given as goal

abbrev pub invariant-loop-x : goal.invariant-loop-x
invariant-loop-x l = AllPut l.events l.k l.initial.turns l.turns l.to l.x
