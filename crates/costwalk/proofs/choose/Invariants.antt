-- `costwalk::choose` meets its contract. The loop's invariant: no letter below x leads to an end.
use Rattle.counts.specs.Counts.{words}
use Rattle.costwalk.proofs.Trying.{Passed}
use Rattle.costwalk.proofs.choose.Given as goal

abbrev pub invariant-loop-x : goal.invariant-loop-x
invariant-loop-x l =
    Passed l.profile.shape l.profile.moves.now l.t l.log l.placed.starts.now l.placed.places.now l.costs (words l.taken.counts) l.taken.states l.taken.left l.x
