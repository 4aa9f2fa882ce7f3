-- `term_events::in_term` meets its contract. The loop's invariant: the letters below y let x by.
use lib.Dec.{T}
use Rattle.profile.specs.Lists.{all, below}
use Rattle.profile.specs.Prefixes.{at}
use Rattle.term_events.specs.InTerms.{lets_in?}
use Rattle.term_events.proofs.in_term.Given as goal

abbrev pub invariant-loop-y : goal.invariant-loop-y
invariant-loop-y l = T (all (lets_in? (at l.next) (at l.turns) l.x) (below l.y))
