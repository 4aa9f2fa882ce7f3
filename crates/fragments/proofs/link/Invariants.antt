-- `fragments::link` meets its contract.
use lib.ListN.{length, get_or, drop}
use mathlib.Core.Path.{◌≡◌}
use mathlib.Core.List.{◌++◌, map}
use Rattle.profile.specs.Lists.{below}
use Rattle.profile.specs.Traces.{bit}
use lib.Bits.{bit_or}
use Rattle.expressions.specs.Positions.{when}
use Rattle.fragments.proofs.link.Given as goal

abbrev pub invariant-loop-i : goal.invariant-loop-i
invariant-loop-i l =
    (length l.rows ≡ length l.initial.rows)
    × (l.rows ≡ map (λ k. bit_or (get_or l.initial.rows k 0) (when (bit l.from k) l.to)) (below l.i) ++ drop l.i l.initial.rows)
