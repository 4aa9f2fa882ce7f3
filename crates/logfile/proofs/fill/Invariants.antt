-- `logfile::fill` meets its contract. The loop's invariant: the numbers before place j are put.
use mathlib.Core.Path.{◌≡◌}
use mathlib.Core.List.{◌++◌, map}
use Prim.Native.Nat.{◌+◌, ◌*◌}
use lib.ListN.{length, drop}
use Rattle.profile.specs.Lists.{below}
use Rattle.logfile.proofs.fill.Given as goal

abbrev pub invariant-loop-j : goal.invariant-loop-j
invariant-loop-j g l = (length l.numbers ≡ length l.initial.numbers)
    × (l.numbers ≡ map (λ i. g.T.Number.value (drop (l.at + g.T.Number.WIDTH * i) l.f)) (below l.j) ++ drop l.j l.initial.numbers)
