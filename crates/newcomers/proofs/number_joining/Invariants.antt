-- `newcomers::number_joining` meets its contract.
use mathlib.Core.Path.{◌≡◌}
use Prim.Native.Nat.{◌-◌, ◌≤◌}
use lib.ListN.{length}
use Rattle.profile.specs.Lists.{below, filter}
use Rattle.profile.specs.Traces.{independent}
use Rattle.records.specs.Records.{counts_at}
use Rattle.newcomers.specs.Newcomers.{joins_at?}
use Rattle.newcomers.proofs.number_joining.Given as goal

abbrev pub invariant-loop-j : goal.invariant-loop-j
invariant-loop-j l = (l.number ≤ l.j) × (l.number ≡ length (filter (λ x. joins_at? (independent l.profile.masks.now) l.profile.shape.k (counts_at l.t (l.n - 1)) l.a (counts_at l.t x)) (below l.j)))
