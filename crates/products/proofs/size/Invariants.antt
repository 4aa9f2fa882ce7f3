-- `products::size` meets its contract. The loop's invariant: the letters below x are done, each with at most 65,535 events.
use mathlib.Core.Path.{◌≡◌}
use mathlib.Core.List.{map}
use Prim.Native.Nat.{◌*◌, ◌≤◌}
use Rattle.profile.specs.Lists.{below, filter}
use Rattle.profile.specs.Prefixes.{at, total}
use Rattle.profile.specs.Traces.{bit}
use Rattle.products.proofs.size.Given as goal

abbrev pub invariant-loop-x : goal.invariant-loop-x
invariant-loop-x l = (l.n ≡ total (map (at l.counts) (filter (bit l.group) (below l.x)))) × (l.n ≤ 65535 * l.x)
