-- `backward::flagged_before` meets its contract. The loop's invariant: the search from `from` on goes on at `i`.
use Rattle.std.proofs.Common.{◌≡◌}
use Rattle.backward.specs.Backward.{flag_before}
use Rattle.backward.proofs.flagged_before.Given as goal

abbrev pub invariant-loop-i : goal.invariant-loop-i
invariant-loop-i l = flag_before l.table l.x l.from ≡ flag_before l.table l.x l.i
