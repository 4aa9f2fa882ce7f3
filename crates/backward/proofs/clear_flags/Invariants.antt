-- `backward::clear_flags` meets its contract. The loop's invariant: the first `j` records have no flags.
use Rattle.std.proofs.Common.{◌≡◌, length}
use Rattle.backward.specs.Backward.{cleared}
use Rattle.backward.proofs.clear_flags.Given as goal

abbrev pub invariant-loop-j : goal.invariant-loop-j
invariant-loop-j l = (length l.table ≡ length l.initial.table) × (l.table ≡ cleared l.initial.table l.j)
