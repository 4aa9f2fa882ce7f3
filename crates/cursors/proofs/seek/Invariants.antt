-- `cursors::seek` meets its contract. The loop's invariant: the search from `from` on is the search from `j` on.
use mathlib.Core.Path.{◌≡◌}
use Rattle.cursors.specs.Cursors.{seek_from}
use Rattle.cursors.proofs.seek.Given as goal

abbrev pub invariant-loop-j : goal.invariant-loop-j
invariant-loop-j l = seek_from l.level l.from l.x ≡ seek_from l.level l.j l.x
