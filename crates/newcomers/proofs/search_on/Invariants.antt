-- `newcomers::search_on` meets its contract.
use Prim.Native.Nat.{ℕ, ◌<◌, ◌≤◌}
use lib.Dec.{T}
use Rattle.counts.specs.Counts.{words}
use Rattle.newcomers.specs.Newcomers.{gives?}
use Rattle.newcomers.proofs.search_on.Given as goal

abbrev pub invariant-loop-j : goal.invariant-loop-j
invariant-loop-j l = (x : ℕ) → l.from ≤ x → x < l.j → T (gives? l.t l.b (words l.c) x) → ⊥
