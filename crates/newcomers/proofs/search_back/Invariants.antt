-- `newcomers::search_back` meets its contract.
use Prim.Native.Nat.{ℕ, ◌<◌, ◌≤◌}
use lib.Dec.{T}
use Rattle.counts.specs.Counts.{words}
use Rattle.newcomers.specs.Newcomers.{gives?}
use Rattle.newcomers.proofs.search_back.Given as goal

abbrev pub invariant-loop-j : goal.invariant-loop-j
invariant-loop-j l = (x : ℕ) → l.j ≤ x → x < l.i → T (gives? l.t l.b (words l.c) x) → ⊥
