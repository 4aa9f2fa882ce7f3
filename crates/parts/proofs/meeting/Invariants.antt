-- `parts::meeting` meets its contract.
use Prim.Native.Nat.{ℕ, ◌≤◌, ◌<◌}
use Rattle.pairs.specs.Pairs.{Meets}
use Rattle.parts.proofs.meeting.Given as goal

abbrev pub invariant-loop-m : goal.invariant-loop-m
invariant-loop-m l = (i f s : ℕ) → l.from ≤ i → i < l.m → Meets l.rules l.row l.column l.n i f s → ⊥
