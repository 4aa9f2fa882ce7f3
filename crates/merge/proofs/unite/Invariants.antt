-- `merge::unite` meets its contract. The loop's invariant: what is handed on so far, united with what the records of the letters that are left hand on, is
-- the whole. The measure is the set of the letters that are left, as a number.
use Prim.Native.Nat.{ℕ, ◌^◌, ◌<◌}
use mathlib.Core.Path.{◌≡◌}
use lib.Bits.{bit_or}
use lib.Dec.{T}
use Rattle.profile.specs.Traces.{bit}
use Rattle.merge.specs.Merge.{inherited, passing, united}
use Rattle.merge.proofs.unite.Given as goal

abbrev pub invariant-loop-rest : goal.invariant-loop-rest
invariant-loop-rest l =
    (l.rest < 2 ^ 32) × ((y : ℕ) → T (bit l.rest y) → T (bit l.set y))
    × (bit_or l.out.forward (united l.rows.profile.shape.k l.rows.profile.shape.s l.rows.profile.moves.now l.level l.cursors l.rest) ≡ united l.rows.profile.shape.k l.rows.profile.shape.s l.rows.profile.moves.now l.level l.cursors l.set)
    × (bit_or l.out.letters (inherited l.rows.profile.shape.k l.level l.cursors l.rest) ≡ inherited l.rows.profile.shape.k l.level l.cursors l.set)
    × (bit_or l.out.passed (passing l.rows.profile.shape.k l.rows.profile.masks.now l.rest) ≡ passing l.rows.profile.shape.k l.rows.profile.masks.now l.set)

abbrev pub decreases-loop-rest : goal.decreases-loop-rest
decreases-loop-rest l = l.rest
