-- `backward::back_of` meets its contract. The loop's invariant: `out`, united with the set from the letters that are left, is the whole set;
-- their cursors have not moved, and those of the others have. The measure is the number of the letters that are left.
use Rattle.std.proofs.Common.{◌≡◌, ℕ, ◌^◌, ◌<◌, not, T, List, length, get_or}
use lib.Bits.{bit_or}
use Rattle.profile.specs.Automata.{backward_step, union}
use Rattle.profile.specs.Lists.{below, filter}
use Rattle.profile.specs.Traces.{bit}
use Rattle.records.specs.Records.{last_at}
use Rattle.backward.specs.Backward.{back_from, flag_before, letters_at, moved}
use Rattle.backward.proofs.back_of.Given as goal

-- the cursors: those of the letters that are left stand where they stood, those of the others have moved
abbrev pub Moved : List ℕ → ℕ → ℕ → List ℕ → ℕ → List ℕ → Type 0
Moved t j k cursors₀ rest cursors =
    ((y : ℕ) → T (bit rest y) → get_or cursors y 0 ≡ get_or cursors₀ y 0)
    × ((y : ℕ) → y < k → T (not (bit rest y)) → get_or cursors y 0 ≡ moved t j (λ y. get_or cursors₀ y 0) y)

abbrev pub invariant-loop-rest : goal.invariant-loop-rest
invariant-loop-rest l =
    (l.rest < 2 ^ 32) × (length l.cursors ≡ length l.initial.cursors) × ((y : ℕ) → T (bit l.rest y) → T (bit (letters_at l.table l.j) y))
    × (bit_or l.out (union (λ x. backward_step l.rows.profile.shape.k l.rows.profile.shape.s l.rows.profile.moves.now (last_at l.table (flag_before l.table x (get_or l.initial.cursors x 0))) x) (filter (bit l.rest) (below l.rows.profile.shape.k)))
    ≡ back_from l.table l.j l.rows.profile.shape.k l.rows.profile.shape.s l.rows.profile.moves.now (λ y. get_or l.initial.cursors y 0))
    × Moved l.table l.j l.rows.profile.shape.k l.initial.cursors l.rest l.cursors

abbrev pub decreases-loop-rest : goal.decreases-loop-rest
decreases-loop-rest l = l.rest
