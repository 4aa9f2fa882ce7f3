-- What the tests of k and of bits say.
use mathlib.Core.Path.{◌≡◌}
use mathlib.Core.Bool.{false, not, ◌||◌}
use mathlib.Core.List.{List}
use mathlib.Core.Logic.{⊎_elim}
use Prim.Native.Nat.{ℕ, ◌≤◌, ◌/◌, ◌^◌}
use native.Mathlib.Nat.{le-div_iff_mul-le, one-mul}
use lib.Pow.{pow_pos}
use lib.Dec.{eqb, ltb, lt→ltb, le→leb, leb→le, ltb→lt}
use lib.ListN.{length}
use Rattle.profile.specs.Limits.{most_letters}
use Rattle.profile.specs.Refusals.{bit_from, letters_out_of_range}
use Rattle.profile.proofs.Lists.{lt_or_le, or_left, or_right}
use Rattle.profile.proofs.Sets.{t_eq}

-- k in range is at most 16
pub few_letters : (k : ℕ) (masks : List ℕ) → letters_out_of_range k masks ≡ false → k ≤ most_letters
few_letters k masks e = ⊎_elim
    (λ h.
    let long = not (eqb (length masks) k) in
    let t = or_right (ltb k 1) (ltb most_letters k || long) (or_left (ltb most_letters k) long (lt→ltb most_letters k h)) in
    absurd (rw e at t))
    (λ h. h)
    (lt_or_le most_letters k)

-- a bit from n on, by a shift
pub shift_from : (n S : ℕ) → ltb 0 (S / 2 ^ n) ≡ bit_from n S
shift_from n S = t_eq (ltb 0 (S / 2 ^ n)) (bit_from n S)
    (λ t. le→leb (2 ^ n) S (rw one-mul at ((le-div_iff_mul-le (pow_pos n)).0 (ltb→lt 0 (S / 2 ^ n) t))))
    (λ t. lt→ltb 0 (S / 2 ^ n) ((le-div_iff_mul-le (pow_pos n)).1 (rw one-mul (leb→le (2 ^ n) S t))))
