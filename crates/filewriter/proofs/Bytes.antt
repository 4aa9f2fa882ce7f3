-- Numbers written in bytes, low byte first.
use mathlib.Core.Path.{◌≡◌, refl, ◌∙◌, ap}
use Prim.Native.Nat.{ℕ, zero, suc, ◌+◌, ◌*◌, ◌/◌, ◌^◌, ◌<◌}
use native.Mathlib.Omega.{arith}
use lib.ListN.{length}
use lib.Pow.{pow-add}
use Rattle.profile.specs.Tables.{pack}
use Rattle.filewriter.specs.Written.{low_bytes}

-- ---- written

pub low_length : (b n : ℕ) → length (low_bytes b n) ≡ b
low_length zero n = refl
low_length (suc b) n = ap suc (low_length b (n / 256))

-- a number below 256 ^ b is read from its b bytes
pub pack_low : (b n : ℕ) → n < 2 ^ (8 * b) → pack 8 (low_bytes b n) ≡ n
pack_low zero n h = omega arith
pack_low (suc b) n h =
    let e : 8 * suc b ≡ 8 + 8 * b = omega arith in
    let p : 2 ^ (8 * suc b) ≡ 256 * 2 ^ (8 * b) = ap (λ m. 2 ^ m) e ∙ pow-add 2 8 (8 * b) in
    omega (arith, pack_low b (n / 256) (omega arith))
