-- The second table: place a × P + b, for a and b below P; no two pairs share one.
use mathlib.Core.Path.{◌≡◌, sym, ◌∙◌, ap}
use mathlib.Core.List.{List}
use Prim.Native.Nat.{ℕ, ◌+◌, ◌-◌, ◌*◌, ◌/◌, ◌%◌, ◌≤◌, ◌<◌}
use native.Mathlib.Nat.{mul-le-mul, mul-le-mul_right, suc-mul}
use native.Mathlib.Omega.{arith}
use lib.Arith.{digits_div, digits_lt, digits_mod}
use lib.ListN.{get_or, length, take, drop, length-drop}
use lib.Seq.{get_or-drop, take-length}
use Rattle.profile.specs.Limits.{most_records}

pub small_square : (n : ℕ) → n ≤ most_records → n * n ≤ most_records * most_records
small_square n h = mul-le-mul h h

pub place_lt : (n a b : ℕ) → a < n → b < n → a * n + b < n * n
place_lt n a b h k = digits_lt h k

-- the place says the pair
pub place_inj : (n a b c d : ℕ) → b < n → d < n → a * n + b ≡ c * n + d → (a ≡ c) × (b ≡ d)
place_inj n a b c d h k e = (
  sym (digits_div a h) ∙ ap (λ m. m / n) e ∙ digits_div c k,
  sym (digits_mod a h) ∙ ap (λ m. m % n) e ∙ digits_mod c k,
)

-- ---- a row of the table: what it has from a place on

pub tail_is : (l : List ℕ) (p : ℕ) → take (length l - p) (drop p l) ≡ drop p l
tail_is l p = ap (λ n. take n (drop p l)) (sym (length-drop p l)) ∙ take-length (drop p l)

-- the row that begins at place p, where p is a × P + 0
pub row_is : (l : List ℕ) (p n a : ℕ) → p ≡ a * n + 0 → take (length l - p) (drop p l) ≡ drop (a * n) l
row_is l p n a e = let q : p ≡ a * n = omega arith in tail_is l p ∙ ap (λ m. drop m l) q

-- it has all places of the row
pub row_long : (l : List ℕ) (n a : ℕ) → a < n → n * n ≤ length l → n ≤ length (drop (a * n) l)
row_long l n a h k =
    omega (arith, length-drop (a * n) l, mul-le-mul_right n h, suc-mul a n)

pub row_at : (l : List ℕ) (p m : ℕ) → get_or (drop p l) m 0 ≡ get_or l (p + m) 0
row_at l p m = get_or-drop p l m 0
