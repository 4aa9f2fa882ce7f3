-- Document 02, Paper 8: "one day for each event, by year, month and day, a Gregorian date from 1900-01-01 to 2199-12-31". A day is one number, year × 10,000 +
-- month × 100 + day, as 20260914; so days compare as numbers do.
use Rattle.std.specs.Prelude.{Bool, not, ◌&&◌, ◌||◌, cond, [], ◌∷◌, ℕ, ◌+◌, ◌*◌, ◌/◌, ◌%◌, ◌≤◌, eqb, leb, get_or}

abbrev pub day_number : ℕ → ℕ → ℕ → ℕ
day_number y m d = 10000 * y + 100 * m + d

-- such a number has at most eight digits
abbrev pub day_bound : ℕ
day_bound = 100000000

-- "from 1900-01-01 to 2199-12-31": whole years
abbrev pub first_year : ℕ
first_year = 1900

abbrev pub last_year : ℕ
last_year = 2199

-- "Gregorian": every fourth year has a 29th of February, save those that 100 divides and 400 does not
abbrev pub leap? : ℕ → Bool
leap? y = eqb (y % 4) 0 && (not (eqb (y % 100) 0) || eqb (y % 400) 0)

-- the days of month m of year y, for m from 1 to 12
abbrev pub month_days : ℕ → ℕ → ℕ
month_days y m = get_or (0 ∷ 31 ∷ cond (leap? y) 29 28 ∷ 31 ∷ 30 ∷ 31 ∷ 30 ∷ 31 ∷ 31 ∷ 30 ∷ 31 ∷ 30 ∷ 31 ∷ []) m 0

-- "a Gregorian date from 1900-01-01 to 2199-12-31", of a year, a month and a day
pub record Date (y m d : ℕ) : Type 0 where
  pub year : (first_year ≤ y) × (y ≤ last_year)
  pub month : (1 ≤ m) × (m ≤ 12)
  pub day : (1 ≤ d) × (d ≤ month_days y m)

-- the same as a test of a number
abbrev pub date? : ℕ → ℕ → ℕ → Bool
date? y m d = leb first_year y && (leb y last_year && (leb 1 m && (leb m 12 && (leb 1 d && leb d (month_days y m)))))

abbrev pub day? : ℕ → Bool
day? n = date? (n / 10000) (n / 100 % 100) (n % 100)
