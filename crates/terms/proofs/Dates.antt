-- Days as numbers are dates, and compare as dates do.
use mathlib.Core.Path.{◌≡◌, subst}
use mathlib.Core.Bool.{Bool, true, false, ◌&&◌, cond}
use mathlib.Core.Logic.{⊎_elim, ◌↔◌}
use mathlib.Core.List.{List, [], ◌∷◌}
use Prim.Native.Nat.{ℕ, zero, suc, ◌/◌, ◌%◌, ◌≤◌, ◌<◌}
use native.Mathlib.Omega.{arith}
use lib.Dec.{T, leb, leb→le, le→leb}
use lib.ListN.{get_or}
use Rattle.profile.specs.Lists.{all}
use Rattle.profile.specs.Orders.{NoLater, ends, smaller, agrees}
use Rattle.profile.proofs.Lists.{both, fst_of, snd_of, lt_or_le}
use Rattle.terms.specs.Days.{Date, date?, day_bound, day_number, day?, first_year, last_year, leap?, month_days}

all_most : (n : ℕ) (l : List ℕ) → T (all (λ x. leb x n) l) → (i : ℕ) → get_or l i 0 ≤ n
all_most n [] h i = omega arith
all_most n (x ∷ l) h zero = leb→le x n (fst_of (leb x n) (all (λ x. leb x n) l) h)
all_most n (x ∷ l) h (suc i) = all_most n l (snd_of (leb x n) (all (λ x. leb x n) l) h) i

-- a month has at most 31 days
month_most : (y m : ℕ) → month_days y m ≤ 31
month_most y m = go (leap? y)
  where
    go : (b : Bool) → get_or (0 ∷ 31 ∷ cond b 29 28 ∷ 31 ∷ 30 ∷ 31 ∷ 30 ∷ 31 ∷ 31 ∷ 30 ∷ 31 ∷ 30 ∷ 31 ∷ []) m 0 ≤ 31
    go true = all_most 31 (0 ∷ 31 ∷ 29 ∷ 31 ∷ 30 ∷ 31 ∷ 30 ∷ 31 ∷ 31 ∷ 30 ∷ 31 ∷ 30 ∷ 31 ∷ []) tt m
    go false = all_most 31 (0 ∷ 31 ∷ 28 ∷ 31 ∷ 30 ∷ 31 ∷ 30 ∷ 31 ∷ 31 ∷ 30 ∷ 31 ∷ 30 ∷ 31 ∷ []) tt m

pub date_test : (y m d : ℕ) → T (date? y m d) ↔ Date y m d
date_test y m d = (
  λ t.
      let r₁ = leb y last_year && (leb 1 m && (leb m 12 && (leb 1 d && leb d (month_days y m)))) in
      let r₂ = leb 1 m && (leb m 12 && (leb 1 d && leb d (month_days y m))) in
      let r₃ = leb m 12 && (leb 1 d && leb d (month_days y m)) in
      let r₄ = leb 1 d && leb d (month_days y m) in
      let t₁ = snd_of (leb first_year y) r₁ t in
      let t₂ = snd_of (leb y last_year) r₂ t₁ in
      let t₃ = snd_of (leb 1 m) r₃ t₂ in
      let t₄ = snd_of (leb m 12) r₄ t₃ in
      record {
        year = (leb→le first_year y (fst_of (leb first_year y) r₁ t), leb→le y last_year (fst_of (leb y last_year) r₂ t₁));
        month = (leb→le 1 m (fst_of (leb 1 m) r₃ t₂), leb→le m 12 (fst_of (leb m 12) r₄ t₃));
        day = (leb→le 1 d (fst_of (leb 1 d) (leb d (month_days y m)) t₄), leb→le d (month_days y m) (snd_of (leb 1 d) (leb d (month_days y m)) t₄));
      },
  λ h.
      both (leb first_year y) (leb y last_year && (leb 1 m && (leb m 12 && (leb 1 d && leb d (month_days y m))))) (le→leb first_year y h.year.0)
      (both (leb y last_year) (leb 1 m && (leb m 12 && (leb 1 d && leb d (month_days y m)))) (le→leb y last_year h.year.1)
      (both (leb 1 m) (leb m 12 && (leb 1 d && leb d (month_days y m))) (le→leb 1 m h.month.0)
      (both (leb m 12) (leb 1 d && leb d (month_days y m)) (le→leb m 12 h.month.1)
      (both (leb 1 d) (leb d (month_days y m)) (le→leb 1 d h.day.0) (le→leb d (month_days y m) h.day.1))))),
)

-- a number is such a date exactly when it is that of a year, a month and a day that are one
pub day_is : (n : ℕ) → T (day? n) ↔ ((y m d : ℕ) × Date y m d × (n ≡ day_number y m d))
day_is n = (
  λ t. (n / 10000, n / 100 % 100, n % 100, (date_test (n / 10000) (n / 100 % 100) (n % 100)).0 t, omega arith),
  λ q. back q.0 q.1 q.2 q.3 q.4,
)
  where
    back : (y m d : ℕ) → Date y m d → n ≡ day_number y m d → T (day? n)
    back y m d h e =
        let a : y ≡ n / 10000 = omega (arith, h.month.1, h.day.1, month_most y m) in
        let b : m ≡ n / 100 % 100 = omega (arith, h.month.1, h.day.1, month_most y m) in
        let c : d ≡ n % 100 = omega (arith, h.month.1, h.day.1, month_most y m) in
        (date_test (n / 10000) (n / 100 % 100) (n % 100)).1 (subst (λ z. Date z (n / 100 % 100) (n % 100)) a (subst (λ z. Date y z (n % 100)) b (subst (Date y m) c h)))

-- such a number has at most eight digits
pub day_small : (n : ℕ) → T (day? n) → n < day_bound
day_small n t = let q = (day_is n).0 t in omega (arith, q.4, q.3.year.1, q.3.month.1, q.3.day.1, month_most q.0 q.1)

-- one day is no later than another exactly when its number is no greater: first the year decides, then the month, then the day
pub days_compare : (y m d y' m' d' : ℕ) → Date y m d → Date y' m' d'
    → (day_number y m d ≤ day_number y' m' d') ↔ NoLater (y ∷ m ∷ d ∷ []) (y' ∷ m' ∷ d' ∷ [])
days_compare y m d y' m' d' h h' = (
  λ le. ⊎_elim (λ lt. smaller lt)
      (λ g. agrees (omega (arith, le, small)) (⊎_elim (λ lt. smaller lt)
      (λ g₂. agrees (omega (arith, le, small)) (⊎_elim (λ lt. smaller lt) (λ g₃. agrees (omega (arith, le, small)) ends) (lt_or_le d d')))
      (lt_or_le m m')))
      (lt_or_le y y'),
  by-year,
)
  where
    small : (m ≤ 12) × (m' ≤ 12) × (d ≤ 31) × (d' ≤ 31)
    small = (h.month.1, h'.month.1, omega (arith, h.day.1, month_most y m), omega (arith, h'.day.1, month_most y' m'))

    by-day : y ≡ y' → m ≡ m' → NoLater (d ∷ []) (d' ∷ []) → day_number y m d ≤ day_number y' m' d'
    by-day e e₂ (smaller lt) = omega arith
    by-day e e₂ (agrees q n) = omega arith

    by-month : y ≡ y' → NoLater (m ∷ d ∷ []) (m' ∷ d' ∷ []) → day_number y m d ≤ day_number y' m' d'
    by-month e (smaller lt) = omega (arith, small)
    by-month e (agrees q n) = by-day e q n

    by-year : NoLater (y ∷ m ∷ d ∷ []) (y' ∷ m' ∷ d' ∷ []) → day_number y m d ≤ day_number y' m' d'
    by-year (smaller lt) = omega (arith, small)
    by-year (agrees q n) = by-month q n
