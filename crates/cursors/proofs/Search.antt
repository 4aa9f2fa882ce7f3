-- The search for the next record, for loops: record j is the one, or the search goes on at the next, or j is the end.
use mathlib.Core.Path.{◌≡◌, ◌∙◌, ap}
use mathlib.Core.Bool.{true, false}
use mathlib.Core.List.{List}
use Prim.Native.Nat.{ℕ, suc, ◌+◌, ◌-◌, ◌≤◌, ◌<◌}
use native.Mathlib.Omega.{arith}
use native.Mathlib.Numerals.{add-one}
use Rattle.profile.specs.Lists.{first_place, range}
use Rattle.profile.specs.Traces.{bit}
use Rattle.records.specs.Records.{last_at, records_in}
use Rattle.cursors.specs.Cursors.{seek_from}

module _ (t : List ℕ) (j x : ℕ) where
  left : j < records_in t → records_in t - j ≡ suc (records_in t - suc j)
  left h = omega arith

  pub seek_here : j < records_in t → bit (last_at t j) x ≡ true → seek_from t j x ≡ j
  seek_here h e = ap (λ n. j + first_place (λ i. bit (last_at t i) x) (range j n)) (left h) ∙ rw (e, first_place) (omega arith)

  pub seek_on : j < records_in t → bit (last_at t j) x ≡ false → seek_from t j x ≡ seek_from t (j + 1) x
  seek_on h e =
      ap (λ n. j + first_place (λ i. bit (last_at t i) x) (range j n)) (left h) ∙ rw (e, first_place, add-one j) (omega arith)

  pub seek_none : records_in t ≤ j → seek_from t j x ≡ j
  seek_none h = let e : records_in t - j ≡ 0 = omega arith in ap (λ n. j + first_place (λ i. bit (last_at t i) x) (range j n)) e ∙ omega arith
