-- A cursor that moves forth or back to where the records divide that stand before given counts from those that do not.
use mathlib.Core.Path.{◌≡◌, subst}
use mathlib.Core.Bool.{Bool, true, false, not}
use mathlib.Core.Logic.{⊎_elim}
use mathlib.Core.List.{List}
use Prim.Native.Nat.{ℕ, suc, ◌≤◌}
use native.Mathlib.Omega.{arith}
use lib.Dec.{T}
use Rattle.profile.proofs.Lists.{lt_or_le}
use Rattle.records.specs.Records.{counts_at, records_in}
use Rattle.search.specs.Search.{Ordered, stands_before?}
use Rattle.search.proofs.Halves.{between_down, between_up}
use Rattle.costcursors.specs.Cursors.{High, Low, Splits}

pub not_false : (b : Bool) → not b ≡ false → T b
not_false true e = tt
not_false false e = subst T e tt

module _ (t c : List ℕ) where
  pub forth_stop : (j : ℕ) → j ≤ records_in t → Low t c j → T (not (stands_before? (counts_at t j) c)) → Ordered t → Splits t c j
  forth_stop j h low n o = record {
    inside = h;
    low = low;
    high = (between_down t c o j (records_in t) j (low, λ i l k. absurd (omega (arith, l, k))) n).1;
  }

  pub forth_more : (j m : ℕ) → m ≡ suc j → Low t c j → T (stands_before? (counts_at t j) c) → Low t c m
  forth_more j m e low y i h = ⊎_elim (λ l. low i l) (λ l. let q : j ≡ i = omega (arith, e, h, l) in subst (λ z. T (stands_before? (counts_at t z) c)) q y) (lt_or_le i j)

  pub back_stop : (j m : ℕ) → j ≡ suc m → j ≤ records_in t → High t c j → T (stands_before? (counts_at t m) c) → Ordered t → Splits t c j
  back_stop j m e h high y o = record {
    inside = h;
    low = λ i l. (between_up t c o 0 j m (λ i l. absurd (omega (arith, l)), high) (omega (arith, e, h)) y).0 i (omega (arith, e, l));
    high = high;
  }

  pub back_more : (j m : ℕ) → j ≡ suc m → High t c j → T (not (stands_before? (counts_at t m) c)) → High t c m
  back_more j m e high n i l k = ⊎_elim (λ lt. let q : m ≡ i = omega (arith, e, l, lt) in subst (λ z. T (not (stands_before? (counts_at t z) c))) q n) (λ ge. high i ge k) (lt_or_le i j)
