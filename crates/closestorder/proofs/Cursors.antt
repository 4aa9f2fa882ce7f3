-- Where a cursor among the records ends, what it stands at, and totals before counts.
use mathlib.Core.Path.{◌≡◌, sym, ◌∙◌, ap}
use mathlib.Core.Bool.{Bool, false, not, ◌&&◌}
use mathlib.Core.List.{List, ◌∷◌}
use Prim.Native.Nat.{ℕ, ◌≤◌, ◌<◌}
use native.Mathlib.Omega.{arith}
use borrow.Author.Tests.{lt-ltb}
use lib.Dec.{not_T, ltb, ltb→lt, lt→ltb}
use Rattle.profile.specs.Orders.{no_later?}
use Rattle.profile.proofs.Lists.{is_false, is_true}
use Rattle.records.specs.Records.{records_in}
use Rattle.search.specs.Search.{has?}
use Rattle.costcursors.specs.Cursors.{High, Low, Splits}

module _ (t c : List ℕ) where
  pub forth_end : (j : ℕ) → j ≡ records_in t → Low t c j → Splits t c j
  forth_end j e low = record { inside = omega (arith, e); low = low; high = λ i l k. absurd (omega (arith, e, l, k)) }

  pub back_end : (j : ℕ) → j ≡ 0 → High t c j → Splits t c j
  back_end j e high = record { inside = omega (arith, e); low = λ i l. absurd (omega (arith, e, l)); high = high }

  pub found_here : (j : ℕ) (b : Bool) → j < records_in t → b ≡ has? t c j → b ≡ (ltb j (records_in t) && has? t c j)
  found_here j b h e = e ∙ sym (ap (λ z. z && has? t c j) (is_true (ltb j (records_in t)) (lt→ltb j (records_in t) h)))

  pub not_found : (j : ℕ) → records_in t ≤ j → false ≡ (ltb j (records_in t) && has? t c j)
  not_found j h = sym (ap (λ z. z && has? t c j) (is_false (ltb j (records_in t)) (not_T (ltb j (records_in t)) (λ y. omega (arith, h, ltb→lt j (records_in t) y)))))

-- ---- totals before counts

pub before_more : (m n : ℕ) (u v : List ℕ) → n < m → not (no_later? (n ∷ v) (m ∷ u)) ≡ false
before_more m n u v h = rw (lt-ltb n m h)

-- totals as the code has them: `omega` would write out the sixteen counts
pub less_by : {m n i j : ℕ} → m ≡ i → n ≡ j → m < n → i < j
less_by p q h = omega arith

pub same_by : {m n i j : ℕ} → m ≡ i → n ≡ j → n ≤ m → m ≤ n → i ≡ j
same_by p q g h = omega arith
