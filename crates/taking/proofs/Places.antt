-- How a letter's place for new records is told and moved, case by case, and a record that is put or not.
use mathlib.Core.Path.{◌≡◌, refl, sym, ◌∙◌, ap, subst, subst₂}
use mathlib.Core.Bool.{Bool, true, false, ◌||◌, cond}
use mathlib.Core.Logic.{⊎_elim}
use mathlib.Core.List.{List}
use Prim.Native.Nat.{ℕ, ◌+◌, ◌-◌, ◌*◌, ◌≤◌, ◌<◌}
use native.Mathlib.Omega.{arith}
use lib.Dec.{T, eqb, eqb→eq, eqb_refl}
use lib.ListN.{get_or, length, set}
use lib.Seq.{get_or-set_other, get_or-set_same}
use Rattle.profile.specs.Automata.{Profile}
use Rattle.profile.proofs.Lists.{either, is_true, lt_or_le, or_left, or_right}
use Rattle.profile.proofs.Sets.{t_eq}
use Rattle.records.specs.Records.{counts_at}
use Rattle.newcomers.specs.Newcomers.{Inside, Moved, PlaceFor, PlaceTold, Put, PutIf, Scanned, absent, count_in, found}

-- the test of one letter, by two counts that are told
pub allows_same : (m : Bool) {x y r q : ℕ} → r ≡ x → q ≡ y → r ≡ q → true ≡ (m || eqb x y)
allows_same m {x} {y} e f g = sym (is_true (m || eqb x y) (or_right m (eqb x y) (subst (λ z. T (eqb x z)) (sym e ∙ g ∙ f) (eqb_refl x))))

pub allows_other : (m : Bool) {x y r q : ℕ} {b : Bool} → r ≡ x → q ≡ y → (r ≡ q → ⊥) → b ≡ m → b ≡ (m || eqb x y)
allows_other m {x} {y} e f g h = h ∙ t_eq m (m || eqb x y) (λ t. or_left m (eqb x y) t) (λ t. ⊎_elim (λ u. u) (λ u. absurd (g (e ∙ eqb→eq x y u ∙ sym f))) (either m (eqb x y) t))

-- no state leads where nothing stands
pub led_none : {at r : ℕ} (S : ℕ) → at ≡ 0 → r ≡ 0 → r ≡ cond (eqb at 0) 0 S
led_none {at} S e q = q ∙ sym (ap (λ b. cond b 0 S) (is_true (eqb at 0) (subst (λ n. T (eqb n 0)) (sym e) tt)))

-- what a search tells is no further than its end
pub scanned_low : {pass : ℕ → Bool} {from i r : ℕ} → Scanned pass from i r → r ≤ i
scanned_low (found j l u t) = omega (arith, u)
scanned_low (absent h) = omega arith

pub told_low : {t : List ℕ} {first i b : ℕ} {c : List ℕ} {before r : ℕ} → PlaceTold t first i b c before r → r ≤ i
told_low {t} {first} {i} {b} {c} {before} {r} h = ⊎_elim (λ lt. scanned_low (h.rises lt))
    (λ le. ⊎_elim (λ lt. omega (arith, h.falls lt))
    (λ ge. let e : count_in (counts_at t (i - 1)) b ≡ count_in c b = same le ge in ⊎_elim (λ z. scanned_low (h.goes e z)) (λ z. omega (arith, h.ends e (omega (arith, z)))) (lt_or_le 0 before))
    (lt_or_le (count_in c b) (count_in (counts_at t (i - 1)) b)))
    (lt_or_le (count_in (counts_at t (i - 1)) b) (count_in c b))
  where
    same : {x y : ℕ} → y ≤ x → x ≤ y → x ≡ y
    same p q = omega (arith, p, q)

-- the three ways of a letter's place
module _ {t : List ℕ} {first i r a b : ℕ} {c : List ℕ} {before : ℕ} where
  pub place_own : b ≡ a → r < i → PlaceFor t first i r a b c before (r + 1)
  place_own e lt = record { own = λ q. refl; begins = λ q z. absurd (q e); other = λ q z. absurd (q e); low = omega (arith, lt) }

  pub place_begins : (b ≡ a → ⊥) → i ≡ first → PlaceFor t first i r a b c before 0
  place_begins e z = record { own = λ q. absurd (e q); begins = λ q y. refl; other = λ q y. absurd (y z); low = omega arith }

  pub place_other : {v : ℕ} → (b ≡ a → ⊥) → (i ≡ first → ⊥) → PlaceTold t first i b c before v → PlaceFor t first i r a b c before v
  place_other e z h = record { own = λ q. absurd (e q); begins = λ q y. absurd (z y); other = λ q y. h; low = told_low h }

-- one more place is moved
module _ (places₀ places : List ℕ) (v b : ℕ) (long : b < length places) where
  pub moved_more : {t : List ℕ} {first i r a : ℕ} {c : List ℕ} → ((x : ℕ) → x < b → PlaceFor t first i r a x c (get_or places₀ x 0) (get_or places x 0)) → ((x : ℕ) → b ≤ x → get_or places x 0 ≡ get_or places₀ x 0)
      → PlaceFor t first i r a b c (get_or places b 0) v → (x : ℕ) → x < b + 1 → PlaceFor t first i r a x c (get_or places₀ x 0) (get_or (set places b v) x 0)
  moved_more {t} {first} {i} {r} {a} {c} f g h x lt = ⊎_elim
      (λ l. subst (PlaceFor t first i r a x c (get_or places₀ x 0)) (sym (get_or-set_other places b x v 0 (λ e. omega (arith, l, e)))) (f x l))
      (λ l. let e : b ≡ x = omega (arith, l, lt) in
      subst (λ z. PlaceFor t first i r a z c (get_or places₀ z 0) (get_or (set places b v) z 0)) e
      (subst₂ (PlaceFor t first i r a b c) (g b (omega arith)) (sym (get_or-set_same places b v 0 long)) h))
      (lt_or_le x b)

  pub moved_kept : ((x : ℕ) → b ≤ x → get_or places x 0 ≡ get_or places₀ x 0) → (x : ℕ) → b + 1 ≤ x → get_or (set places b v) x 0 ≡ get_or places₀ x 0
  moved_kept g x le = get_or-set_other places b x v 0 (λ e. omega (arith, le, e)) ∙ g x (omega (arith, le))

-- the places of record i are inside a table that has record i
pub inside_of : {t : List ℕ} {first i r a k : ℕ} {c places places' : List ℕ} (m : ℕ) → k ≤ 16 → 16 ≤ length places → 10 * i ≤ m → Moved t first i r a k c places places' → Inside k m places'
inside_of m h l f d = record { long = omega (arith, h, l, d.long); low = λ b lt. omega (arith, f, (d.each b lt).low) }

-- a record that joins is put; one that does not leaves all as it was
module _ (p : Profile) {first i r a : ℕ} {t t' places places' : List ℕ} where
  pub put_yes : {b : Bool} {j : ℕ} → b ≡ true → j ≡ i + 1 → Put p first i r a t t' places places' → PutIf p b first i r a t t' places places' j
  put_yes {b} {j} e q h = subst (λ z. PutIf p z first i r a t t' places places' j) (sym e) (q, h)

pub put_no : (p : Profile) (first i r a : ℕ) (t places : List ℕ) {b : Bool} → b ≡ false → PutIf p b first i r a t t places places i
put_no p first i r a t places e = subst (λ z. PutIf p z first i r a t t places places i) (sym e) (refl, refl, refl)

pub above_zero : {n : ℕ} → (n ≡ 0 → ⊥) → 0 < n
above_zero {n} h = ⊎_elim (λ lt. lt) (λ le. absurd (h (omega (arith, le)))) (lt_or_le 0 n)
