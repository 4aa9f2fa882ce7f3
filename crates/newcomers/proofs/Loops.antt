-- What the loops over letters and records tell.
use mathlib.Core.Path.{◌≡◌, refl, sym, ◌∙◌, ap, subst}
use mathlib.Core.Bool.{Bool, true, false, not, cond}
use mathlib.Core.Logic.{⊎_elim}
use mathlib.Core.List.{List, [], ◌∷◌}
use Prim.Native.Nat.{ℕ, ◌+◌, ◌-◌, ◌<◌, ◌≤◌}
use native.Mathlib.Omega.{arith}
use native.Mathlib.Numerals.{add-one}
use mir.Val.{bool_byte}
use lib.Dec.{T, eqb, eqb→eq, not_T}
use lib.ListN.{length, length-append}
use Rattle.profile.specs.Lists.{all, below, filter}
use Rattle.profile.proofs.Lists.{all_at, all_of, below_at, below_of, below_suc, filter_last_no, filter_last_yes, is_false, is_true, lt_or_le}
use Rattle.profile.proofs.Sets.{t_eq, union_last}
use Rattle.profile.specs.Automata.{union}
use lib.Bits.{bit_or}
use Rattle.records.specs.Records.{counts_at}
use Rattle.newcomers.specs.Newcomers.{PlaceTold, Scanned, count_in, found, gives?}

module _ (p : ℕ → Bool) (k : ℕ) where
  -- all pass, or one does not
  pub all_yes : ((x : ℕ) → x < k → p x ≡ true) → true ≡ all p (below k)
  all_yes h = sym (is_true (all p (below k)) (all_of p (below k) (λ x m. subst T (sym (h x (below_at k x m))) tt)))

  pub all_no : (x : ℕ) → x < k → p x ≡ false → false ≡ all p (below k)
  all_no x lt e = t_eq false (all p (below k)) (λ t. absurd t) (λ t. absurd (subst T e (all_at p t (below_of k x lt))))

-- a test as a number
pub byte_cond : (b : Bool) → bool_byte b ≡ cond b 1 0
byte_cond true = refl
byte_cond false = refl

pub cond_most : (b : Bool) → cond b 1 0 ≤ 1
cond_most true = omega arith
cond_most false = omega arith

-- one more record is looked at
pub joining_more : (p : ℕ → Bool) (j : ℕ) (b : Bool) → p j ≡ b → length (filter p (below j)) + cond b 1 0 ≡ length (filter p (below (j + 1)))
joining_more p j true e = omega (
  arith,
  ap (λ n. length (filter p (below n))) (add-one j),
  ap (λ l. length (filter p l)) (below_suc j),
  ap length (filter_last_yes p (below j) j (subst T (sym e) tt)),
  length-append (filter p (below j)) (j ∷ []),
)
joining_more p j false e = omega (
  arith,
  ap (λ n. length (filter p (below n))) (add-one j),
  ap (λ l. length (filter p l)) (below_suc j),
  ap length (filter_last_no p (below j) j (subst (λ z. T (not z)) (sym e) tt)),
)

-- a place that is found, as the code tells it
pub found_at : {pass : ℕ → Bool} {from i : ℕ} (j : ℕ) → from ≤ j → j < i → pass j ≡ true → Scanned pass from i (j + 1)
found_at {pass} {from} {i} j l u e = subst (Scanned pass from i) (sym (add-one j)) (found j l u (subst T (sym e) tt))

-- nothing passes where the test is false
pub not_passed : (pass : ℕ → Bool) (j : ℕ) → pass j ≡ false → T (pass j) → ⊥
not_passed pass j e t = subst T e t

-- a search that goes back, or on, by one
pub back_more : (pass : ℕ → Bool) {i : ℕ} (j : ℕ) → pass (j - 1) ≡ false → ((x : ℕ) → j ≤ x → x < i → T (pass x) → ⊥) → (x : ℕ) → j - 1 ≤ x → x < i → T (pass x) → ⊥
back_more pass j e h x l u t = ⊎_elim (λ lt. let q : x ≡ j - 1 = omega (arith, l, lt) in not_passed pass (j - 1) e (subst (λ z. T (pass z)) q t)) (λ le. h x le u t) (lt_or_le x j)

pub on_more : (pass : ℕ → Bool) {from : ℕ} (j : ℕ) → pass j ≡ false → ((x : ℕ) → from ≤ x → x < j → T (pass x) → ⊥) → (x : ℕ) → from ≤ x → x < j + 1 → T (pass x) → ⊥
on_more pass j e h x l u t = ⊎_elim (λ lt. h x l lt t) (λ le. let q : x ≡ j = omega (arith, u, le) in not_passed pass j e (subst (λ z. T (pass z)) q t)) (lt_or_le x j)

-- the states that a place gives
pub led_some : {at r : ℕ} (S : ℕ) → (at ≡ 0 → ⊥) → r ≡ S → r ≡ cond (eqb at 0) 0 S
led_some {at} S e q = q ∙ sym (ap (λ b. cond b 0 S) (is_false (eqb at 0) (not_T (eqb at 0) (λ t. e (eqb→eq at 0 t)))))

-- one more letter is united
pub union_more : (f : ℕ → ℕ) (b : ℕ) {r : ℕ} → r ≡ f b → bit_or (union f (below b)) r ≡ union f (below (b + 1))
union_more f b e = ap (bit_or (union f (below b))) e ∙ sym (ap (λ n. union f (below n)) (add-one b) ∙ ap (union f) (below_suc b) ∙ union_last f (below b) b)

-- the four ways of a place
module _ {t : List ℕ} {first i b : ℕ} {c : List ℕ} {before own last : ℕ} (o : own ≡ count_in c b) (l : last ≡ count_in (counts_at t (i - 1)) b) where
  pub told_rises : {r : ℕ} → last < own → Scanned (gives? t b c) first i r → PlaceTold t first i b c before r
  told_rises h s = record { rises = λ q. s; falls = λ q. absurd (omega (arith, q, h, o, l)); ends = λ q z. absurd (omega (arith, q, h, o, l)); goes = λ q z. absurd (omega (arith, q, h, o, l)) }

  pub told_falls : own < last → PlaceTold t first i b c before 0
  told_falls h = record { rises = λ q. absurd (omega (arith, q, h, o, l)); falls = λ q. refl; ends = λ q z. absurd (omega (arith, q, h, o, l)); goes = λ q z. absurd (omega (arith, q, h, o, l)) }

  pub told_ends : own ≤ last → last ≤ own → before ≡ 0 → PlaceTold t first i b c before 0
  told_ends h g z = record { rises = λ q. absurd (omega (arith, q, h, o, l)); falls = λ q. refl; ends = λ q y. refl; goes = λ q y. absurd (omega (arith, y, z)) }

  pub told_goes : {r : ℕ} → own ≤ last → last ≤ own → (before ≡ 0 → ⊥) → Scanned (gives? t b c) before i r → PlaceTold t first i b c before r
  told_goes h g z s = record { rises = λ q. absurd (omega (arith, q, h, o, l)); falls = λ q. absurd (omega (arith, q, g, o, l)); ends = λ q y. absurd (z y); goes = λ q y. s }
