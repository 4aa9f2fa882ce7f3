-- What is kept of a log, place by place, and pairs of letters in either order.
use mathlib.Core.Path.{◌≡◌, refl, sym, ◌∙◌, ap, ap₂, subst}
use mathlib.Core.Bool.{Bool, true, false, ◌&&◌, ◌||◌, and_comm, or_comm}
use mathlib.Core.Logic.{⊎_elim}
use mathlib.Core.List.{List, [], ◌∷◌}
use Prim.Native.Nat.{ℕ, zero, suc, ◌+◌, ◌-◌, ◌≤◌, ◌<◌}
use native.Mathlib.Omega.{arith}
use lib.Dec.{T, eqb, leb}
use borrow.Author.Tests.{eq-eqb, le-leb, lt-leb, ne_eqb}
use lib.ListN.{length, get_or, drop, length-drop, drop_of_length-le}
use lib.Seq.{drop-cons, drop-drop, get_or-drop}
use Rattle.profile.specs.Lists.{all, below, equal?, filter, first_place, range}
use Rattle.profile.specs.Orders.{project, same?}
use Rattle.profile.specs.Traces.{independent}
use Rattle.comparison.specs.Comparison.{pair_agrees?}
use Rattle.theory.proofs.FirstPlaces.{first_no, first_passes, first_yes}
use Rattle.profile.proofs.Lists.{all_at, all_of, below_at, below_of, both, filter_agree, filter_no, filter_yes, fst_of, lt_or_le, snd_of}
use Rattle.profile.proofs.Sets.{t_eq}

module _ (p : ℕ → Bool) where
  -- ---- what is kept from a place on

  filter_place : (l : List ℕ) → filter p l ≡ filter p (drop (first_place p l) l)
  filter_place [] = refl
  filter_place (a ∷ l) = go (p a) refl (filter_place l)
    where
      go : (b : Bool) → p a ≡ b → filter p l ≡ filter p (drop (first_place p l) l) → filter p (a ∷ l) ≡ filter p (drop (first_place p (a ∷ l)) (a ∷ l))
      go true e h = ap (λ n. filter p (drop n (a ∷ l))) (sym (first_yes p a l e))
      go false e h = filter_no p a l (rw e tt) ∙ h ∙ ap (λ n. filter p (drop n (a ∷ l))) (sym (first_no p a l e))

  -- i is the first place from `from` on that passes
  module _ (w : List ℕ) (from i : ℕ) (e : i ≡ from + first_place p (drop from w)) where
    kept_from : filter p (drop from w) ≡ filter p (drop i w)
    kept_from = filter_place (drop from w) ∙ ap (filter p) (drop-drop (first_place p (drop from w)) from w ∙ ap (λ n. drop n w) (sym e))

    kept_at : i < length w → p (get_or w i 0) ≡ true
    kept_at h =
        ap (λ n. p (get_or w n 0)) e ∙ sym (ap p (get_or-drop from w (first_place p (drop from w)) 0))
        ∙ first_passes p (drop from w) (omega (arith, length-drop from w))

  kept_cons : (w : List ℕ) (i : ℕ) → i < length w → p (get_or w i 0) ≡ true → filter p (drop i w) ≡ get_or w i 0 ∷ filter p (drop (i + 1) w)
  kept_cons w i h e =
      let n : suc i ≡ i + 1 = omega arith in
      ap (filter p) (drop-cons w i 0 h) ∙ filter_yes p (get_or w i 0) (drop (suc i) w) (rw e tt) ∙ ap (λ j. get_or w i 0 ∷ filter p (drop j w)) n

  kept_end : (w : List ℕ) (i : ℕ) → length w ≤ i → filter p (drop i w) ≡ []
  kept_end w i h = ap (filter p) (drop_of_length-le w h)

  -- ---- two logs, compared place by place

  -- what is left of the two logs from places i and j on, which pass, decides whether what is kept of them is equal
  pub record Compares (v w : List ℕ) (i j : ℕ) : Type 0 where
    pub same : equal? (filter p v) (filter p w) ≡ equal? (filter p (drop i v)) (filter p (drop j w))
    pub first : i < length v → p (get_or v i 0) ≡ true
    pub second : j < length w → p (get_or w j 0) ≡ true

  module _ (v w : List ℕ) where
    pub compares_start : (i j : ℕ) → i ≡ 0 + first_place p v → j ≡ 0 + first_place p w → Compares v w i j
    compares_start i j d e = record {
      same = ap₂ equal? (kept_from v 0 i d) (kept_from w 0 j e);
      first = kept_at v 0 i d;
      second = kept_at w 0 j e;
    }

    module _ (i j : ℕ) (c : Compares v w i j) (i< : i < length v) where
      both_kept : j < length w
          → equal? (filter p v) (filter p w) ≡ (eqb (get_or v i 0) (get_or w j 0) && equal? (filter p (drop (i + 1) v)) (filter p (drop (j + 1) w)))
      both_kept j< = c.same ∙ ap₂ equal? (kept_cons v i i< (c.first i<)) (kept_cons w j j< (c.second j<))

      pub compares_step : (i' j' : ℕ) → j < length w → get_or v i 0 ≡ get_or w j 0
          → i' ≡ (i + 1) + first_place p (drop (i + 1) v) → j' ≡ (j + 1) + first_place p (drop (j + 1) w) → Compares v w i' j'
      compares_step i' j' j< q d e = record {
        same =
            both_kept j< ∙ ap (λ b. b && equal? (filter p (drop (i + 1) v)) (filter p (drop (j + 1) w))) (eq-eqb (get_or v i 0) (get_or w j 0) q)
            ∙ ap₂ equal? (kept_from v (i + 1) i' d) (kept_from w (j + 1) j' e);
        first = kept_at v (i + 1) i' d;
        second = kept_at w (j + 1) j' e;
      }

      pub compares_other : j < length w → (get_or v i 0 ≡ get_or w j 0 → ⊥) → equal? (filter p v) (filter p w) ≡ false
      compares_other j< n =
          both_kept j< ∙ ap (λ b. b && equal? (filter p (drop (i + 1) v)) (filter p (drop (j + 1) w))) (ne_eqb (get_or v i 0) (get_or w j 0) n)

      pub compares_short : length w ≤ j → equal? (filter p v) (filter p w) ≡ false
      compares_short h = c.same ∙ ap₂ equal? (kept_cons v i i< (c.first i<)) (kept_end w j h)

    pub compares_end : (i j : ℕ) → Compares v w i j → length v ≤ i → equal? (filter p v) (filter p w) ≡ leb (length w) j
    compares_end i j c h = ⊎_elim
        (λ j<. c.same ∙ ap₂ equal? (kept_end v i h) (kept_cons w j j< (c.second j<)) ∙ sym (lt-leb (length w) j j<))
        (λ le. c.same ∙ ap₂ equal? (kept_end v i h) (kept_end w j le) ∙ sym (le-leb (length w) j le)) (lt_or_le j (length w))

-- ---- the letters x and y

-- the event is kept in the projection to x and y
abbrev pub kept? : ℕ → ℕ → ℕ → Bool
kept? x y a = eqb a x || eqb a y

pub kept_first : (x y a : ℕ) → a ≡ x → kept? x y a ≡ true
kept_first x y a e = ap (λ b. b || eqb a y) (eq-eqb a x e)

pub kept_second : (x y a : ℕ) → a ≡ y → kept? x y a ≡ true
kept_second x y a e = or_comm (eqb a x) (eqb a y) ∙ ap (λ b. b || eqb a x) (eq-eqb a y e)

pub kept_not : (x y a : ℕ) → (a ≡ x → ⊥) → (a ≡ y → ⊥) → kept? x y a ≡ false
kept_not x y a d e = ap₂ (λ b c. b || c) (ne_eqb a x d) (ne_eqb a y e)

-- ---- a test of all numbers from a on, below k

module _ (p : ℕ → Bool) (k a : ℕ) where
  range_step : a < k → all p (range a (k - a)) ≡ (p a && all p (range (a + 1) (k - (a + 1))))
  range_step h =
      let e : k - a ≡ suc (k - (a + 1)) = omega arith in
      let n : suc a ≡ a + 1 = omega arith in
      ap (λ m. all p (range a m)) e ∙ ap (λ m. p a && all p (range m (k - (a + 1)))) n

  pub range_yes : a < k → p a ≡ true → all p (range a (k - a)) ≡ all p (range (a + 1) (k - (a + 1)))
  range_yes h e = range_step h ∙ ap (λ b. b && all p (range (a + 1) (k - (a + 1)))) e

  pub range_no : a < k → p a ≡ false → all p (range a (k - a)) ≡ false
  range_no h e = range_step h ∙ ap (λ b. b && all p (range (a + 1) (k - (a + 1)))) e

  pub range_end : k ≤ a → all p (range a (k - a)) ≡ true
  range_end h = let e : k - a ≡ 0 = omega arith in ap (λ m. all p (range a m)) e

all_range_at : (p : ℕ → Bool) (n a : ℕ) → T (all p (range a n)) → (y : ℕ) → a ≤ y → y < a + n → T (p y)
all_range_at p zero a t y h k = absurd (omega arith)
all_range_at p (suc n) a t y h k = ⊎_elim
    (λ l. all_range_at p n (suc a) (snd_of (p a) (all p (range (suc a) n)) t) y l (omega arith))
    (λ l. let e : a ≡ y = omega arith in subst (λ x. T (p x)) e (fst_of (p a) (all p (range (suc a) n)) t)) (lt_or_le a y)

all_range_of : (p : ℕ → Bool) (n a : ℕ) → ((y : ℕ) → a ≤ y → y < a + n → T (p y)) → T (all p (range a n))
all_range_of p zero a f = tt
all_range_of p (suc n) a f =
    both (p a) (all p (range (suc a) n)) (f a (omega arith) (omega arith)) (all_range_of p n (suc a) (λ y h k. f y (omega arith) (omega arith)))

-- a test of pairs that holds of x, y as of y, x: one order of each pair is enough
half_pairs : (p : ℕ → ℕ → Bool) → ((x y : ℕ) → p x y ≡ p y x) → (k : ℕ)
    → all (λ x. all (p x) (range x (k - x))) (below k) ≡ all (λ x. all (p x) (below k)) (below k)
half_pairs p turned k = t_eq (all half (below k)) (all whole (below k))
    (λ t. all_of whole (below k) (λ x m. all_of (p x) (below k) (λ y n. pair t x y (below_at k x m) (below_at k y n))))
    (λ t. all_of half (below k) (λ x m. all_range_of (p x) (k - x) x (λ y h l. all_at (p x) (all_at whole t m) (below_of k y (omega (arith, below_at k x m))))))
  where
    half : ℕ → Bool
    half x = all (p x) (range x (k - x))

    whole : ℕ → Bool
    whole x = all (p x) (below k)

    later : T (all half (below k)) → (x y : ℕ) → x < k → x ≤ y → y < k → T (p x y)
    later t x y h l j = all_range_at (p x) (k - x) x (all_at half t (below_of k x h)) y l (omega arith)

    pair : T (all half (below k)) → (x y : ℕ) → x < k → y < k → T (p x y)
    pair t x y h j = ⊎_elim (λ l. later t x y h (omega arith) j) (λ l. rw (turned x y) (later t y x j l h)) (lt_or_le x y)

-- ---- the test of all pairs

-- the pairs of x and the letters from x on agree
abbrev pub from_letter : ℕ → List ℕ → List ℕ → List ℕ → ℕ → Bool
from_letter k masks v w x = all (pair_agrees? masks v w x) (range x (k - x))

project_turned : (x y : ℕ) (w : List ℕ) → project x y w ≡ project y x w
project_turned x y w = filter_agree (kept? x y) (kept? y x) w (λ a m. or_comm (eqb a x) (eqb a y))

-- the pairs x, y and y, x agree alike
pair_turned : (masks v w : List ℕ) (x y : ℕ) → pair_agrees? masks v w x y ≡ pair_agrees? masks v w y x
pair_turned masks v w x y =
    ap₂ (λ b c. b || c) (and_comm (independent masks x y) (independent masks y x)) (ap₂ equal? (project_turned x y v) (project_turned x y w))

pub same_half : (k : ℕ) (masks v w : List ℕ) → same? (independent masks) k v w ≡ all (from_letter k masks v w) (below k)
same_half k masks v w = sym (half_pairs (pair_agrees? masks v w) (pair_turned masks v w) k)
