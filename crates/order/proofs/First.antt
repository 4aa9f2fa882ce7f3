-- The first order, letter by letter: each time the smallest letter that can come next, which the next places say.
use mathlib.Core.Path.{◌≡◌, refl, sym, ◌∙◌, ap, ap₂, subst, fun_ext}
use mathlib.Core.Bool.{Bool, true}
use mathlib.Core.Logic.{⊎_elim, ◌≢◌}
use mathlib.Core.List.{List, [], ◌∷◌, ◌++◌, map}
use mathlib.Core.Option.{some}
use Prim.Native.Nat.{ℕ, zero, suc, ◌+◌, ◌≤◌, ◌<◌}
use native.Mathlib.Nat.{zero-add}
use native.Mathlib.Omega.{arith}
use lib.Dec.{T, ltb, ltb→lt}
use lib.ListN.{length, get_or, drop, replicate, set, length-append, length-map}
use lib.Seq.{ext_get_or, get_or-set_other, get_or-set_same}
use Rattle.profile.specs.Lists.{below, first_place, range}
use Rattle.profile.specs.Orders.{first_order}
use Rattle.profile.specs.Prefixes.{IsPrefix, addable?, count, more, one, unmarked}
use Rattle.profile.specs.Refusals.{longest}
use Rattle.profile.specs.Traces.{independent}
use Rattle.theory.proofs.Counting.{at_map}
use Rattle.theory.proofs.Earliest.{Greedy, end, first_greedy, greedy_append, greedy_takes, take}
use Rattle.profile.proofs.Lists.{is_true}
use Rattle.theory.proofs.Prefixes.{addable_at, addable_of, all_of_pick, count_append, count_le, more_of_pick, one_cases, one_same, prefix_of_takes}
use Rattle.theory.proofs.Profiles.{distinct}
use Rattle.theory.proofs.Refusals.{GoodLog, Relation}
use Rattle.profile.proofs.Traces.{Pick, Takes, first, takes_length}
use Rattle.places.specs.Places.{next_places, place_start, place_table, places_of}
use Rattle.places.proofs.NextPlaces.{next_places_more}
use Rattle.places.proofs.Places.{place_found}
use Rattle.events.specs.Events.{comes_next?}
use Rattle.events.proofs.Adding.{comes_next_addable}
use Rattle.order.specs.Order.{first_letters, letters_or_none}
use Rattle.theory.proofs.FirstPlaces.{first_least, first_passes}
use Rattle.theory.proofs.Fronts.{front_set}

-- ---- the numbers below k as a list

range_length : (n a : ℕ) → length (range a n) ≡ n
range_length zero a = refl
range_length (suc n) a = ap suc (range_length n (suc a))

getd_range : (n a i : ℕ) → i < n → get_or (range a n) i 0 ≡ a + i
getd_range zero a i h = absurd (omega arith)
getd_range (suc n) a zero h = omega arith
getd_range (suc n) a (suc i) h = omega (arith, getd_range n (suc a) i (omega arith))

pub length_below : (k : ℕ) → length (below k) ≡ k
length_below k = range_length k 0

pub getd_below : (k i : ℕ) → i < k → get_or (below k) i 0 ≡ i
getd_below k i h = omega (arith, getd_range k 0 i h)

-- ---- the smallest letter that can come next

-- events are letters
abbrev pub counts : List ℕ → ℕ → ℕ
counts u = count (λ a. a) u

pub counts_more : (u : List ℕ) (a : ℕ) → counts (u ++ (a ∷ [])) ≡ more (counts u) a
counts_more u a = fun_ext (λ y. omega (arith, count_append (λ x y. true) (λ a. a) u (a ∷ []) y))

-- u is taken from w, each time the smallest letter that may come next, and r is left
abbrev pub Smallest : (ℕ → ℕ → Bool) → List ℕ → List ℕ → List ℕ → Type 0
Smallest may w u r = Greedy may (λ a. a) (λ (s : Unit {0}) x. tt) (λ s. true) (λ s x. true) tt w u tt r

smallest_takes : (may : ℕ → ℕ → Bool) {w u r : List ℕ} → Smallest may w u r → Takes may w u r
smallest_takes may g = greedy_takes may (λ a. a) (λ (s : Unit {0}) x. tt) (λ s. true) (λ s x. true) g

-- the smallest letter that can come next, by the next places
abbrev pub next_letter : (ℕ → ℕ → Bool) → ℕ → ℕ → List ℕ → ℕ
next_letter may k n next = first_place (comes_next? may k n next) (below k)

module _ (k : ℕ) (masks w : List ℕ) (R : Relation k masks) (G : GoodLog k w) where
  abbrev may : ℕ → ℕ → Bool
  may = independent masks

  dist : (a b : ℕ) → T (may a b) → a ≢ b
  dist = distinct masks R.own

  -- what is taken is all of w: it is the first order
  pub smallest_all : (u r : List ℕ) → Smallest may w u r → length u ≡ length w → first_order may w ≡ some u
  smallest_all u [] g e = first_greedy may dist g
  smallest_all u (b ∷ r) g e = absurd (omega (arith, takes_length may (smallest_takes may g)))

  module _ (u r : List ℕ) (g : Smallest may w u r) where
    abbrev comes : ℕ → Bool
    comes = comes_next? may k (length w) (next_places k w (counts u))

    abbrev letter : ℕ
    letter = next_letter may k (length w) (next_places k w (counts u))

    prefix : IsPrefix may (λ a. a) w (counts u) × (unmarked (λ a. a) w (counts u) ≡ r)
    prefix = let n = prefix_of_takes may (λ a. a) dist (smallest_takes may g) in (n.0, n.1)

    comes_addable : (x : ℕ) → x < k → comes x ≡ addable? may (λ a. a) w (counts u) x
    comes_addable x h = comes_next_addable may dist k w G.letters (counts u) prefix.0 x h

    -- what may be picked is a letter below k, and no smaller
    no_smaller : (b : ℕ) (y : List ℕ) → Pick may r b y → (b < k) × (letter ≤ b)
    no_smaller b y q =
        let p = subst (λ l. Pick may l b y) (sym prefix.1) q in
        let b< : b < k = ltb→lt b k (all_of_pick may (λ a. a) dist (λ a. ltb a k) {w = w} {c = counts u} prefix.0 p G.letters) in
        let t = addable_of may (λ a. a) dist {w = w} (counts u) b (more_of_pick may (λ a. a) dist {w = w} {c = counts u} prefix.0 p).0 in (
          b<,
          first_least comes (below k) b (omega (arith, length_below k))
              (ap comes (getd_below k b b<) ∙ comes_addable b b< ∙ is_true (addable? may (λ a. a) w (counts u) b) t),
        )

    module _ (h : length u < length w) where
      -- some event is left, so that a letter can come next
      pub letter_below : letter < k
      letter_below = go r no_smaller (omega (arith, takes_length may (smallest_takes may g)))
        where
          go : (r : List ℕ) → ((b : ℕ) (y : List ℕ) → Pick may r b y → (b < k) × (letter ≤ b)) → 0 < length r → letter < k
          go [] f l = absurd (omega arith)
          go (b ∷ y) f l = let n = f b y first in omega arith

      added : IsPrefix may (λ a. a) w (more (counts u) letter) × (a : ℕ) × (a ≡ letter) × Pick may (unmarked (λ a. a) w (counts u)) a (unmarked (λ a. a) w (more (counts u) letter))
      added =
          let e : comes letter ≡ true = ap comes (sym (getd_below k letter letter_below)) ∙ first_passes comes (below k) (omega (arith, length_below k, letter_below)) in
          addable_at may (λ a. a) dist {w = w} {c = counts u} {x = letter} prefix.0 (rw (sym (comes_addable letter letter_below) ∙ e) tt)

      pub letter_fits : suc (counts u letter) ≤ counts w letter
      letter_fits = omega (arith, added.0.fits letter, one_same letter)

      pub letter_taken : Smallest may w (u ++ (letter ∷ [])) (unmarked (λ a. a) w (more (counts u) letter))
      letter_taken =
          let n = added in
          let p = subst (λ a. Pick may (unmarked (λ a. a) w (counts u)) a (unmarked (λ a. a) w (more (counts u) letter))) n.2 n.3 in
          let q = subst (λ l. Pick may l letter (unmarked (λ a. a) w (more (counts u) letter))) prefix.1 p in
          greedy_append may (λ a. a) (λ (s : Unit {0}) x. tt) (λ s. true) (λ s x. true) g (take q tt (λ b y k l. (no_smaller b y k).1) end)

-- ---- the letters taken so far

-- after t letters: `next` has the next places, `used` the counts of what is taken, and `out` is what is taken and then the buffer as before
pub record Chosen (k : ℕ) (masks w before next used out : List ℕ) (t : ℕ) : Type 0 where
  pub taken : List ℕ
  pub rest : List ℕ
  pub many : length taken ≡ t
  pub smallest : Smallest (independent masks) w taken rest
  pub coming : next ≡ next_places k w (counts taken)
  pub spent : (x : ℕ) → x < k → get_or used x 0 ≡ counts taken x
  pub written : out ≡ taken ++ drop t before

-- the place of the first event of each letter, by the tables
pub first_coming : (k : ℕ) (w starts places : List ℕ) → (s : List ℕ) × (starts ≡ map (place_start w) (below k) ++ s) → (p : List ℕ) × (places ≡ place_table k w ++ p)
    → map (λ x. get_or places (get_or starts x 0 + 0) 0) (below k) ≡ next_places k w (λ x. 0)
first_coming k w starts places s p = ext_get_or 0 (map f (below k)) (next_places k w (λ x. 0)) (length-map (below k) f ∙ sym (length-map (below k) g)) (λ i h.
    let lt : i < k = omega (arith, length-map (below k) f, length_below k) in
    at_map f k 0 i lt ∙ ap f (zero-add i) ∙ ap₂ (λ x y. get_or y (get_or x i 0 + 0) 0) s.1 p.1 ∙ place_found k w s.0 p.0 i 0 lt (omega arith)
    ∙ sym (at_map g k 0 i lt ∙ ap g (zero-add i)))
  where
    f : ℕ → ℕ
    f x = get_or places (get_or starts x 0 + 0) 0

    g : ℕ → ℕ
    g x = get_or (places_of w x) 0 0

-- an array of zeros
pub getd_zeros : (n x : ℕ) → ◌≡◌ {A = ℕ} (get_or (replicate n 0) x 0) 0
getd_zeros zero x = refl
getd_zeros (suc n) zero = refl
getd_zeros (suc n) (suc x) = getd_zeros n x

-- nothing is taken
pub chosen_none : (k : ℕ) (masks w before next used : List ℕ) → next ≡ next_places k w (λ x. 0) → ((x : ℕ) → get_or used x 0 ≡ 0) → Chosen k masks w before next used before 0
chosen_none k masks w before next used e f = record {
  taken = [];
  rest = w;
  many = refl;
  smallest = end;
  coming = e;
  spent = λ x h. f x;
  written = refl;
}

module _ (k : ℕ) (masks w : List ℕ) (R : Relation k masks) (G : GoodLog k w) (before next used out : List ℕ) (t : ℕ) (C : Chosen k masks w before next used out t) where
  -- a next place for each letter
  pub chosen_length : length next ≡ k
  chosen_length = ap length C.coming ∙ length-map (below k) (λ x. get_or (places_of w x) (counts C.taken x) 0) ∙ length_below k

  -- all is taken
  pub chosen_all : t ≡ length w → out ≡ first_letters masks w ++ drop (length w) before
  chosen_all e =
      let f = smallest_all k masks w R G C.taken C.rest C.smallest (C.many ∙ e) in
      C.written ∙ ap₂ (λ u n. u ++ drop n before) (ap letters_or_none (sym f)) e

  module _ (h : t < length w) (a : ℕ) (e : a ≡ next_letter (independent masks) k (length w) next) where
    u< : length C.taken < length w
    u< = omega (arith, C.many)

    same : a ≡ next_letter (independent masks) k (length w) (next_places k w (counts C.taken))
    same = e ∙ ap (next_letter (independent masks) k (length w)) C.coming

    -- the next letter is below k, and its count can be one more
    pub chosen_below : a < k
    chosen_below = omega (arith, same, letter_below k masks w R G C.taken C.rest C.smallest u<)

    fits : suc (counts C.taken a) ≤ counts w a
    fits = rw same (letter_fits k masks w R G C.taken C.rest C.smallest u<)

    pub chosen_fits : get_or used a 0 + 1 ≤ longest
    chosen_fits = omega (arith, fits, C.spent a chosen_below, count_le (independent masks) (λ a. a) w a, G.short)

    -- one letter more
    pub chosen_more : (starts places : List ℕ) → (s : List ℕ) × (starts ≡ map (place_start w) (below k) ++ s) → (p : List ℕ) × (places ≡ place_table k w ++ p)
        → (v : ℕ) → v ≡ get_or places (get_or starts a 0 + (get_or used a 0 + 1)) 0 → length w ≤ length before → k ≤ length used
        → Chosen k masks w before (set next a v) (set used a (get_or used a 0 + 1)) (set out t a) (t + 1)
    chosen_more starts places s p v q room long =
        let a< = chosen_below in
        let m : get_or used a 0 + 1 ≡ suc (counts C.taken a) = omega (arith, C.spent a a<) in
        record {
          taken = C.taken ++ (a ∷ []);
          rest = unmarked (λ a. a) w (more (counts C.taken) a);
          many = omega (arith, length-append C.taken (a ∷ []), C.many);
          smallest = rw same (letter_taken k masks w R G C.taken C.rest C.smallest u<);
          coming =
              let place : v ≡ get_or (places_of w a) (suc (counts C.taken a)) 0 =
              q ∙ ap₂ (λ x y. get_or y (get_or x a 0 + (get_or used a 0 + 1)) 0) s.1 p.1 ∙ ap (λ n. get_or (place_table k w ++ p.0) (get_or (map (place_start w) (below k) ++ s.0) a 0 + n) 0) m
              ∙ place_found k w s.0 p.0 a (suc (counts C.taken a)) a< fits in
              ap₂ (λ l x. set l a x) C.coming place ∙ sym (ap (next_places k w) (counts_more C.taken a) ∙ next_places_more k w (counts C.taken) a a<);
          spent = λ x x<. let n = ap (λ f. f x) (counts_more C.taken a) in ⊎_elim
              (λ d.
              let g : get_or (set used a (get_or used a 0 + 1)) x 0 ≡ get_or used a 0 + 1 =
              ap (λ y. get_or (set used a (get_or used a 0 + 1)) y 0) (sym d) ∙ get_or-set_same used a (get_or used a 0 + 1) 0 (omega arith) in
              omega (arith, g, n, m, ap (one a) d, one_same a, ap (counts C.taken) d))
              (λ z. get_or-set_other used a x (get_or used a 0 + 1) 0 (λ d. omega (arith, ap (one a) d, one_same a)) ∙ omega (arith, C.spent x x<, n)) (one_cases a x);
          written = ap (λ l. set l t a) C.written ∙ front_set C.taken before a t C.many (omega arith);
        }
