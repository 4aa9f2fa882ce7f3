-- The letters that can be added: for the counts of a prefix and the places of the log's events, those of which one more gives a prefix again.
use mathlib.Core.Path.{◌≡◌, sym, ◌∙◌, ap, ap₂, subst}
use mathlib.Core.Bool.{Bool, not, ◌||◌}
use mathlib.Core.Logic.{◌≢◌}
use mathlib.Core.List.{List, [], ◌∷◌, ◌++◌, map}
use Prim.Native.Nat.{ℕ, ◌+◌, ◌^◌, ◌≤◌, ◌<◌}
use native.Mathlib.Nat.{zero-add}
use native.Mathlib.Omega.{arith}
use native.Mathlib.Numerals.{add-one}
use lib.Dec.{T, eqb, ltb, lt→ltb}
use lib.ListN.{length, get_or, get_or-append}
use lib.Seq.{ext_get_or}
use Rattle.profile.specs.Limits.{most_letters}
use Rattle.profile.specs.Lists.{all, below, filter}
use Rattle.profile.specs.Prefixes.{IsPrefix, additions, at}
use Rattle.profile.specs.Refusals.{longest}
use Rattle.profile.specs.Tables.{count_field, layout, packed}
use Rattle.profile.specs.Traces.{letters_below}
use Rattle.theory.proofs.Counting.{at_map, length_range}
use Rattle.profile.proofs.Lists.{all_at, all_of, below_at, below_suc, both, filter_agree, filter_last_no, filter_last_yes, fst_of, mem_place, snd_of}
use Rattle.theory.proofs.Packing.{field_packed}
use Rattle.theory.proofs.Prefixes.{count_le}
use Rattle.profile.proofs.Sets.{t_eq}
use Rattle.counts.proofs.Packed.{Small}
use Rattle.places.specs.Places.{next_places, place_start, place_table, places_of}
use Rattle.places.proofs.NextPlaces.{at_next}
use Rattle.places.proofs.Places.{place_found}
use Rattle.events.specs.Events.{comes_next?, lets_by?}
use Rattle.events.proofs.Adding.{comes_next_addable}
use Rattle.letters.specs.Letters.{letters_by, next_by, place_by}

-- ---- for loops in code

-- the next number passes the test, or does not
pub below_yes : (p : ℕ → Bool) (x : ℕ) → T (p x) → filter p (below (x + 1)) ≡ filter p (below x) ++ (x ∷ [])
below_yes p x t = ap (λ k. filter p (below k)) (add-one x) ∙ ap (filter p) (below_suc x) ∙ filter_last_yes p (below x) x t

pub below_no : (p : ℕ → Bool) (x : ℕ) → T (not (p x)) → filter p (below (x + 1)) ≡ filter p (below x)
below_no p x t = ap (λ k. filter p (below k)) (add-one x) ∙ ap (filter p) (below_suc x) ∙ filter_last_no p (below x) x t

-- ---- the test looks at the places of the letters below k only

module _ (may : ℕ → ℕ → Bool) (k n x : ℕ) (lt : x < k) where
  -- places that agree below k give the same answer, one way
  comes_over : (l r : List ℕ) → ((y : ℕ) → y < k → at l y ≡ at r y) → T (comes_next? may k n l x) → T (comes_next? may k n r x)
  comes_over l r h t =
      both (ltb (at r x) n) (all (lets_by? may (at r) x) (below k)) (subst (λ m. T (ltb m n)) (h x lt) (fst_of (ltb (at l x) n) (all (lets_by? may (at l) x) (below k)) t))
      (all_of (lets_by? may (at r) x) (below k) (λ y m. subst T (ap₂ (λ a b. eqb y x || (may y x || ltb a b)) (h x lt) (h y (below_at k y m)))
      (all_at (lets_by? may (at l) x) (snd_of (ltb (at l x) n) (all (lets_by? may (at l) x) (below k)) t) m)))

  comes_next_first : (l r : List ℕ) → length l ≡ k → comes_next? may k n (l ++ r) x ≡ comes_next? may k n l x
  comes_next_first l r e =
      let h : (y : ℕ) → y < k → at (l ++ r) y ≡ at l y = λ y g. get_or-append l r 0 y (omega arith) in
      t_eq (comes_next? may k n (l ++ r) x) (comes_next? may k n l x) (comes_over (l ++ r) l h) (comes_over l (l ++ r) (λ y g. sym (h y g)))

-- more places behind those of the letters below k change nothing
pub letters_first : (may : ℕ → ℕ → Bool) (k n : ℕ) (starts places t r : List ℕ)
    → filter (comes_next? may k n (next_by k starts places t ++ r)) (below k) ≡ letters_by may k n starts places t
letters_first may k n starts places t r =
    let l = next_by k starts places t in
    filter_agree (comes_next? may k n (l ++ r)) (comes_next? may k n l) (below k) (λ x m. comes_next_first may k n x (below_at k x m) l r (length_range _ k 0))

-- the places that the test looks at
pub at_next_by : (k : ℕ) (starts places t : List ℕ) (x : ℕ) → x < k → at (next_by k starts places t) x ≡ place_by starts places t x
at_next_by k starts places t x lt = at_map (place_by starts places t) k 0 x lt ∙ ap (place_by starts places t) (zero-add x)

-- ---- the letters of a prefix

-- counts of a prefix of a log that 7 does not refuse are below 65,536
prefix_small : (may : ℕ → ℕ → Bool) (w v : List ℕ) → length w ≤ longest → IsPrefix may (λ a. a) w (at v) → Small layout v
prefix_small may w v h p = all_of (λ n. ltb n (2 ^ layout.width)) v (λ n m.
    let i = mem_place 0 m in
    let le : n ≤ longest = omega (arith, i.2, p.fits i.0, count_le may (λ a. a) w i.0) in
    lt→ltb n (2 ^ layout.width) (omega arith))

module _ (may : ℕ → ℕ → Bool) (k : ℕ) (w v s p : List ℕ) (short : length w ≤ longest) (few : k ≤ most_letters) (prefix : IsPrefix may (λ a. a) w (at v)) where
  next_placed : next_by k (map (place_start w) (below k) ++ s) (place_table k w ++ p) (packed layout v) ≡ next_places k w (at v)
  next_placed = ext_get_or 0 l (next_places k w (at v)) (len ∙ sym (length_range (λ x. get_or (places_of w x) (at v x) 0) k 0)) (λ x h. go x (omega (arith, len)))
    where
      f : ℕ → ℕ
      f x = get_or (place_table k w ++ p) (get_or (map (place_start w) (below k) ++ s) x 0 + count_field layout (packed layout v) x) 0

      l : List ℕ
      l = map f (below k)

      len : length l ≡ k
      len = length_range f k 0

      go : (x : ℕ) → x < k → at l x ≡ at (next_places k w (at v)) x
      go x h =
          at_map f k 0 x h ∙ ap f (zero-add x)
          ∙ ap (λ m. get_or (place_table k w ++ p) (get_or (map (place_start w) (below k) ++ s) x 0 + m) 0) (field_packed layout v x (prefix_small may w v short prefix) (omega arith))
          ∙ place_found k w s p x (at v x) h (prefix.fits x) ∙ sym (at_next k w (at v) x h)

  -- the letters by the places of the log's events and by the packed counts of a prefix: those of which one more gives a prefix again
  pub letters_placed : ((a b : ℕ) → T (may a b) → a ≢ b) → T (letters_below (λ a. a) k w)
      → letters_by may k (length w) (map (place_start w) (below k) ++ s) (place_table k w ++ p) (packed layout v) ≡ additions may (λ a. a) k w v
  letters_placed distinct letters = ap (λ l. filter (comes_next? may k (length w) l) (below k)) next_placed
      ∙ filter_agree _ _ (below k) (λ x m. comes_next_addable may distinct k w letters (at v) prefix x (below_at k x m))
