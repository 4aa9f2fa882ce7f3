-- P never exceeds the ceiling: of the events of one group the marked ones come first, so their number says which they are, and a prefix is known by one
-- number for each group. For any relation on events that exchanges no two letters of one group, so with terms or without.
use mathlib.Core.Path.{◌≡◌, refl, sym, ◌∙◌, ap, ap₂, subst}
use mathlib.Core.Bool.{Bool, not}
use mathlib.Core.Logic.{⊎_elim, ◌≢◌}
use mathlib.Core.List.Memᴰ
use mathlib.Core.List.{List, [], ◌∷◌, ◌++◌, map, head-eq_of_cons-eq, tail-eq_of_cons-eq}
use Prim.Native.Nat.{ℕ, zero, suc, ◌+◌, ◌*◌, ◌≤◌, ◌<◌}
use native.Mathlib.Nat.{suc-mul, zero-mul}
use native.Mathlib.Omega.{arith}
use lib.Dec.{T, T_not}
use lib.ListN.{length, take, length-append, length-map}
use lib.Seq.{take-append_seam, ext_get_or}
use Rattle.profile.specs.Lists.{Mem, below, filter, flat_map, range}
use Rattle.profile.specs.Prefixes.{at, count, marked, one, prefix_count, prefixes, vectors}
use Rattle.profile.specs.Traces.{bit, letters_below}
use Rattle.profile.proofs.Lists.{all_at, filter_no, filter_none, filter_yes, map_nodup_on, nodup_length, test}
use Rattle.theory.proofs.Prefixes.{Front, count_marked, empty, front_of_prefix, keep, mark, one_other}
use Rattle.theory.proofs.Counting.{prefixes_at, prefixes_nodup, vectors_of}
use Rattle.ceilings.specs.Ceilings.{ceiling_of, events_in}

-- ---- the events of one group

count_filter : (letter : ℕ → ℕ) (g : ℕ → Bool) (x : ℕ) → T (g x) → (m : List ℕ) → count letter (filter (λ a. g (letter a)) m) x ≡ count letter m x
count_filter letter g x h [] = refl
count_filter letter g x h (a ∷ m) = ⊎_elim
    (λ t. ap (λ l. count letter l x) (filter_yes (λ a. g (letter a)) a m t) ∙ ap (λ n. one (letter a) x + n) (count_filter letter g x h m))
    (λ t.
    let z : letter a ≢ x = λ e. T_not (g x) (subst (λ y. T (not (g y))) e t) h in
    ap (λ l. count letter l x) (filter_no (λ a. g (letter a)) a m t) ∙ omega (arith, one_other (letter a) x z, count_filter letter g x h m))
    (test (g (letter a)))

module _ (may : ℕ → ℕ → Bool) (p : ℕ → Bool) where
  -- the marked ones are no more than all
  filter_le : {w m r : List ℕ} → Front may w m r → length (filter p m) ≤ length (filter p w)
  filter_le empty = omega arith
  filter_le (mark {a = a} {w = w} {m = m} f) = ⊎_elim
      (λ t. rw (filter_yes p a w t, filter_yes p a m t) (omega (arith, filter_le f)))
      (λ t. rw (filter_no p a w t, filter_no p a m t) (filter_le f)) (test (p a))
  filter_le (keep {a = a} {w = w} h f) = ⊎_elim
      (λ t. rw (filter_yes p a w t) (omega (arith, filter_le f))) (λ t. rw (filter_no p a w t) (filter_le f)) (test (p a))

  module _ (apart : (a b : ℕ) → T (p a) → T (p b) → T (may a b) → ⊥) where
    -- where the events keep their order, the marked ones come first
    filter_front : {w m r : List ℕ} → Front may w m r → filter p w ≡ filter p m ++ filter p r
    filter_front empty = refl
    filter_front (mark {a = a} {w = w} {m = m} {r = r} f) = ⊎_elim
        (λ t. rw (filter_yes p a w t, filter_yes p a m t) (ap (◌∷◌ a) (filter_front f)))
        (λ t. rw (filter_no p a w t, filter_no p a m t) (filter_front f)) (test (p a))
    filter_front (keep {a = a} {w = w} {m = m} {r = r} h f) = ⊎_elim
        (λ t.
        let e = filter_none p m (λ b k u. apart a b t u (all_at (may a) h k)) in
        rw (filter_yes p a w t, filter_yes p a r t, e) (ap (◌∷◌ a) (filter_front f ∙ ap (λ l. l ++ filter p r) e)))
        (λ t. rw (filter_no p a w t, filter_no p a r t) (filter_front f)) (test (p a))

    -- so their number says which they are
    filter_same : {w m r m' r' : List ℕ} → Front may w m r → Front may w m' r' → length (filter p m) ≡ length (filter p m') → filter p m ≡ filter p m'
    filter_same {m = m} {r = r} {m' = m'} {r' = r'} f g e =
        sym (take-append_seam (filter p m) (filter p r))
        ∙ ap₂ (λ n l. take n l) e (sym (filter_front f) ∙ filter_front g)
        ∙ take-append_seam (filter p m') (filter p r')

-- ---- lists of numbers, each at most one of a list

length_flat : (f : ℕ → List (List ℕ)) (n : ℕ) (l : List ℕ) → ((i : ℕ) → length (f i) ≡ n) → length (flat_map f l) ≡ length l * n
length_flat f n [] h = sym (zero-mul n)
length_flat f n (i ∷ l) h = length-append (f i) (flat_map f l) ∙ omega (arith, h i, length_flat f n l h, suc-mul (length l) n)

length_from : (n a : ℕ) → length (range a n) ≡ n
length_from zero a = refl
length_from (suc n) a = ap suc (length_from n (suc a))

-- their number is the product of one plus each
length_vectors : (letter : ℕ → ℕ) (w groups : List ℕ) → length (vectors (map (λ g. events_in letter g w) groups)) ≡ ceiling_of letter groups w
length_vectors letter w [] = refl
length_vectors letter w (g ∷ groups) =
    let ns = map (λ g. events_in letter g w) groups in
    length_flat (λ i. map (◌∷◌ i) (vectors ns)) (ceiling_of letter groups w) (below (suc (events_in letter g w)))
    (λ i. length-map (vectors ns) (◌∷◌ i) ∙ length_vectors letter w groups)
    ∙ ap (λ k. k * ceiling_of letter groups w) (length_from (suc (events_in letter g w)) 0)

map_at : (f f' : ℕ → ℕ) {g : ℕ} {l : List ℕ} → Mem g l → map f l ≡ map f' l → f g ≡ f' g
map_at f f' (Memᴰ.head e) q = ap f e ∙ head-eq_of_cons-eq q ∙ sym (ap f' e)
map_at f f' (Memᴰ.tail m) q = map_at f f' m (tail-eq_of_cons-eq q)

at_map_le : (f f' : ℕ → ℕ) (l : List ℕ) → ((g : ℕ) → f g ≤ f' g) → (x : ℕ) → at (map f l) x ≤ at (map f' l) x
at_map_le f f' [] h x = omega arith
at_map_le f f' (g ∷ l) h zero = h g
at_map_le f f' (g ∷ l) h (suc x) = at_map_le f f' l h x

-- ---- the bound

module _ (may : ℕ → ℕ → Bool) (letter : ℕ → ℕ) (k : ℕ) (groups : List ℕ) (together : (x : ℕ) → x < k → (g : ℕ) × Mem g groups × T (bit g x))
    (apart : (g : ℕ) → Mem g groups → (a b : ℕ) → T (bit g (letter a)) → T (bit g (letter b)) → T (may a b) → ⊥)
    (w : List ℕ) (letters : T (letters_below letter k w)) where
  sizes : List ℕ → List ℕ
  sizes u = map (λ g. events_in letter g u) groups

  -- two prefixes with the same sizes are equal
  same_sizes : (c d : List ℕ) → Mem c (prefixes may letter k w) → Mem d (prefixes may letter k w) → sizes (marked letter w (at c)) ≡ sizes (marked letter w (at d)) → c ≡ d
  unfolding sizes
  same_sizes c d m n e =
      let p = prefixes_at may letter k w c letters m in
      let q = prefixes_at may letter k w d letters n in
      ext_get_or 0 c d (p.0 ∙ sym q.0) (λ x h.
      let g = together x (omega (arith, p.0)) in
      let s = filter_same may (λ a. bit g.0 (letter a)) (apart g.0 g.1) (front_of_prefix may letter p.1) (front_of_prefix may letter q.1)
      (map_at (λ g. events_in letter g (marked letter w (at c))) (λ g. events_in letter g (marked letter w (at d))) g.1 e) in
      sym (count_marked may letter w (at c) p.1.fits x) ∙ sym (count_filter letter (bit g.0) x g.2 (marked letter w (at c)))
      ∙ ap (λ l. count letter l x) s ∙ count_filter letter (bit g.0) x g.2 (marked letter w (at d)) ∙ count_marked may letter w (at d) q.1.fits x)

  -- "P never exceeds it"
  pub count_ceiling : prefix_count may letter k w ≤ ceiling_of letter groups w
  unfolding sizes
  count_ceiling = omega (
    arith,
    nodup_length (map (λ c. sizes (marked letter w (at c))) (prefixes may letter k w)) (vectors (sizes w))
        (map_nodup_on (λ c. sizes (marked letter w (at c))) (prefixes may letter k w) same_sizes (prefixes_nodup may letter k w))
        (λ s m.
        let n = Memᴰ.of_map (λ c. sizes (marked letter w (at c))) (prefixes may letter k w) m in
        let p = prefixes_at may letter k w n.0 letters n.1 in
        let u = marked letter w (at n.0) in
        Memᴰ.cast (sym n.2) (vectors_of (sizes w) (sizes u) (length-map groups (λ g. events_in letter g u) ∙ sym (length-map groups (λ g. events_in letter g w)))
        (at_map_le (λ g. events_in letter g u) (λ g. events_in letter g w) groups (λ g. filter_le may (λ a. bit g (letter a)) (front_of_prefix may letter p.1))))),
    length-map (prefixes may letter k w) (λ c. sizes (marked letter w (at c))),
    length_vectors letter w groups,
  )
