-- Looks: it counts the pairs of document 02's words, may be counted by rising total, lies within document 01's bounds, and is the same for logs
-- reachable from each other.
use mathlib.Core.Path.{◌≡◌, refl, sym, ◌∙◌, ap, subst}
use mathlib.Core.Bool.{Bool}
use mathlib.Core.Logic.{◌↔◌, ◌≢◌}
use mathlib.Core.List.Memᴰ
use mathlib.Core.List.{List, [], ◌∷◌, ◌++◌, map}
use Prim.Native.Nat.{ℕ, zero, suc, ◌+◌, ◌-◌, ◌*◌, ◌≤◌, ◌<◌}
use native.Mathlib.Omega.{arith}
use lib.Dec.{T, eqb, eqb_refl}
use lib.ListN.{length, length-append, length-map, replicate}
use Rattle.profile.specs.Automata.{Automaton}
use Rattle.profile.specs.Lists.{Mem, below, flat_map}
use Rattle.profile.specs.Prefixes.{IsPrefix, addable?, additions, at, by_total, looks, more, prefix_count, prefixes, total}
use Rattle.profile.specs.Traces.{Reachable, letters_below}
use Rattle.theory.proofs.Comparison.{back_over, over, prefixes_same}
use Rattle.theory.proofs.Counting.{length_range, prefixes_at, prefixes_nodup, prefixes_of}
use Rattle.theory.proofs.Levels.{bump, by_total_at, by_total_nodup, by_total_of, level_last}
use Rattle.profile.proofs.Lists.{NoDup, below_at, below_of, filter_agree, filter_at, filter_nodup, filter_of, flat_map_agree, flat_map_append, flat_map_at, flat_map_nodup, flat_map_of, map_nodup, nodup_length, range_nodup}
use Rattle.theory.proofs.Prefixes.{addable_at, addable_of}
use Rattle.profile.proofs.Sets.{t_eq}

-- the pairs of counts in l and a letter that can be added to them
abbrev pub pairs_in : (ℕ → ℕ → Bool) → (ℕ → ℕ) → ℕ → List ℕ → List (List ℕ) → ℕ
pairs_in may letter k w l = length (flat_map (additions may letter k w) l)

-- a prefix of w, as k counts, and a letter below k such that adding one of it gives a prefix again
pub record Addition (may : ℕ → ℕ → Bool) (letter : ℕ → ℕ) (k : ℕ) (w c : List ℕ) (x : ℕ) : Type 0 where
  pub letters : length c ≡ k
  pub prefix : IsPrefix may letter w (at c)
  pub letter_below : x < k
  pub again : IsPrefix may letter w (more (at c) x)

-- the prefixes with one such letter more
abbrev grown : (ℕ → ℕ → Bool) → (ℕ → ℕ) → ℕ → List ℕ → List (List ℕ)
grown may letter k w = flat_map (λ c. map (bump c) (additions may letter k w c)) (prefixes may letter k w)

-- ---- lengths of lists one after the other

module _ {A B : Type 0} where
  -- where no list f a has more than n elements
  flat_map_length_le : (f : A → List B) (n : ℕ) → ((a : A) → length (f a) ≤ n) → (l : List A) → length (flat_map f l) ≤ length l * n
  flat_map_length_le f n le [] = omega arith
  flat_map_length_le f n le (a ∷ l) = omega (arith, length-append (f a) (flat_map f l), le a, flat_map_length_le f n le l)

  -- the elements of each list f a may be mapped
  flat_map_length_map : {C : Type 0} (f : A → List B) (g : A → B → C) (l : List A) → length (flat_map (λ a. map (g a) (f a)) l) ≡ length (flat_map f l)
  flat_map_length_map f g [] = refl
  flat_map_length_map f g (a ∷ l) =
      omega (
        arith,
        length-append (map (g a) (f a)) (flat_map (λ a. map (g a) (f a)) l),
        length-append (f a) (flat_map f l),
        length-map (f a) (g a),
        flat_map_length_map f g l,
      )

  module _ (f : A → List B) where
    -- each a of l with each element of f a
    abbrev paired : List A → List (A × B)
    paired l = flat_map (λ a. map (λ b. (a, b)) (f a)) l

    paired_length : (l : List A) → length (paired l) ≡ length (flat_map f l)
    paired_length l = flat_map_length_map f (λ a b. (a, b)) l

    paired_at : {a : A} {b : B} (l : List A) → Mem (a, b) (paired l) → Mem a l × Mem b (f a)
    paired_at {a} {b} l m =
        let n = flat_map_at (λ a. map (λ b. (a, b)) (f a)) l m in
        let q = Memᴰ.of_map (λ b. (n.0, b)) (f n.0) n.2 in (
          Memᴰ.cast (sym (ap (λ p. p.0) q.2)) n.1,
          subst (λ z. Mem b (f z)) (ap (λ p. p.0) q.2) (Memᴰ.cast (sym (ap (λ p. p.1) q.2)) q.1),
        )

    paired_of : {a : A} {b : B} {l : List A} → Mem a l → Mem b (f a) → Mem (a, b) (paired l)
    paired_of {a} m n = flat_map_of (λ a. map (λ b. (a, b)) (f a)) m (Memᴰ.map (λ b. (a, b)) n)

  module _ (f : A → List B) (once : (a : A) → NoDup (f a)) where
    paired_nodup : (l : List A) → NoDup l → NoDup (paired f l)
    paired_nodup l d = flat_map_nodup (λ a. map (λ b. (a, b)) (f a)) l d
        (λ a. map_nodup (λ b. (a, b)) (λ x y e. ap (λ p. p.1) e) (f a) (once a))
        (λ a c p m n. ap (λ p. p.0) ((Memᴰ.of_map (λ b. (a, b)) (f a) m).2 ∙ sym (Memᴰ.of_map (λ b. (c, b)) (f c) n).2))

    -- lists without repeats: more elements to go through, no smaller length
    flat_map_length_more : (l r : List A) → NoDup l → ((a : A) → Mem a l → Mem a r) → length (flat_map f l) ≤ length (flat_map f r)
    flat_map_length_more l r d h = omega (
      arith,
      nodup_length (paired f l) (paired f r) (paired_nodup l d) (λ p m. let n = paired_at f l m in paired_of f (h p.0 n.0) n.1),
      paired_length f l,
      paired_length f r,
    )

    -- the same elements, the same length
    pub flat_map_length_same : (l r : List A) → NoDup l → NoDup r → ((a : A) → Mem a l → Mem a r) → ((a : A) → Mem a r → Mem a l) → length (flat_map f l) ≡ length (flat_map f r)
    flat_map_length_same l r d e g h = omega (arith, flat_map_length_more l r d g, flat_map_length_more r l e h)

-- counts with the total 0 are all 0
none_of_total : (c : List ℕ) → total c ≡ 0 → c ≡ replicate (length c) 0
none_of_total [] e = refl
none_of_total (zero ∷ c) e = ap (◌∷◌ 0) (none_of_total c (omega arith))
none_of_total (suc n ∷ c) e = absurd (omega arith)

module _ (may : ℕ → ℕ → Bool) (letter : ℕ → ℕ) (k : ℕ) (w : List ℕ) where
  -- ---- the pairs of a list

  pub pairs_cons : (c : List ℕ) (l : List (List ℕ)) → pairs_in may letter k w (c ∷ l) ≡ length (additions may letter k w c) + pairs_in may letter k w l
  pairs_cons c l = length-append (additions may letter k w c) (flat_map (additions may letter k w) l)

  pub pairs_append : (l r : List (List ℕ)) → pairs_in may letter k w (l ++ r) ≡ pairs_in may letter k w l + pairs_in may letter k w r
  pairs_append l r =
      ap length (flat_map_append (additions may letter k w) l r) ∙ length-append (flat_map (additions may letter k w) l) (flat_map (additions may letter k w) r)

  additions_nodup : (c : List ℕ) → NoDup (additions may letter k w c)
  additions_nodup c = filter_nodup (addable? may letter w (at c)) (below k) (range_nodup k 0)

  additions_le : (c : List ℕ) → length (additions may letter k w c) ≤ k
  additions_le c = omega (
    arith,
    nodup_length (additions may letter k w c) (below k) (additions_nodup c) (λ x m. (filter_at (addable? may letter w (at c)) (below k) m).0),
    length-map (below k) (λ x. x),
    length_range (λ x. x) k 0,
  )

  -- each prefix with at most k letters
  looks_le : looks may letter k w ≤ prefix_count may letter k w * k
  looks_le = flat_map_length_le (additions may letter k w) k additions_le (prefixes may letter k w)

  -- ---- the pairs by rising total

  module _ (letters : T (letters_below letter k w)) where
    pub looks_by_total : looks may letter k w ≡ pairs_in may letter k w (by_total may letter k w)
    looks_by_total = flat_map_length_same (additions may letter k w) additions_nodup
        (prefixes may letter k w) (by_total may letter k w) (prefixes_nodup may letter k w) (by_total_nodup may letter k w)
        (λ c m. by_total_of may letter k w c letters m) (by_total_at may letter k w)

    module _ (distinct : (a b : ℕ) → T (may a b) → letter a ≢ letter b) where
      -- ---- the pairs in words

      looked : List (List ℕ × ℕ)
      looked = paired (additions may letter k w) (prefixes may letter k w)

      addition_at : (c : List ℕ) (x : ℕ) → Mem (c, x) looked → Addition may letter k w c x
      unfolding looked
      addition_at c x m =
          let n = paired_at (additions may letter k w) (prefixes may letter k w) m in
          let p = prefixes_at may letter k w c letters n.0 in
          let q = filter_at (addable? may letter w (at c)) (below k) n.1 in
          record { letters = p.0; prefix = p.1; letter_below = below_at k x q.0; again = (addable_at may letter distinct p.1 q.1).0 }

      addition_of : (c : List ℕ) (x : ℕ) → Addition may letter k w c x → Mem (c, x) looked
      unfolding looked
      addition_of c x a = paired_of (additions may letter k w) (prefixes_of may letter k w c a.letters a.prefix)
          (filter_of (addable? may letter w (at c)) (below_of k x a.letter_below) (addable_of may letter distinct (at c) x a.again))

      -- "exactly the number of pairs of a prefix and a letter such that adding one of that letter gives a prefix again": any list of exactly these
      -- pairs, each once, has as many
      pub looks_pairs : (l : List (List ℕ × ℕ)) → NoDup l → ((c : List ℕ) (x : ℕ) → Mem (c, x) l ↔ Addition may letter k w c x) → length l ≡ looks may letter k w
      unfolding looked
      looks_pairs l d h = omega (
        arith,
        nodup_length l looked d (λ p m. addition_of p.0 p.1 ((h p.0 p.1).0 m)),
        nodup_length looked l (paired_nodup (additions may letter k w) additions_nodup (prefixes may letter k w) (prefixes_nodup may letter k w))
            (λ p m. (h p.0 p.1).1 (addition_at p.0 p.1 m)),
        paired_length (additions may letter k w) (prefixes may letter k w),
      )

      -- ---- the bounds

      -- every prefix is empty, or a prefix with one letter more
      grown_of : (c : List ℕ) → Mem c (prefixes may letter k w) → Mem c (replicate k 0 ∷ grown may letter k w)
      grown_of c m = go (total c) refl
        where
          go : (n : ℕ) → total c ≡ n → Mem c (replicate k 0 ∷ grown may letter k w)
          go zero e = Memᴰ.head (none_of_total c e ∙ ap (λ n. replicate n 0) (prefixes_at may letter k w c letters m).0)
          go (suc n) e =
              let s = level_last may letter distinct k w letters n c (filter_of (λ d. eqb (total d) (suc n)) m (subst (λ z. T (eqb z (suc n))) (sym e) (eqb_refl (suc n)))) in
              Memᴰ.tail (flat_map_of (λ d. map (bump d) (additions may letter k w d)) (filter_at (λ d. eqb (total d) n) (prefixes may letter k w) s.2).0
              (Memᴰ.cast s.5 (Memᴰ.map (bump s.0) (filter_of (addable? may letter w (at s.0)) (below_of k s.1 s.3) s.4))))

      -- the bounds of document 01: "from P − 1 to P × k"
      pub looks_within : (prefix_count may letter k w - 1 ≤ looks may letter k w) × (looks may letter k w ≤ prefix_count may letter k w * k)
      looks_within = (
        omega (
          arith,
          nodup_length (prefixes may letter k w) (replicate k 0 ∷ grown may letter k w)
              (prefixes_nodup may letter k w) grown_of,
          flat_map_length_map (additions may letter k w) bump (prefixes may letter k w),
        ),
        looks_le,
      )

-- ---- logs reachable from each other

module _ (letter : ℕ → ℕ) (M : Automaton) (may : ℕ → ℕ → Bool) {w v : List ℕ} (p : Reachable may w v) (q : Reachable may v w)
    (distinct : (a b : ℕ) → T (may a b) → letter a ≢ letter b) (k : ℕ) (h : T (letters_below letter k w)) (g : T (letters_below letter k v)) where
  pub looks_same : looks may letter k w ≡ looks may letter k v
  looks_same = ap length (flat_map_agree (additions may letter k w) (additions may letter k v) (prefixes may letter k w)
      (λ c m.
      let n = (prefixes_at may letter k w c h m).1 in
      filter_agree (addable? may letter w (at c)) (addable? may letter v (at c)) (below k) (λ x _. t_eq (addable? may letter w (at c) x) (addable? may letter v (at c) x)
      (λ t. addable_of may letter distinct (at c) x (over letter M may p q distinct k h g (addable_at may letter distinct n t).0))
      (λ t. addable_of may letter distinct (at c) x (back_over letter M may p q distinct k h g (addable_at may letter distinct (over letter M may p q distinct k h g n) t).0))))
      ∙ ap (flat_map (additions may letter k v)) (prefixes_same letter M may p q distinct k h g))
