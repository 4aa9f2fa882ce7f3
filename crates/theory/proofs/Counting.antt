-- The list of prefixes has exactly the prefixes, each once, so its length is their number.
use mathlib.Core.Path.{◌≡◌, refl, sym, ◌∙◌, ap, subst}
use mathlib.Core.Bool.{Bool}
use mathlib.Core.Logic.{⊎_elim, ◌≢◌}
use mathlib.Core.List.Memᴰ
use mathlib.Core.List.{List, [], ◌∷◌, map, head-eq_of_cons-eq, tail-eq_of_cons-eq}
use Prim.Native.Nat.{ℕ, zero, suc, ◌+◌, ◌≤◌, ◌<◌}
use native.Mathlib.Omega.{arith}
use lib.Dec.{T, ltb, ltb→lt}
use lib.ListN.{length, get_or-eq_default}
use Rattle.profile.specs.Lists.{Mem, below, range}
use Rattle.profile.specs.Prefixes.{IsPrefix, at, closed?, count, prefix_count, prefixes, vectors}
use Rattle.profile.specs.Traces.{Reachable, letters_below}
use Rattle.profile.proofs.Lists.{NoDup, below_at, below_of, filter_at, filter_nodup, filter_of, flat_map_at, flat_map_nodup, flat_map_of, fst_of, lt_or_le, map_nodup, nodup_length, range_nodup, snd_of}
use Rattle.theory.proofs.Prefixes.{one_cases, prefix_of_order, prefix_test}
use Rattle.profile.proofs.Traces.{order_of_reach}

-- ---- the boxes

vectors_nodup : (ns : List ℕ) → NoDup (vectors ns)
vectors_nodup [] = ((λ m. Memᴰ.not-nil m), tt)
vectors_nodup (n ∷ ns) = flat_map_nodup (λ i. map (◌∷◌ i) (vectors ns)) (below (suc n)) (range_nodup (suc n) 0)
    (λ i. map_nodup (◌∷◌ i) (λ a b e. tail-eq_of_cons-eq e) (vectors ns) (vectors_nodup ns))
    (λ i j c p q. let u = Memᴰ.of_map (◌∷◌ i) (vectors ns) p in let v = Memᴰ.of_map (◌∷◌ j) (vectors ns) q in head-eq_of_cons-eq (u.2 ∙ sym v.2))

-- as many counts as ns, each at most its own
vectors_at : (ns c : List ℕ) → Mem c (vectors ns) → (length c ≡ length ns) × ((x : ℕ) → at c x ≤ at ns x)
vectors_at [] c m = let e = Memᴰ.eq_of_singleton m in (ap length e, λ x. rw e (omega arith))
vectors_at (n ∷ ns) c m =
    let p = flat_map_at (λ i. map (◌∷◌ i) (vectors ns)) (below (suc n)) m in
    let q = Memᴰ.of_map (◌∷◌ p.0) (vectors ns) p.2 in
    let ih = vectors_at ns q.0 q.1 in
    go c p.0 q.0 q.2 (below_at (suc n) p.0 p.1) ih
  where
    go : (c : List ℕ) (i : ℕ) (d : List ℕ) → i ∷ d ≡ c → i < suc n → (length d ≡ length ns) × ((x : ℕ) → at d x ≤ at ns x)
        → (length c ≡ suc (length ns)) × ((x : ℕ) → at c x ≤ at (n ∷ ns) x)
    go c i d e lt h = (sym (ap length e) ∙ ap suc h.0, λ x. subst (λ z. at z x ≤ at (n ∷ ns) x) e (le x))
      where
        le : (x : ℕ) → at (i ∷ d) x ≤ at (n ∷ ns) x
        le zero = omega arith
        le (suc x) = h.1 x

pub vectors_of : (ns c : List ℕ) → length c ≡ length ns → ((x : ℕ) → at c x ≤ at ns x) → Mem c (vectors ns)
vectors_of [] [] e h = Memᴰ.head refl
vectors_of [] (i ∷ c) e h = absurd (omega arith)
vectors_of (n ∷ ns) [] e h = absurd (omega arith)
vectors_of (n ∷ ns) (i ∷ c) e h =
    flat_map_of (λ i. map (◌∷◌ i) (vectors ns)) (below_of (suc n) i (omega (arith, h 0)))
    (Memᴰ.map (◌∷◌ i) (vectors_of ns c (omega arith) (λ x. h (suc x))))

-- ---- counts of w as a list

pub at_map : (f : ℕ → ℕ) (n a x : ℕ) → x < n → at (map f (range a n)) x ≡ f (a + x)
at_map f zero a x h = absurd (omega arith)
at_map f (suc n) a zero h = ap f (omega arith)
at_map f (suc n) a (suc x) h = at_map f n (suc a) x (omega arith) ∙ ap f (omega arith)

pub length_range : (f : ℕ → ℕ) (n a : ℕ) → length (map f (range a n)) ≡ n
length_range f zero a = refl
length_range f (suc n) a = ap suc (length_range f n (suc a))

pub count_above : (letter : ℕ → ℕ) (k : ℕ) (w : List ℕ) (x : ℕ) → T (letters_below letter k w) → k ≤ x → count letter w x ≡ 0
count_above letter k [] x h le = refl
count_above letter k (a ∷ w) x h le = ⊎_elim
    (λ e. absurd (omega (arith, ltb→lt (letter a) k (fst_of (ltb (letter a) k) (letters_below letter k w) h))))
    (λ z. omega (arith, count_above letter k w x (snd_of (ltb (letter a) k) (letters_below letter k w) h) le)) (one_cases (letter a) x)

-- ---- the list of prefixes

module _ (may : ℕ → ℕ → Bool) (letter : ℕ → ℕ) (k : ℕ) where
  pub prefixes_nodup : (w : List ℕ) → NoDup (prefixes may letter k w)
  prefixes_nodup w = filter_nodup (λ c. closed? may letter w (at c)) (vectors (map (count letter w) (below k))) (vectors_nodup (map (count letter w) (below k)))

  -- c is in the list exactly when it has k counts, and they are a prefix
  pub prefixes_at : (w c : List ℕ) → T (letters_below letter k w) → Mem c (prefixes may letter k w) → (length c ≡ k) × IsPrefix may letter w (at c)
  prefixes_at w c h m =
      let s = filter_at (λ c. closed? may letter w (at c)) (vectors (map (count letter w) (below k))) m in
      let b = vectors_at (map (count letter w) (below k)) c s.0 in (
        b.0 ∙ length_range (count letter w) k 0,
        (prefix_test may letter w (at c)).1 (
          (λ x. ⊎_elim (λ lt. omega (arith, b.1 x, at_map (count letter w) k 0 x lt, ap (count letter w) (add0 x)))
              (λ le. omega (arith, get_or-eq_default c 0 {n = x} (omega (arith, b.0, length_range (count letter w) k 0)))) (lt_or_le x k)),
          s.1,
        ),
      )
    where
      add0 : (x : ℕ) → 0 + x ≡ x
      add0 x = omega arith

  pub prefixes_of : (w c : List ℕ) → length c ≡ k → IsPrefix may letter w (at c) → Mem c (prefixes may letter k w)
  prefixes_of w c e p =
      filter_of (λ c. closed? may letter w (at c))
      (vectors_of (map (count letter w) (below k)) c (e ∙ sym (length_range (count letter w) k 0))
      (λ x. ⊎_elim (λ lt. omega (arith, p.fits x, at_map (count letter w) k 0 x lt, ap (count letter w) (add0 x)))
      (λ le. omega (arith, get_or-eq_default c 0 {n = x} (omega arith))) (lt_or_le x k)))
      ((prefix_test may letter w (at c)).0 p).1
    where
      add0 : (x : ℕ) → 0 + x ≡ x
      add0 x = omega arith

  -- any list of counts without repeats that has exactly the prefixes has P of them
  pub prefix_count_of : (w : List ℕ) (l : List (List ℕ)) → NoDup l
      → ((c : List ℕ) → Mem c l → Mem c (prefixes may letter k w)) → ((c : List ℕ) → Mem c (prefixes may letter k w) → Mem c l) → length l ≡ prefix_count may letter k w
  prefix_count_of w l d f g = omega (arith, nodup_length l (prefixes may letter k w) d f, nodup_length (prefixes may letter k w) l (prefixes_nodup w) g)

  module _ (distinct : (a b : ℕ) → T (may a b) → letter a ≢ letter b) where
    -- a reachable log has no more prefixes
    pub prefix_count_reach : (w v : List ℕ) → T (letters_below letter k v) → Reachable may w v → prefix_count may letter k v ≤ prefix_count may letter k w
    prefix_count_reach w v h r = nodup_length (prefixes may letter k v) (prefixes may letter k w) (prefixes_nodup v)
        (λ c m. let n = prefixes_at v c h m in prefixes_of w c n.0 (prefix_of_order may letter distinct (order_of_reach may r) n.1).0)
