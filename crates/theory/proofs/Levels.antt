-- The prefixes by rising total are all the prefixes, each once.
use mathlib.Core.Path.{◌≡◌, refl, sym, ◌∙◌, ap, subst, fun_ext}
use mathlib.Core.Bool.{Bool}
use mathlib.Core.Logic.{◌⊎◌, inl, inr, ⊎_elim, ◌≢◌}
use mathlib.Core.List.Memᴰ
use mathlib.Core.List.{List, [], ◌∷◌, map}
use Prim.Native.Nat.{ℕ, zero, suc, ◌+◌, ◌≤◌, ◌<◌}
use native.Mathlib.Omega.{arith}
use native.Mathlib.Nat.{zero-add}
use lib.Seq.{ext_get_or, get_or-set_same, get_or-set_other, set-set, set-get_or}
use lib.Dec.{T, eqb, eqb→eq, eqb_refl, ltb, ltb→lt}
use lib.ListN.{length, set, length-set}
use Rattle.profile.specs.Lists.{Mem, below, range}
use Rattle.profile.specs.Traces.{letters_below}
use Rattle.profile.specs.Prefixes.{IsPrefix, addable?, at, by_total, count, level, marked, more, one, prefix_count, prefixes, total}
use Rattle.theory.proofs.Counting.{at_map, length_range, prefix_count_of, prefixes_at, prefixes_nodup, prefixes_of}
use Rattle.profile.proofs.Lists.{NoDup, below_of, filter_at, filter_nodup, filter_of, flat_map_at, flat_map_nodup, flat_map_of, fst_of, lt_or_le, range_nodup, snd_of}
use Rattle.theory.proofs.Prefixes.{addable_at, addable_of, all_of_pick, count_of_prefix, front_length, front_marks, front_of_prefix, one_cases, one_other, one_same, prefix_last}

-- ---- totals

-- no count exceeds the total
pub le_total : {v : ℕ} {c : List ℕ} → Mem v c → v ≤ total c
le_total (Memᴰ.head {x = n} {xs = c} e) = omega arith
le_total (Memᴰ.tail {x = n} {xs = c} m) = omega (arith, le_total m)

total_add : (f g : ℕ → ℕ) (l : List ℕ) → total (map (λ x. f x + g x) l) ≡ total (map f l) + total (map g l)
total_add f g [] = refl
total_add f g (x ∷ l) = omega (arith, total_add f g l)

total_none : (l : List ℕ) → total (map (λ x. 0) l) ≡ 0
total_none [] = refl
total_none (x ∷ l) = omega (arith, total_none l)

total_before : (n a x : ℕ) → x < a → total (map (one x) (range a n)) ≡ 0
total_before zero a x h = refl
total_before (suc n) a x h = let z : x ≢ a = λ e. omega arith in omega (arith, one_other x a z, total_before n (suc a) x (omega arith))

total_one : (n a x : ℕ) → a ≤ x → x < a + n → total (map (one x) (range a n)) ≡ 1
total_one zero a x h k = absurd (omega arith)
total_one (suc n) a x h k = go (lt_or_le a x) (total_one n (suc a) x)
  where
    go : (a < x) ⊎ (x ≤ a) → (suc a ≤ x → x < suc a + n → total (map (one x) (range (suc a) n)) ≡ 1) → one x a + total (map (one x) (range (suc a) n)) ≡ 1
    go (inl l) ih = let z : x ≢ a = λ e. omega arith in omega (arith, one_other x a z, ih l (omega arith))
    go (inr l) ih = let e : x ≡ a = omega arith in omega (arith, one_same x, ap (one x) e, total_before n (suc a) x (omega arith))

-- the counts of a list add up to its length
total_count : (letter : ℕ → ℕ) (k : ℕ) (u : List ℕ) → T (letters_below letter k u) → total (map (count letter u) (below k)) ≡ length u
total_count letter k [] h = total_none (below k)
total_count letter k (a ∷ u) h =
    let lt = ltb→lt (letter a) k (fst_of (ltb (letter a) k) (letters_below letter k u) h) in
    omega (
      arith,
      total_add (one (letter a)) (count letter u) (below k),
      total_one k 0 (letter a) (omega arith) (omega arith),
      total_count letter k u (snd_of (ltb (letter a) k) (letters_below letter k u) h),
    )

-- a list of k counts is what it has at each letter below k
pub at_below : (c : List ℕ) → map (at c) (below (length c)) ≡ c
at_below c = ext_get_or 0 (map (at c) (below (length c))) c (length_range (at c) (length c) 0)
    (λ i h. at_map (at c) (length c) 0 i (omega (arith, length_range (at c) (length c) 0)) ∙ ap (at c) (zero-add i))

module _ (may : ℕ → ℕ → Bool) (letter : ℕ → ℕ) (k : ℕ) (w : List ℕ) where
  -- a prefix of w has a total of at most w's length: so many events are marked
  pub total_prefix : (c : List ℕ) → T (letters_below letter k w) → Mem c (prefixes may letter k w) → total c ≡ length (marked letter w (at c))
  total_prefix c h m =
      let p = prefixes_at may letter k w c h m in
      let f = front_of_prefix may letter p.1 in
      sym (ap total (at_below c)) ∙ ap (λ n. total (map (at c) (below n))) p.0
      ∙ ap (λ g. total (map g (below k))) (sym (count_of_prefix may letter p.1))
      ∙ total_count letter k (marked letter w (at c)) (front_marks may f (λ a. ltb (letter a) k) h)

  pub by_total_of : (c : List ℕ) → T (letters_below letter k w) → Mem c (prefixes may letter k w) → Mem c (by_total may letter k w)
  by_total_of c h m =
      let p = prefixes_at may letter k w c h m in
      let le : total c < suc (length w) = omega (arith, total_prefix c h m, front_length may (front_of_prefix may letter p.1)) in
      flat_map_of (level may letter k w) (below_of (suc (length w)) (total c) le) (filter_of (λ d. eqb (total d) (total c)) m (eqb_refl (total c)))

  pub by_total_at : (c : List ℕ) → Mem c (by_total may letter k w) → Mem c (prefixes may letter k w)
  by_total_at c m = let n = flat_map_at (level may letter k w) (below (suc (length w))) m in (filter_at (λ d. eqb (total d) n.0) (prefixes may letter k w) n.2).0

  pub by_total_nodup : NoDup (by_total may letter k w)
  by_total_nodup = flat_map_nodup (level may letter k w) (below (suc (length w))) (range_nodup (suc (length w)) 0)
      (λ n. filter_nodup (λ c. eqb (total c) n) (prefixes may letter k w) (prefixes_nodup may letter k w))
      (λ n m c p q.
      sym (eqb→eq (total c) n (filter_at (λ c. eqb (total c) n) (prefixes may letter k w) p).1)
      ∙ eqb→eq (total c) m (filter_at (λ c. eqb (total c) m) (prefixes may letter k w) q).1)

  pub by_total_length : T (letters_below letter k w) → length (by_total may letter k w) ≡ prefix_count may letter k w
  by_total_length h = prefix_count_of may letter k w (by_total may letter k w) by_total_nodup by_total_at (λ c m. by_total_of c h m)

-- ---- from one total to the next

-- the counts with one x more
abbrev pub bump : List ℕ → ℕ → List ℕ
bump c x = set c x (suc (at c x))

pub at_bump : (c : List ℕ) (x : ℕ) → x < length c → at (bump c x) ≡ more (at c) x
at_bump c x h = fun_ext (λ y. ⊎_elim
    (λ e. subst (λ z. at (bump c x) z ≡ more (at c) x z) e (omega (arith, get_or-set_same c x (suc (at c x)) 0 h, one_same x)))
    (λ z. omega (arith, get_or-set_other c x y (suc (at c x)) 0 (other y z), z)) (one_cases x y))
  where
    other : (y : ℕ) → one x y ≡ 0 → y ≢ x
    other y z e = omega (arith, ap (one x) e, one_same x)

total_bump : (c : List ℕ) (x : ℕ) → x < length c → total (bump c x) ≡ suc (total c)
total_bump [] x h = absurd (omega arith)
total_bump (n ∷ c) zero h = omega arith
total_bump (n ∷ c) (suc x) h = omega (arith, total_bump c x (omega arith))

-- where c has an x, it is some counts with one x more
unbump : (c : List ℕ) (x n : ℕ) → x < length c → at c x ≡ suc n → bump (set c x n) x ≡ c
unbump c x n h e =
    ap (λ m. set (set c x n) x (suc m)) (get_or-set_same c x n 0 h) ∙ set-set c x n (suc n) ∙ ap (set c x) (sym e) ∙ set-get_or c x 0

-- where the counts of c are f with one x more, c is a list with the counts f with one x more
pub debump : (c : List ℕ) (x : ℕ) (f : ℕ → ℕ) → x < length c → at c ≡ more f x
    → (d : List ℕ) × (length d ≡ length c) × (at d ≡ f) × (bump d x ≡ c)
debump c x f h e = (
  set c x (f x),
  length-set c x (f x),
  fun_ext (λ y. ⊎_elim
      (λ i. subst (λ z. at (set c x (f x)) z ≡ f z) i (get_or-set_same c x (f x) 0 h))
      (λ z. get_or-set_other c x y (f x) 0 (other y z) ∙ omega (arith, ap (λ g. g y) e)) (one_cases x y)),
  unbump c x (f x) h (ap (λ g. g x) e ∙ ap (λ z. z + f x) (one_same x) ∙ one-add (f x)),
)
  where
    one-add : (m : ℕ) → 1 + m ≡ suc m
    one-add m = omega arith

    other : (y : ℕ) → one x y ≡ 0 → y ≢ x
    other y z i = omega (arith, ap (one x) i, one_same x)

module _ (may : ℕ → ℕ → Bool) (letter : ℕ → ℕ) (distinct : (a b : ℕ) → T (may a b) → letter a ≢ letter b) (k : ℕ) (w : List ℕ)
    (letters : T (letters_below letter k w)) where
  -- a prefix with one letter more, where that is a prefix, has the next total
  pub level_next : (n x : ℕ) (c : List ℕ) → Mem c (level may letter k w n) → x < k → T (addable? may letter w (at c) x) → Mem (bump c x) (level may letter k w (suc n))
  level_next n x c m lt t =
      let s = filter_at (λ c. eqb (total c) n) (prefixes may letter k w) m in
      let p = prefixes_at may letter k w c letters s.0 in
      let h : x < length c = omega (arith, p.0) in
      let q = (addable_at may letter distinct p.1 t).0 in
      let e : total (bump c x) ≡ suc n = total_bump c x h ∙ ap suc (eqb→eq (total c) n s.1) in
      filter_of (λ c. eqb (total c) (suc n))
      (prefixes_of may letter k w (bump c x) (length-set c x (suc (at c x)) ∙ p.0) (subst (IsPrefix may letter w) (sym (at_bump c x h)) q))
      (subst (λ z. T (eqb z (suc n))) (sym e) (eqb_refl (suc n)))

  -- and every prefix of that total comes so
  pub level_last : (n : ℕ) (c : List ℕ) → Mem c (level may letter k w (suc n))
      → (d : List ℕ) × (x : ℕ) × Mem d (level may letter k w n) × (x < k) × T (addable? may letter w (at d) x) × (c ≡ bump d x)
  level_last n c m =
      let s = filter_at (λ c. eqb (total c) (suc n)) (prefixes may letter k w) m in
      let p = prefixes_at may letter k w c letters s.0 in
      let tot = eqb→eq (total c) (suc n) s.1 in
      ⊎_elim
      (λ z. absurd (omega (arith, tot, ap total (at_below c), ap (λ f. total (map f (below (length c)))) z, total_none (below (length c)))))
      (λ f. go f.0 (letter f.1) p.0 p.1 tot f.2 f.3
      (ltb→lt (letter f.1) k (all_of_pick may letter distinct (λ a. ltb (letter a) k) f.2 f.4 letters)))
      (prefix_last may letter distinct p.1)
    where
      go : (f : ℕ → ℕ) (x : ℕ) → length c ≡ k → IsPrefix may letter w (at c) → total c ≡ suc n → IsPrefix may letter w f → at c ≡ more f x → x < k
          → (d : List ℕ) × (x : ℕ) × Mem d (level may letter k w n) × (x < k) × T (addable? may letter w (at d) x) × (c ≡ bump d x)
      go f x len p tot q e lt =
          let b = debump c x f (omega arith) e in
          let d = b.0 in
          let t : total d ≡ n = omega (arith, total_bump d x (omega (arith, b.1)), ap total b.3) in (
            d,
            x,
            filter_of (λ c. eqb (total c) n) (prefixes_of may letter k w d (b.1 ∙ len) (subst (IsPrefix may letter w) (sym b.2) q))
                (subst (λ z. T (eqb z n)) (sym t) (eqb_refl n)),
            lt,
            addable_of may letter distinct (at d) x (subst (IsPrefix may letter w) (e ∙ ap (λ m. more m x) (sym b.2)) p),
            sym b.3,
          )
