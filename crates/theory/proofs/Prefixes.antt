-- Prefixes: the marking rule, its test, and the events that may be taken first say the same.
use mathlib.Core.Path.{◌≡◌, refl, sym, ◌∙◌, ap, ap₂, subst, fun_ext}
use mathlib.Core.Bool.{Bool, true, not, ◌&&◌}
use mathlib.Core.Logic.{◌⊎◌, inl, inr, ⊎_elim, ◌≢◌}
use mathlib.Core.List.{List, [], ◌∷◌, ◌++◌, map, nil≢cons, head-eq_of_cons-eq, tail-eq_of_cons-eq}
use Prim.Native.Nat.{ℕ, zero, suc, ◌+◌, ◌≤◌}
use native.Mathlib.Omega.{arith}
use lib.ListN.{length}
use lib.Dec.{T, not_T, eqb, eqb→eq, ltb, ltb→lt, lt→ltb}
use Rattle.profile.specs.Lists.{all}
use Rattle.profile.specs.Prefixes.{IsPrefix, addable?, closed?, count, less, marked, more, one, unmarked}
use Rattle.profile.proofs.Lists.{both, fst_of, snd_of}
use Rattle.profile.proofs.Marks.{closed_suc, closed_zero, one_le, one_le_one, test_of_closed}
pub use Rattle.profile.proofs.Marks.{marked_suc, marked_zero, one_cases, one_other, one_same, prefix_test}
use Rattle.profile.proofs.Traces.{Order, Pick, Takes, done, first, later, next, order_trans, takes_last, takes_refl, takes_split, takes_trans}

-- of a prefix c: is it one with one x less
abbrev pub removable? : (ℕ → ℕ → Bool) → (ℕ → ℕ) → List ℕ → (ℕ → ℕ) → ℕ → Bool
removable? may letter w c x = not (eqb (c x) 0) && closed? may letter w (less c x)

-- Front may w m r: w is m and r, and each event of m may pass the earlier ones of r
pub data Front (may : ℕ → ℕ → Bool) : List ℕ → List ℕ → List ℕ → Type 0 where
  empty : Front may [] [] []
  mark : {a : ℕ} {w m r : List ℕ} → Front may w m r → Front may (a ∷ w) (a ∷ m) r
  keep : {a : ℕ} {w m r : List ℕ} → T (all (may a) m) → Front may w m r → Front may (a ∷ w) m (a ∷ r)

module _ (may : ℕ → ℕ → Bool) where
  pub front_none : (w : List ℕ) → Front may w [] w
  front_none [] = empty
  front_none (a ∷ w) = keep tt (front_none w)

  pub front_all : (w : List ℕ) → Front may w w []
  front_all [] = empty
  front_all (a ∷ w) = mark (front_all w)

  front_nil : {w r : List ℕ} → Front may w [] r → w ≡ r
  front_nil empty = refl
  front_nil (keep {a = a} h f) = ap (◌∷◌ a) (front_nil f)

  -- what holds of all events of w holds of the marked ones, and of the others
  pub front_marks : {w m r : List ℕ} → Front may w m r → (p : ℕ → Bool) → T (all p w) → T (all p m)
  front_marks empty p h = tt
  front_marks (mark {a = a} {w = w} {m = m} f) p h = both (p a) (all p m) (fst_of (p a) (all p w) h) (front_marks f p (snd_of (p a) (all p w) h))
  front_marks (keep {a = a} {w = w} _ f) p h = front_marks f p (snd_of (p a) (all p w) h)

  pub front_rest : {w m r : List ℕ} → Front may w m r → (p : ℕ → Bool) → T (all p w) → T (all p r)
  front_rest empty p h = tt
  front_rest (mark {a = a} {w = w} f) p h = front_rest f p (snd_of (p a) (all p w) h)
  front_rest (keep {a = a} {w = w} {r = r} _ f) p h = both (p a) (all p r) (fst_of (p a) (all p w) h) (front_rest f p (snd_of (p a) (all p w) h))

  pub front_length : {w m r : List ℕ} → Front may w m r → length w ≡ length m + length r
  front_length empty = refl
  front_length (mark f) = omega (arith, front_length f)
  front_length (keep _ f) = omega (arith, front_length f)

  -- what passes the events picked from m passes m
  all_pick : (p : ℕ → Bool) {m s : List ℕ} {a : ℕ} → Pick may m a s → T (p a) → T (all p s) → T (all p m)
  all_pick p (first {a = a} {w = w}) h k = both (p a) (all p w) h k
  all_pick p (later {b = b} {w = w} {r = r} ok q) h k = both (p b) (all p w) (fst_of (p b) (all p r) k) (all_pick p q h (snd_of (p b) (all p r) k))

  pub all_picked : (p : ℕ → Bool) {m s : List ℕ} {a : ℕ} → Pick may m a s → T (all p m) → T (p a) × T (all p s)
  all_picked p (first {a = a} {w = w}) h = (fst_of (p a) (all p w) h, snd_of (p a) (all p w) h)
  all_picked p (later {b = b} {w = w} {r = r} ok q) h =
      let k = all_picked p q (snd_of (p b) (all p w) h) in (k.0, both (p b) (all p r) (fst_of (p b) (all p w) h) k.1)

  front_pick : {w a⁻ m r : List ℕ} {a : ℕ} → Pick may w a a⁻ → Front may a⁻ m r → (m⁺ : List ℕ) × Front may w m⁺ r × Pick may m⁺ a m
  front_pick first f = (_, mark f, first)
  front_pick (later ok p) (mark f) = let n = front_pick p f in (_, mark n.1, later ok n.2)
  front_pick (later {b = b} ok p) (keep h f) = let n = front_pick p f in (n.0, keep (all_pick (may b) n.2 ok h) n.1, n.2)

  pick_front : {w m r s : List ℕ} {a : ℕ} → Front may w m r → Pick may m a s → (w⁻ : List ℕ) × Pick may w a w⁻ × Front may w⁻ s r
  pick_front (mark f) first = (_, first, f)
  pick_front (mark f) (later ok p) = let n = pick_front f p in (_, later ok n.1, mark n.2)
  pick_front (keep {a = b} h f) p =
      let n = pick_front f p in
      let k = all_picked (may b) p h in
      (_, later k.0 n.1, keep k.1 n.2)
  pick_front {s = s} {a = a} empty p = elim p [ ]

  -- what is taken is an order of the marked events
  pub front_of_takes : {w u r : List ℕ} → Takes may w u r → (m : List ℕ) × Front may w m r × Order may m u
  front_of_takes done = ([], front_none _, done)
  front_of_takes (next p t) =
      let n = front_of_takes t in
      let k = front_pick p n.1 in
      (k.0, k.1, next k.2 n.2)

  pub takes_of_front : {m u : List ℕ} → Order may m u → {w r : List ℕ} → Front may w m r → Takes may w u r
  takes_of_front done {w = w} {r = r} f = subst (Takes may w []) (front_nil f) done
  takes_of_front (next p t) f = let n = pick_front f p in next n.1 (takes_of_front t n.2)

-- ---- counts

module _ (may : ℕ → ℕ → Bool) (letter : ℕ → ℕ) where
  pub unmarked_zero : (a : ℕ) (w : List ℕ) (c : ℕ → ℕ) → c (letter a) ≡ 0 → unmarked letter (a ∷ w) c ≡ a ∷ unmarked letter w c
  unmarked_zero a w c e = rw (e, unmarked)

  pub unmarked_suc : (a : ℕ) (w : List ℕ) (c : ℕ → ℕ) {n : ℕ} → c (letter a) ≡ suc n → unmarked letter (a ∷ w) c ≡ unmarked letter w (less c (letter a))
  unmarked_suc a w c e = rw (e, unmarked)

  pub count_append : (u v : List ℕ) (x : ℕ) → count letter (u ++ v) x ≡ count letter u x + count letter v x
  count_append [] v x = omega arith
  count_append (a ∷ u) v x = omega (arith, count_append u v x)

  pub count_pick : {w r : List ℕ} {a : ℕ} → Pick may w a r → (x : ℕ) → count letter w x ≡ one (letter a) x + count letter r x
  count_pick first x = refl
  count_pick (later ok p) x = omega (arith, count_pick p x)

  pub count_takes : {w u r : List ℕ} → Takes may w u r → (x : ℕ) → count letter w x ≡ count letter u x + count letter r x
  count_takes done x = omega arith
  count_takes (next p t) x = omega (arith, count_pick p x, count_takes t x)

  pub count_order : {w v : List ℕ} → Order may w v → count letter w ≡ count letter v
  count_order t = fun_ext (λ x. omega (arith, count_takes t x))

  pub count_front : {w m r : List ℕ} → Front may w m r → (x : ℕ) → count letter w x ≡ count letter m x + count letter r x
  count_front empty x = omega arith
  count_front (mark f) x = omega (arith, count_front f x)
  count_front (keep h f) x = omega (arith, count_front f x)

  -- no letter is counted more often than there are events
  pub count_le : (w : List ℕ) (x : ℕ) → count letter w x ≤ length w
  count_le [] x = omega arith
  count_le (a ∷ w) x = omega (arith, one_le_one (letter a) x, count_le w x)

  -- as many as asked are marked, where w has them
  pub count_marked : (w : List ℕ) (c : ℕ → ℕ) → ((x : ℕ) → c x ≤ count letter w x) → (x : ℕ) → count letter (marked letter w c) x ≡ c x
  count_marked [] c h x = omega (arith, h x)
  count_marked (a ∷ w) c h x = go (c (letter a)) refl (count_marked w)
    where
      go : (n : ℕ) → c (letter a) ≡ n → ((d : ℕ → ℕ) → ((y : ℕ) → d y ≤ count letter w y) → (y : ℕ) → count letter (marked letter w d) y ≡ d y)
          → count letter (marked letter (a ∷ w) c) x ≡ c x
      go zero e ih = rw (marked_zero may letter a w c e) (ih c (λ y. ⊎_elim (λ q. omega (arith, ap c q)) (λ z. omega (arith, h y)) (one_cases (letter a) y)) x)
      go (suc n) e ih = rw (marked_suc may letter a w c e) (omega (arith, ih (less c (letter a)) (λ y. omega (arith, h y)) x, one_le c (letter a) x e))

  module _ (distinct : (a b : ℕ) → T (may a b) → letter a ≢ letter b) where
    count_passed : (a : ℕ) (m : List ℕ) → T (all (may a) m) → count letter m (letter a) ≡ 0
    count_passed a [] h = refl
    count_passed a (b ∷ m) h =
        omega (arith, one_other (letter b) (letter a) (λ e. distinct a b (fst_of (may a b) (all (may a) m) h) (sym e)), count_passed a m (snd_of (may a b) (all (may a) m) h))

    -- the counts of the marked events say which they are
    pub front_marked : {w m r : List ℕ} → Front may w m r → (marked letter w (count letter m) ≡ m) × (unmarked letter w (count letter m) ≡ r)
    front_marked empty = (refl, refl)
    front_marked (mark {a = a} {w = w} {m = m} f) =
        let ih = front_marked f in
        let e : count letter (a ∷ m) (letter a) ≡ suc (count letter m (letter a)) = omega (arith, one_same (letter a)) in
        let d : less (count letter (a ∷ m)) (letter a) ≡ count letter m = fun_ext (λ y. omega arith) in (
          marked_suc may letter a w (count letter (a ∷ m)) e ∙ ap (λ c. a ∷ marked letter w c) d ∙ ap (◌∷◌ a) ih.0,
          unmarked_suc a w (count letter (a ∷ m)) e ∙ ap (λ c. unmarked letter w c) d ∙ ih.1,
        )
    front_marked (keep {a = a} {w = w} {m = m} h f) =
        let ih = front_marked f in
        let e = count_passed a m h in
        (marked_zero may letter a w (count letter m) e ∙ ih.0, unmarked_zero a w (count letter m) e ∙ ap (◌∷◌ a) ih.1)

  -- ---- the test and Front say the same

  pub front_of_test : (w : List ℕ) (c : ℕ → ℕ) → T (closed? may letter w c) → Front may w (marked letter w c) (unmarked letter w c)
  front_of_test [] c h = empty
  front_of_test (a ∷ w) c h = go (c (letter a)) refl (front_of_test w)
    where
      go : (n : ℕ) → c (letter a) ≡ n → ((d : ℕ → ℕ) → T (closed? may letter w d) → Front may w (marked letter w d) (unmarked letter w d))
          → Front may (a ∷ w) (marked letter (a ∷ w) c) (unmarked letter (a ∷ w) c)
      go zero e ih =
          let t = rw (closed_zero may letter a w c e) at h in
          rw (marked_zero may letter a w c e, unmarked_zero a w c e)
          (keep (fst_of (all (may a) (marked letter w c)) (closed? may letter w c) t) (ih c (snd_of (all (may a) (marked letter w c)) (closed? may letter w c) t)))
      go (suc n) e ih = rw (marked_suc may letter a w c e, unmarked_suc a w c e) (mark (ih (less c (letter a)) (rw (closed_suc may letter a w c e) at h)))

  pub front_of_prefix : {w : List ℕ} {c : ℕ → ℕ} → IsPrefix may letter w c → Front may w (marked letter w c) (unmarked letter w c)
  front_of_prefix {w} {c} p = front_of_test w c (test_of_closed may letter w c p.closed)

  pub count_of_prefix : {w : List ℕ} {c : ℕ → ℕ} → IsPrefix may letter w c → count letter (marked letter w c) ≡ c
  count_of_prefix {w} {c} p = fun_ext (count_marked w c p.fits)

  -- the marked events may be taken in log order
  pub takes_of_prefix : {w : List ℕ} {c : ℕ → ℕ} {u : List ℕ} → IsPrefix may letter w c → Order may (marked letter w c) u → Takes may w u (unmarked letter w c)
  takes_of_prefix p t = takes_of_front may t (front_of_prefix p)

  module _ (distinct : (a b : ℕ) → T (may a b) → letter a ≢ letter b) where
    test_of_front : {w m r : List ℕ} → Front may w m r → T (closed? may letter w (count letter m))
    test_of_front empty = tt
    test_of_front (mark {a = a} {w = w} {m = m} f) =
        let e : count letter (a ∷ m) (letter a) ≡ suc (count letter m (letter a)) = omega (arith, one_same (letter a)) in
        let d : less (count letter (a ∷ m)) (letter a) ≡ count letter m = fun_ext (λ y. omega arith) in
        rw (closed_suc may letter a w (count letter (a ∷ m)) e, d) (test_of_front f)
    test_of_front (keep {a = a} {w = w} {m = m} h f) =
        rw (closed_zero may letter a w (count letter m) (count_passed distinct a m h))
        (both (all (may a) (marked letter w (count letter m))) (closed? may letter w (count letter m)) (rw (front_marked distinct f).0 h) (test_of_front f))

    pub prefix_of_front : {w m r : List ℕ} → Front may w m r → IsPrefix may letter w (count letter m)
    prefix_of_front {w} {m} f = (prefix_test may letter w (count letter m)).1 ((λ x. omega (arith, count_front f x)), test_of_front f)

    -- what is taken is a prefix, by its counts; its marked events and what is left are determined by these
    pub prefix_of_takes : {w u r : List ℕ} → Takes may w u r
        → IsPrefix may letter w (count letter u) × (unmarked letter w (count letter u) ≡ r) × Order may (marked letter w (count letter u)) u
    prefix_of_takes {w} {u} {r} t =
        let n = front_of_takes may t in
        let e = count_order n.2 in
        let k = front_marked distinct n.1 in
        (subst (IsPrefix may letter w) e (prefix_of_front n.1), rw e at k.1, rw (← e, k.0) n.2)

    -- ---- one letter more

    -- of two prefixes one inside the other, the rest of the larger is at the front of what the smaller leaves
    front_between : {w m r m' r' : List ℕ} → Front may w m r → Front may w m' r' → ((x : ℕ) → count letter m x ≤ count letter m' x)
        → (s : List ℕ) × Front may r s r' × ((x : ℕ) → count letter s x + count letter m x ≡ count letter m' x) × ((p : ℕ → Bool) → T (all p m') → T (all p s))
    front_between empty empty le = ([], empty, (λ x. omega arith), λ p t. tt)
    front_between (mark {a = a} f) (mark {m = m'} g) le =
        let n = front_between f g (λ x. omega (arith, le x)) in
        (n.0, n.1, (λ x. omega (arith, n.2 x)), λ p t. n.3 p (snd_of (p a) (all p m') t))
    front_between (mark {a = a} f) (keep {m = m'} h g) le =
        absurd (omega (arith, le (letter a), count_passed distinct a m' h, one_same (letter a)))
    front_between (keep {a = a} {m = m} h f) (mark {m = m'} g) le =
        let n = front_between f g (λ x. ⊎_elim
        (λ q. omega (arith, ap (count letter m) q, count_passed distinct a m h)) (λ z. omega (arith, le x)) (one_cases (letter a) x)) in
        (a ∷ n.0, mark n.1, (λ x. omega (arith, n.2 x)), λ p t. both (p a) (all p n.0) (fst_of (p a) (all p m') t) (n.3 p (snd_of (p a) (all p m') t)))
    front_between (keep {a = a} h f) (keep k g) le =
        let n = front_between f g le in
        (n.0, keep (n.3 (may a) k) n.1, n.2, n.3)

    single : (s : List ℕ) (x : ℕ) → ((y : ℕ) → count letter s y ≡ one x y) → (a : ℕ) × (s ≡ a ∷ []) × (letter a ≡ x)
    single [] x h = absurd (omega (arith, h x, one_same x))
    single (a ∷ []) x h = ⊎_elim (λ q. (a, refl, sym q)) (λ z. absurd (omega (arith, h (letter a), one_same (letter a)))) (one_cases x (letter a))
    single (a ∷ b ∷ s) x h = ⊎_elim
        (λ q. absurd (omega (arith, h (letter b), one_same (letter b), ap (λ z. one z (letter b)) q)))
        (λ z. absurd (omega (arith, h (letter a), one_same (letter a)))) (one_cases x (letter a))

    pick_of_front : {w r : List ℕ} {a : ℕ} → Front may w (a ∷ []) r → Pick may w a r
    pick_of_front {a = a} (mark {w = w} f) = subst (Pick may (a ∷ w) a) (front_nil may f) first
    pick_of_front {a = a} (keep {a = b} h f) = later (fst_of (may b a) true h) (pick_of_front f)

    -- the counts with one x more are a prefix exactly when the next event of letter x may be picked from what is left
    pub pick_of_more : {w : List ℕ} {c : ℕ → ℕ} {x : ℕ} → IsPrefix may letter w c → IsPrefix may letter w (more c x)
        → (a : ℕ) × (letter a ≡ x) × Pick may (unmarked letter w c) a (unmarked letter w (more c x))
    pick_of_more {w} {c} {x} p q =
        let ce = count_marked w c p.fits in
        let de = count_marked w (more c x) q.fits in
        let n = front_between (front_of_prefix p) (front_of_prefix q) (λ y. omega (arith, ce y, de y)) in
        let k = single n.0 x (λ y. omega (arith, n.2 y, ce y, de y)) in
        (k.0, k.2, pick_of_front (rw k.1 at n.1))

    pub more_of_pick : {w r : List ℕ} {c : ℕ → ℕ} {a : ℕ} → IsPrefix may letter w c → Pick may (unmarked letter w c) a r
        → IsPrefix may letter w (more c (letter a)) × (unmarked letter w (more c (letter a)) ≡ r)
    more_of_pick {w} {r} {c} {a} p k =
        let m = marked letter w c in
        let n = prefix_of_takes (takes_trans may (takes_of_prefix p (takes_refl may m)) (next k done)) in
        let e : count letter (m ++ (a ∷ [])) ≡ more c (letter a) =
        fun_ext (λ y. omega (arith, count_append m (a ∷ []) y, count_marked w c p.fits y)) in
        (rw e at n.0, rw e at n.1)

    -- ---- one letter less

    -- a prefix is empty, or some event was taken last
    pub prefix_last : {w : List ℕ} {c : ℕ → ℕ} → IsPrefix may letter w c
        → (c ≡ (λ x. 0)) ⊎ ((d : ℕ → ℕ) × (a : ℕ) × IsPrefix may letter w d × (c ≡ more d (letter a)) × Pick may (unmarked letter w d) a (unmarked letter w c))
    prefix_last {w} {c} p = go (marked letter w c) refl (takes_of_prefix p (takes_refl may (marked letter w c)))
      where
        go : (m : List ℕ) → marked letter w c ≡ m → Takes may w m (unmarked letter w c)
            → (c ≡ (λ x. 0)) ⊎ ((d : ℕ → ℕ) × (a : ℕ) × IsPrefix may letter w d × (c ≡ more d (letter a)) × Pick may (unmarked letter w d) a (unmarked letter w c))
        go [] e t = inl (fun_ext (λ x. sym (count_marked w c p.fits x) ∙ ap (λ l. count letter l x) e))
        go (b ∷ m) e t =
            let n = takes_last may t in
            let k = prefix_of_takes n.4 in
            inr (
              count letter n.0,
              n.2,
              k.0,
              fun_ext (λ x. omega (arith, count_marked w c p.fits x, ap (λ l. count letter l x) (e ∙ n.3), count_append n.0 (n.2 ∷ []) x)),
              rw k.1 n.5,
            )

    -- ---- the tests for one letter less and one more

    less_more : (d : ℕ → ℕ) (x : ℕ) → less (more d x) x ≡ d
    less_more d x = fun_ext (λ y. omega arith)

    more_less : (c : ℕ → ℕ) (x : ℕ) → T (not (eqb (c x) 0)) → more (less c x) x ≡ c
    more_less c x t = fun_ext (λ y. go (c x) refl y)
      where
        go : (n : ℕ) → c x ≡ n → (y : ℕ) → more (less c x) x y ≡ c y
        go zero e y = absurd (rw e at t)
        go (suc n) e y = omega (arith, one_le c x y e)

    pub addable_at : {w : List ℕ} {c : ℕ → ℕ} {x : ℕ} → IsPrefix may letter w c → T (addable? may letter w c x)
        → IsPrefix may letter w (more c x) × (a : ℕ) × (letter a ≡ x) × Pick may (unmarked letter w c) a (unmarked letter w (more c x))
    addable_at {w} {c} {x} p t =
        let lt = ltb→lt (c x) (count letter w x) (fst_of (ltb (c x) (count letter w x)) (closed? may letter w (more c x)) t) in
        let q = (prefix_test may letter w (more c x)).1 (
          (λ y. ⊎_elim (λ e. omega (arith, ap c e, ap (count letter w) e, one_le_one x y)) (λ z. omega (arith, p.fits y)) (one_cases x y)),
          snd_of (ltb (c x) (count letter w x)) (closed? may letter w (more c x)) t,
        ) in
        let n = pick_of_more p q in
        (q, n.0, n.1, n.2)

    pub addable_of : {w : List ℕ} (c : ℕ → ℕ) (x : ℕ) → IsPrefix may letter w (more c x) → T (addable? may letter w c x)
    addable_of {w} c x q =
        both (ltb (c x) (count letter w x)) (closed? may letter w (more c x))
        (lt→ltb (c x) (count letter w x) (omega (arith, q.fits x, one_same x))) ((prefix_test may letter w (more c x)).0 q).1

    pub removable_at : {w : List ℕ} {c : ℕ → ℕ} {x : ℕ} → IsPrefix may letter w c → T (removable? may letter w c x)
        → IsPrefix may letter w (less c x) × (a : ℕ) × (letter a ≡ x) × Pick may (unmarked letter w (less c x)) a (unmarked letter w c) × (more (less c x) x ≡ c)
    removable_at {w} {c} {x} p t =
        let e = more_less c x (fst_of (not (eqb (c x) 0)) (closed? may letter w (less c x)) t) in
        let q = (prefix_test may letter w (less c x)).1 ((λ y. omega (arith, p.fits y)), snd_of (not (eqb (c x) 0)) (closed? may letter w (less c x)) t) in
        let n = pick_of_more {w = w} {c = less c x} {x = x} q (subst (IsPrefix may letter w) (sym e) p) in
        (q, n.0, n.1, subst (λ d. Pick may (unmarked letter w (less c x)) n.0 (unmarked letter w d)) e n.2, e)

    pub removable_of : {w : List ℕ} {d : ℕ → ℕ} (c : ℕ → ℕ) (x : ℕ) → IsPrefix may letter w d → c ≡ more d x → T (removable? may letter w c x) × (less c x ≡ d)
    removable_of {w} {d} c x p e =
        let q = ap (λ g. less g x) e ∙ less_more d x in (
          both (not (eqb (c x) 0)) (closed? may letter w (less c x))
              (not_T (eqb (c x) 0) (λ z. omega (arith, eqb→eq (c x) 0 z, ap (λ g. g x) e, one_same x)))
              (rw q ((prefix_test may letter w d).0 p).1),
          q,
        )

    -- what holds of every event of w holds of one that is picked
    pub all_of_pick : (p : ℕ → Bool) {w r : List ℕ} {c : ℕ → ℕ} {a : ℕ} → IsPrefix may letter w c → Pick may (unmarked letter w c) a r → T (all p w) → T (p a)
    all_of_pick p q k h = (all_picked may p k (front_rest may (front_of_prefix q) p h)).0

    -- ---- logs that are reachable

    -- a prefix of a reachable log is a prefix of the log, and leaves something from which the same is reachable
    pub prefix_of_order : {w v : List ℕ} {c : ℕ → ℕ} → Order may w v → IsPrefix may letter v c
        → IsPrefix may letter w c × Order may (unmarked letter w c) (unmarked letter v c)
    prefix_of_order {w} {v} {c} o p =
        let m = marked letter v c in
        let r = unmarked letter v c in
        let t = order_trans may o (takes_trans may (takes_of_prefix p (takes_refl may m)) (takes_refl may r)) in
        let n = takes_split may m t in
        let k = prefix_of_takes n.1 in
        (rw (count_of_prefix p) at k.0, subst (λ l. Order may l r) (sym (ap (unmarked letter w) (sym (count_of_prefix p)) ∙ k.1)) n.2)

    -- ---- letters say which events

    pub pick_same : {w r s : List ℕ} {a b : ℕ} → Pick may w a r → Pick may w b s → letter a ≡ letter b → (a ≡ b) × (r ≡ s)
    pick_same first first e = (refl, refl)
    pick_same first (later ok q) e = absurd (distinct _ _ ok e)
    pick_same (later ok p) first e = absurd (distinct _ _ ok (sym e))
    pick_same (later {b = c} ok p) (later k q) e = let n = pick_same p q e in (n.0, ap (◌∷◌ c) n.1)

    -- the letters taken say which events, and what is left
    pub takes_same : {w u r v s : List ℕ} → Takes may w u r → Takes may w v s → map letter u ≡ map letter v → (u ≡ v) × (r ≡ s)
    takes_same done done e = (refl, refl)
    takes_same done (next q t) e = absurd (nil≢cons e)
    takes_same (next p t) done e = absurd (nil≢cons (sym e))
    takes_same (next {a = a} {r = r} p t) (next {u = v} {s = s} q k) e =
        let n = pick_same p q (head-eq_of_cons-eq e) in
        let m = takes_same t (subst (λ l. Takes may l v s) (sym n.1) k) (tail-eq_of_cons-eq e) in
        (ap₂ ◌∷◌ n.0 m.0, m.1)
