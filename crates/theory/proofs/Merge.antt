-- From one total to the next: the prefixes of one total in their order, by a merge of those of the total before with one cursor for each letter; and the
-- way back with one cursor for each letter.
use mathlib.Core.Path.{◌≡◌, refl, sym, ◌∙◌, ap, ap₂, subst, fun_ext}
use mathlib.Core.Bool.{Bool, true, false, ◌&&◌, not, cond}
use mathlib.Core.Logic.{◌⊎◌, inl, inr, ⊎_elim, ◌≢◌}
use mathlib.Core.List.Memᴰ
use mathlib.Core.List.{List, [], ◌∷◌, ◌++◌, map, head-eq_of_cons-eq, tail-eq_of_cons-eq}
use Prim.Native.Nat.{ℕ, zero, suc, ◌+◌, ◌-◌, ◌≤◌, ◌<◌}
use native.Mathlib.Omega.{arith}
use lib.Dec.{T, T_not, eqb, eqb→eq, eqb_refl, ltb, ltb→lt, lt→ltb}
use lib.ListN.{get_or-eq_default, length, get_or, drop, drop_of_length-le, length-drop}
use lib.Seq.{ext_get_or, get_or-drop}
use Rattle.profile.specs.Lists.{Mem, below, equal?, filter, first_place, flat_map, range}
use Rattle.profile.specs.Orders.{Earlier, NoLater, agrees, ends, smaller}
use Rattle.profile.specs.Traces.{letters_below}
use Rattle.profile.specs.Automata.{Automaton, union}
use Rattle.profile.specs.Prefixes.{IsPrefix, addable?, at, backward, closed?, count, forward, less, level, marked, more, prefixes, total, unmarked, vectors}
use Rattle.profile.proofs.Lists.{below_at, both, equal_test, filter_agree, filter_at, filter_of, fst_of, is_false, is_true, lt_or_le, mem_getd, mem_place, snd_of, test}
use Rattle.theory.proofs.Earliest.{no_later_antisym, no_later_refl}
use Rattle.theory.proofs.LetterOrder.{earlier_irrefl, earlier_trans}
use Rattle.theory.proofs.Prefixes.{addable_of, count_front, count_of_prefix, front_all, front_length, front_marked, front_none, front_of_prefix, prefix_of_front, removable_at, removable_of, removable?}
use Rattle.theory.proofs.Counting.{at_map, count_above, length_range, prefixes_at, prefixes_of}
use Rattle.theory.proofs.Levels.{at_bump, bump, debump, level_last, level_next, total_prefix}
use Rattle.theory.proofs.Automata.{Lawful, backward_all, backward_eq, forward_eq, forward_none}
use Rattle.profile.proofs.Sets.{t_eq, union_agree}

-- ---- lists of counts in their order

-- each list of counts is earlier than those behind it
abbrev pub Sorted : List (List ℕ) → Type 0
Sorted [] = Unit {0}
Sorted (c ∷ l) = ((d : List ℕ) → Mem d l → Earlier c d) × Sorted l

pub append_sorted : (l r : List (List ℕ)) → Sorted l → Sorted r → ((c d : List ℕ) → Mem c l → Mem d r → Earlier c d) → Sorted (l ++ r)
append_sorted [] r s t f = t
append_sorted (c ∷ l) r s t f = (
  (λ d m. ⊎_elim (s.0 d) (f c d (Memᴰ.head refl)) (Memᴰ.append_cases l m)),
  append_sorted l r s.1 t (λ a b m. f a b (Memᴰ.tail m)),
)

pub sorted_filter : (p : List ℕ → Bool) (l : List (List ℕ)) → Sorted l → Sorted (filter p l)
sorted_filter p [] s = tt
sorted_filter p (c ∷ l) s = go (p c) refl (sorted_filter p l s.1)
  where
    go : (b : Bool) → p c ≡ b → Sorted (filter p l) → Sorted (filter p (c ∷ l))
    go true e h = rw (e, filter) ((λ d m. s.0 d (filter_at p l m).0), h)
    go false e h = rw (e, filter) h

sorted_cons : (i : ℕ) (l : List (List ℕ)) → Sorted l → Sorted (map (◌∷◌ i) l)
sorted_cons i [] s = tt
sorted_cons i (c ∷ l) s = (
  (λ d m.
      let n = Memᴰ.of_map (◌∷◌ i) l m in
      let h = s.0 n.0 n.1 in
      subst (Earlier (i ∷ c)) n.2 (agrees refl h.0, λ e. h.1 (tail-eq_of_cons-eq e))),
  sorted_cons i l s.1,
)

-- the lists of counts of which none exceeds its own are listed in their order
pub vectors_sorted : (ns : List ℕ) → Sorted (vectors ns)
vectors_sorted [] = ((λ d m. absurd (Memᴰ.not-nil m)), tt)
vectors_sorted (n ∷ ns) = boxes (suc n) 0 (vectors ns) (vectors_sorted ns)
  where
    -- a list of the boxes from a on starts with a or more
    heads : (n a : ℕ) (l : List (List ℕ)) {d : List ℕ} → Mem d (flat_map (λ i. map (◌∷◌ i) l) (range a n)) → (i : ℕ) × (u : List ℕ) × (a ≤ i) × (i ∷ u ≡ d)
    heads zero a l m = absurd (Memᴰ.not-nil m)
    heads (suc n) a l {d} m = go (Memᴰ.append_cases (map (◌∷◌ a) l) m) (heads n (suc a) l)
      where
        go : Mem d (map (◌∷◌ a) l) ⊎ Mem d (flat_map (λ i. map (◌∷◌ i) l) (range (suc a) n))
            → (Mem d (flat_map (λ i. map (◌∷◌ i) l) (range (suc a) n)) → (i : ℕ) × (u : List ℕ) × (suc a ≤ i) × (i ∷ u ≡ d))
            → (i : ℕ) × (u : List ℕ) × (a ≤ i) × (i ∷ u ≡ d)
        go (inl p) f = let v = Memᴰ.of_map (◌∷◌ a) l p in (a, v.0, omega arith, v.2)
        go (inr p) f = let v = f p in (v.0, v.1, omega (arith, v.2), v.3)

    boxes : (n a : ℕ) (l : List (List ℕ)) → Sorted l → Sorted (flat_map (λ i. map (◌∷◌ i) l) (range a n))
    boxes zero a l s = tt
    boxes (suc n) a l s = append_sorted (map (◌∷◌ a) l) (flat_map (λ i. map (◌∷◌ i) l) (range (suc a) n)) (sorted_cons a l s) (boxes n (suc a) l s)
        (λ c d p q.
        let u = Memᴰ.of_map (◌∷◌ a) l p in
        let v = heads n (suc a) l q in
        let lt : a < v.0 = omega (arith, v.2) in
        subst (λ z. Earlier z d) u.2 (subst (Earlier (a ∷ u.0)) v.3 (smaller lt, λ e. let z : a ≡ v.0 = head-eq_of_cons-eq e in omega arith)))

-- what stands at an earlier place is earlier
pub sorted_getd : (l : List (List ℕ)) → Sorted l → (i j : ℕ) → i < j → j < length l → Earlier (get_or l i []) (get_or l j [])
sorted_getd [] s i j h k = absurd (omega arith)
sorted_getd (c ∷ l) s i zero h k = absurd (omega arith)
sorted_getd (c ∷ l) s zero (suc j) h k = s.0 (get_or l j []) (mem_getd l j [] (omega arith))
sorted_getd (c ∷ l) s (suc i) (suc j) h k = sorted_getd l s.1 i j (omega arith) (omega arith)

-- what stands behind l₁ is in order too, and later than what stands in it
sorted_split : (l₁ l₂ : List (List ℕ)) → Sorted (l₁ ++ l₂) → Sorted l₂ × ((c d : List ℕ) → Mem c l₁ → Mem d l₂ → Earlier c d)
sorted_split [] l₂ s = (s, λ c d m. absurd (Memᴰ.not-nil m))
sorted_split (a ∷ l₁) l₂ s =
    let n = sorted_split l₁ l₂ s.1 in (
      n.0,
      λ c d m q. ⊎_elim (λ e. subst (λ z. Earlier z d) (sym e) (s.0 d (Memᴰ.append_right l₁ q))) (λ r. n.1 c d r q) (Memᴰ.cases_cons m),
    )

-- what is later than e stands behind it
sorted_after : (l₁ : List (List ℕ)) (e : List ℕ) (l₂ : List (List ℕ)) {d : List ℕ} → Sorted (l₁ ++ (e ∷ l₂)) → Mem d (l₁ ++ (e ∷ l₂)) → Earlier e d → Mem d l₂
sorted_after l₁ e l₂ {d} s m h =
    ⊎_elim (λ p. absurd (earlier_irrefl e (earlier_trans h ((sorted_split l₁ (e ∷ l₂) s).1 d e p (Memᴰ.head refl)))))
    (λ p. ⊎_elim (λ q. absurd (h.1 (sym q))) (λ r. r) (Memᴰ.cases_cons p)) (Memᴰ.append_cases l₁ m)

-- ---- one letter more keeps the order

pub bump_inj : (c d : List ℕ) (x : ℕ) → length c ≡ length d → bump c x ≡ bump d x → c ≡ d
bump_inj [] [] x l e = refl
bump_inj [] (m ∷ d) x l e = absurd (omega arith)
bump_inj (n ∷ c) [] x l e = absurd (omega arith)
bump_inj (n ∷ c) (m ∷ d) zero l e = let h : n ≡ m = omega (arith, head-eq_of_cons-eq e) in ap₂ ◌∷◌ h (tail-eq_of_cons-eq e)
bump_inj (n ∷ c) (m ∷ d) (suc x) l e = ap₂ ◌∷◌ (head-eq_of_cons-eq e) (bump_inj c d x (omega arith) (tail-eq_of_cons-eq e))

bump_no_later : {c d : List ℕ} (x : ℕ) → length c ≡ length d → NoLater c d → NoLater (bump c x) (bump d x)
bump_no_later x l ends = ends
bump_no_later zero l (smaller {a = n} {b = m} h) = let lt : suc n < suc m = omega arith in smaller lt
bump_no_later (suc x) l (smaller h) = smaller h
bump_no_later zero l (agrees e h) = agrees (ap suc e) h
bump_no_later (suc x) l (agrees e h) = agrees e (bump_no_later x (omega arith) h)

pub bump_earlier : (c d : List ℕ) (x : ℕ) → length c ≡ length d → Earlier c d → Earlier (bump c x) (bump d x)
bump_earlier c d x l h = (bump_no_later x l h.0, λ e. h.1 (bump_inj c d x l e))

-- ---- the first place from p on

module _ {A : Type 0} where
  -- the place of the first element of l from place p on that passes the test; the length of l where none does
  abbrev pub seek : (A → Bool) → List A → ℕ → ℕ
  seek f l p = p + first_place f (drop p l)

module _ {A : Type 0} (f : A → Bool) where
  first_yes : (a : A) (l : List A) → T (f a) → first_place f (a ∷ l) ≡ 0
  first_yes a l t = rw (is_true (f a) t, first_place)

  first_no : (a : A) (l : List A) → T (not (f a)) → first_place f (a ∷ l) ≡ suc (first_place f l)
  first_no a l t = rw (is_false (f a) t, first_place)

  -- what the place is
  first_inside : (l : List A) → first_place f l ≤ length l
  first_inside [] = omega arith
  first_inside (a ∷ l) = ⊎_elim (λ t. omega (arith, first_yes a l t)) (λ t. omega (arith, first_no a l t, first_inside l)) (test (f a))

  first_passes : (l : List A) (d : A) → first_place f l < length l → T (f (get_or l (first_place f l) d))
  first_passes [] d h = absurd (omega arith)
  first_passes (a ∷ l) d h = ⊎_elim
      (λ t. subst (λ i. T (f (get_or (a ∷ l) i d))) (sym (first_yes a l t)) t)
      (λ t. subst (λ i. T (f (get_or (a ∷ l) i d))) (sym (first_no a l t)) (first_passes l d (omega (arith, first_no a l t)))) (test (f a))

  first_before : (l : List A) (d : A) (j : ℕ) → j < first_place f l → T (f (get_or l j d)) → ⊥
  first_before [] d j h t = omega arith
  first_before (a ∷ l) d zero h t = omega (arith, first_yes a l t)
  first_before (a ∷ l) d (suc j) h t =
      ⊎_elim (λ y. omega (arith, first_yes a l y)) (λ n. first_before l d j (omega (arith, first_no a l n)) t) (test (f a))

  pub seek_inside : (l : List A) (p : ℕ) → p ≤ length l → seek f l p ≤ length l
  seek_inside l p h = omega (arith, first_inside (drop p l), length-drop p l)

  pub seek_passes : (l : List A) (d : A) (p : ℕ) → seek f l p < length l → T (f (get_or l (seek f l p) d))
  seek_passes l d p h = subst (λ a. T (f a)) (get_or-drop p l (first_place f (drop p l)) d) (first_passes (drop p l) d (omega (arith, length-drop p l)))

  -- no place between them passes
  pub seek_first : (l : List A) (d : A) (p j : ℕ) → p ≤ j → T (f (get_or l j d)) → seek f l p ≤ j
  seek_first l d p j h t = ⊎_elim (λ lt. absurd (first_before (drop p l) d (j - p) (omega arith) (subst (λ a. T (f a)) (sym at_place) t))) (λ le. le) (lt_or_le j (seek f l p))
    where
      at_place : get_or (drop p l) (j - p) d ≡ get_or l j d
      at_place = let e : p + (j - p) ≡ j = omega arith in get_or-drop p l (j - p) d ∙ ap (λ i. get_or l i d) e

-- ---- one list from another by one letter more

-- E has the lists of C with one letter more, where `add x c` says that c may have one x more; both are in order
pub record Grown (k : ℕ) (C E : List (List ℕ)) (add : ℕ → List ℕ → Bool) : Type 0 where
  pub sorted : Sorted C
  pub sorted_next : Sorted E
  pub counts : (c : List ℕ) → Mem c C → length c ≡ k
  pub up : (c : List ℕ) (x : ℕ) → Mem c C → x < k → T (add x c) → Mem (bump c x) E
  pub down : (e : List ℕ) → Mem e E → (c : List ℕ) × (x : ℕ) × Mem c C × (x < k) × T (add x c) × (e ≡ bump c x)

-- the cursor of letter x stands at place p of C, where R is what of E is still to come: what it passed led to what has come, and what it stands at leads
-- to what is still to come
pub record Cursor (C : List (List ℕ)) (add : ℕ → List ℕ → Bool) (x : ℕ) (R : List (List ℕ)) (p : ℕ) : Type 0 where
  pub inside : p ≤ length C
  pub passed : (j : ℕ) → j < p → T (add x (get_or C j [])) → (r : List ℕ) → Mem r R → Earlier (bump (get_or C j []) x) r
  pub stands : p < length C → T (add x (get_or C p [])) × Mem (bump (get_or C p []) x) R

-- what the cursor stands at leads to e
abbrev pub hits : List (List ℕ) → ℕ → List ℕ → ℕ → Bool
hits C x e p = ltb p (length C) && equal? (bump (get_or C p []) x) e

pub hits_at : (C : List (List ℕ)) (x : ℕ) (e : List ℕ) (p : ℕ) → T (hits C x e p) → (p < length C) × (bump (get_or C p []) x ≡ e)
hits_at C x e p t = (
  ltb→lt p (length C) (fst_of (ltb p (length C)) (equal? (bump (get_or C p []) x) e) t),
  (equal_test (bump (get_or C p []) x) e).0 (snd_of (ltb p (length C)) (equal? (bump (get_or C p []) x) e) t),
)

pub hits_of : (C : List (List ℕ)) (x : ℕ) (e : List ℕ) (p : ℕ) → p < length C → bump (get_or C p []) x ≡ e → T (hits C x e p)
hits_of C x e p h q = both (ltb p (length C)) (equal? (bump (get_or C p []) x) e) (lt→ltb p (length C) h) ((equal_test (bump (get_or C p []) x) e).1 q)

module _ {k : ℕ} {C E : List (List ℕ)} {add : ℕ → List ℕ → Bool} (g : Grown k C E add) where
  -- of two places of C the earlier leads to the earlier
  grown_earlier : (x i j : ℕ) → i < j → j < length C → Earlier (bump (get_or C i []) x) (bump (get_or C j []) x)
  grown_earlier x i j h l =
      bump_earlier (get_or C i []) (get_or C j []) x
      (g.counts (get_or C i []) (mem_getd C i [] (omega arith)) ∙ sym (g.counts (get_or C j []) (mem_getd C j [] l))) (sorted_getd C g.sorted i j h l)

  -- ---- the merge

  -- a cursor sought from q on, where what stands before q led to what has come, and what stands from q on leads to what is still to come
  cursor_seek : (x : ℕ) (R : List (List ℕ)) (q : ℕ) → q ≤ length C
      → ((j : ℕ) → j < q → T (add x (get_or C j [])) → (r : List ℕ) → Mem r R → Earlier (bump (get_or C j []) x) r)
      → ((j : ℕ) → q ≤ j → j < length C → T (add x (get_or C j [])) → Mem (bump (get_or C j []) x) R)
      → Cursor C add x R (seek (add x) C q)
  cursor_seek x R q h before after = record {
    inside = seek_inside (add x) C q h;
    passed = λ j l t. ⊎_elim (λ lt. before j lt t) (λ le. absurd (omega (arith, seek_first (add x) C [] q j le t))) (lt_or_le j q);
    stands = λ l. let t = seek_passes (add x) C [] q l in (t, after (seek (add x) C q) (omega arith) l t);
  }

  pub cursor_start : (x : ℕ) → x < k → Cursor C add x E (seek (add x) C 0)
  cursor_start x h = cursor_seek x E 0 (omega arith) (λ j l. absurd (omega arith)) (λ j z l t. g.up (get_or C j []) x (mem_getd C j [] l) h t)

  -- where a cursor is not at the end, something is still to come
  pub cursor_more : (x p : ℕ) (R : List (List ℕ)) → Cursor C add x R p → p < length C → 0 < length R
  cursor_more x p [] q l = absurd (Memᴰ.not-nil (q.stands l).1)
  cursor_more x p (e ∷ R) q l = omega arith

  pub cursor_end : (x p : ℕ) → Cursor C add x [] p → p ≡ length C
  cursor_end x p q = ⊎_elim (λ l. absurd (omega (arith, cursor_more x p [] q l))) (λ l. omega (arith, q.inside)) (lt_or_le p (length C))

  -- e comes next, behind E₁, and then R
  module _ (E₁ : List (List ℕ)) (e : List ℕ) (R : List (List ℕ)) (split : E ≡ E₁ ++ (e ∷ R)) where
    in_order : Sorted (E₁ ++ (e ∷ R))
    in_order = subst Sorted split g.sorted_next

    behind : (r : List ℕ) → Mem r R → Earlier e r
    behind = (sorted_split E₁ (e ∷ R) in_order).0.0

    -- what a cursor stands at leads to nothing earlier than e
    pub least_of_all : (x p : ℕ) → Cursor C add x (e ∷ R) p → p < length C → NoLater e (bump (get_or C p []) x)
    least_of_all x p q l = ⊎_elim
        (λ i. subst (NoLater e) (sym i) (no_later_refl e)) (λ m. (behind (bump (get_or C p []) x) m).0) (Memᴰ.cases_cons (q.stands l).1)

    -- a list of C that leads to e by x is where the cursor of x stands
    pub hits_parent : (x p : ℕ) → Cursor C add x (e ∷ R) p → (c : List ℕ) → Mem c C → T (add x c) → bump c x ≡ e → T (hits C x e p) × (get_or C p [] ≡ c)
    hits_parent x p q c m t b = let n = mem_place [] m in go n.0 n.1 n.2
      where
        go : (i : ℕ) → i < length C → get_or C i [] ≡ c → T (hits C x e p) × (get_or C p [] ≡ c)
        go i l s = ⊎_elim
            (λ lt. absurd ((q.passed i lt (subst (λ z. T (add x z)) (sym s) t) e (Memᴰ.head refl)).1 (ap (λ z. bump z x) s ∙ b)))
            (λ le. ⊎_elim
            (λ lt.
            let h = subst (Earlier (bump (get_or C p []) x)) (ap (λ z. bump z x) s ∙ b) (grown_earlier x p i lt l) in
            absurd (h.1 (no_later_antisym h.0 (least_of_all x p q (omega arith)))))
            (λ ge.
            let j : i ≡ p = omega arith in
            let r = ap (λ z. get_or C z []) (sym j) ∙ s in
            (hits_of C x e p (omega arith) (ap (λ z. bump z x) r ∙ b), r)) (lt_or_le p i)) (lt_or_le i p)

    -- and where a cursor hits e, it stands at such a list
    pub hits_child : (x p : ℕ) → Cursor C add x (e ∷ R) p → T (hits C x e p) → Mem (get_or C p []) C × T (add x (get_or C p [])) × (bump (get_or C p []) x ≡ e)
    hits_child x p q t = let h = hits_at C x e p t in (mem_getd C p [] h.0, (q.stands h.0).0, h.1)

    -- the cursor moves on where it hits e, and stays where it does not
    pub cursor_hit : (x p : ℕ) → x < k → Cursor C add x (e ∷ R) p → T (hits C x e p) → Cursor C add x R (seek (add x) C (suc p))
    cursor_hit x p h q t =
        let n = hits_at C x e p t in
        cursor_seek x R (suc p) (omega (arith, n.0))
        (λ j l a r m. ⊎_elim (λ lt. q.passed j lt a r (Memᴰ.tail m))
        (λ le. let i : p ≡ j = omega arith in subst (λ z. Earlier z r) (sym n.1 ∙ ap (λ z. bump (get_or C z []) x) i) (behind r m)) (lt_or_le j p))
        (λ j le l a. sorted_after E₁ e R in_order (subst (Mem (bump (get_or C j []) x)) split (g.up (get_or C j []) x (mem_getd C j [] l) h a))
        (subst (λ z. Earlier z (bump (get_or C j []) x)) n.1 (grown_earlier x p j (omega arith) l)))

    pub cursor_miss : (x p : ℕ) → Cursor C add x (e ∷ R) p → T (not (hits C x e p)) → Cursor C add x R p
    cursor_miss x p q t = record {
      inside = q.inside;
      passed = λ j l a r m. q.passed j l a r (Memᴰ.tail m);
      stands = λ l. (
        (q.stands l).0,
        ⊎_elim (λ i. absurd (T_not (hits C x e p) t (hits_of C x e p l i))) (λ m. m) (Memᴰ.cases_cons (q.stands l).1),
      );
    }

    pub cursor_next : (x p : ℕ) → x < k → Cursor C add x (e ∷ R) p → Cursor C add x R (cond (hits C x e p) (seek (add x) C (suc p)) p)
    cursor_next x p h q = ⊎_elim
        (λ t. subst (λ b. Cursor C add x R (cond b (seek (add x) C (suc p)) p)) (sym (is_true (hits C x e p) t)) (cursor_hit x p h q t))
        (λ t. subst (λ b. Cursor C add x R (cond b (seek (add x) C (suc p)) p)) (sym (is_false (hits C x e p) t)) (cursor_miss x p q t)) (test (hits C x e p))

    module _ (p : ℕ → ℕ) (q : (x : ℕ) → x < k → Cursor C add x (e ∷ R) (p x)) where
      pub some_hits : (x : ℕ) × (x < k) × T (hits C x e (p x))
      some_hits =
          let n = g.down e (subst (Mem e) (sym split) (Memᴰ.append_right E₁ (Memᴰ.head refl))) in
          (n.1, n.3, (hits_parent n.1 (p n.1) (q n.1 n.3) n.0 n.2 n.4 (sym n.5)).0)

-- ---- the prefixes of one total, and of the next

-- the counts c with one x more are a prefix
abbrev pub extends? : (ℕ → ℕ → Bool) → (ℕ → ℕ) → List ℕ → ℕ → List ℕ → Bool
extends? may letter w x c = addable? may letter w (at c) x

-- a list in order with one element only
sorted_only : (l : List (List ℕ)) (a : List ℕ) → Sorted l → Mem a l → ((b : List ℕ) → Mem b l → b ≡ a) → l ≡ a ∷ []
sorted_only [] a s m f = absurd (Memᴰ.not-nil m)
sorted_only (b ∷ []) a s m f = ap (λ c. c ∷ []) (f b (Memᴰ.head refl))
sorted_only (b ∷ c ∷ l) a s m f =
    absurd ((s.0 c (Memᴰ.head refl)).1 (f b (Memᴰ.head refl) ∙ sym (f c (Memᴰ.tail (Memᴰ.head refl)))))

module _ (may : ℕ → ℕ → Bool) (letter : ℕ → ℕ) (k : ℕ) (w : List ℕ) where
  pub level_sorted : (n : ℕ) → Sorted (level may letter k w n)
  level_sorted n =
      let ns = map (count letter w) (below k) in
      sorted_filter (λ c. eqb (total c) n) (prefixes may letter k w)
      (sorted_filter (λ c. closed? may letter w (at c)) (vectors ns) (vectors_sorted ns))

  -- c is in the list exactly when it has k counts, they are a prefix, and their total is n
  pub level_at : (n : ℕ) (c : List ℕ) → T (letters_below letter k w) → Mem c (level may letter k w n) → (length c ≡ k) × IsPrefix may letter w (at c) × (total c ≡ n)
  level_at n c h m =
      let s = filter_at (λ c. eqb (total c) n) (prefixes may letter k w) m in
      let p = prefixes_at may letter k w c h s.0 in
      (p.0, p.1, eqb→eq (total c) n s.1)

  pub level_of : (n : ℕ) (c : List ℕ) → length c ≡ k → IsPrefix may letter w (at c) → total c ≡ n → Mem c (level may letter k w n)
  level_of n c l p e =
      filter_of (λ c. eqb (total c) n) (prefixes_of may letter k w c l p) (subst (λ z. T (eqb (total c) z)) e (eqb_refl (total c)))

  -- so many events are marked, and the others are left
  pub level_marked : (n : ℕ) (c : List ℕ) → T (letters_below letter k w) → Mem c (level may letter k w n) → length (marked letter w (at c)) ≡ n
  level_marked n c h m =
      let p = level_at n c h m in
      omega (arith, total_prefix may letter k w c h (prefixes_of may letter k w c p.0 p.1), p.2)

  pub level_left : (n : ℕ) (c : List ℕ) → T (letters_below letter k w) → Mem c (level may letter k w n) → n + length (unmarked letter w (at c)) ≡ length w
  level_left n c h m = omega (arith, level_marked n c h m, front_length may (front_of_prefix may letter (level_at n c h m).1))

  -- below the log's length some event is unmarked
  pub level_unmarked : (n : ℕ) (c : List ℕ) → T (letters_below letter k w) → Mem c (level may letter k w n) → n < length w → unmarked letter w (at c) ≢ []
  level_unmarked n c h m l e = omega (arith, level_left n c h m, ap length e)

module _ (may : ℕ → ℕ → Bool) (letter : ℕ → ℕ) (distinct : (a b : ℕ) → T (may a b) → letter a ≢ letter b) (k : ℕ) (w : List ℕ)
    (letters : T (letters_below letter k w)) where
  pub level_grown : (n : ℕ) → Grown k (level may letter k w n) (level may letter k w (suc n)) (extends? may letter w)
  level_grown n = record {
    sorted = level_sorted may letter k w n;
    sorted_next = level_sorted may letter k w (suc n);
    counts = λ c m. (level_at may letter k w n c letters m).0;
    up = λ c x m l t. level_next may letter distinct k w letters n x c m l t;
    down = λ e m. level_last may letter distinct k w letters n e m;
  }

  -- ---- the first total and the last

  -- the counts of a prefix as a list
  pub at_prefix : {f : ℕ → ℕ} → IsPrefix may letter w f → at (map f (below k)) ≡ f
  at_prefix {f} p = fun_ext (λ x. ⊎_elim
      (λ lt. let z : 0 + x ≡ x = omega arith in at_map f k 0 x lt ∙ ap f z)
      (λ le. omega (
        arith,
        get_or-eq_default (map f (below k)) 0 {n = x} (omega (arith, length_range f k 0)),
        p.fits x,
        count_above letter k w x letters le,
      )) (lt_or_le x k))

  -- where f is the only prefix with n marked events
  level_only : (n : ℕ) (f : ℕ → ℕ) → IsPrefix may letter w f → length (marked letter w f) ≡ n
      → ((h : ℕ → ℕ) → IsPrefix may letter w h → length (marked letter w h) ≡ n → h ≡ f) → level may letter k w n ≡ map f (below k) ∷ []
  level_only n f p l u = sorted_only (level may letter k w n) c (level_sorted may letter k w n) mem
      (λ d m.
      let q = level_at may letter k w n d letters m in
      let e : at d ≡ at c = u (at d) q.1 (level_marked may letter k w n d letters m) ∙ sym (at_prefix p) in
      ext_get_or 0 d c (q.0 ∙ sym (length_range f k 0)) (λ i lt. ap (λ h. h i) e))
    where
      c : List ℕ
      c = map f (below k)

      prefix : IsPrefix may letter w (at c)
      prefix = subst (IsPrefix may letter w) (sym (at_prefix p)) p

      mem : Mem c (level may letter k w n)
      mem = level_of may letter k w n c (length_range f k 0) prefix
          (total_prefix may letter k w c letters (prefixes_of may letter k w c (length_range f k 0) prefix) ∙ ap (λ h. length (marked letter w h)) (at_prefix p) ∙ l)

  pub level_first : level may letter k w 0 ≡ map (λ x. 0) (below k) ∷ []
  level_first = level_only 0 (λ x. 0) (prefix_of_front may letter distinct (front_none may w)) (ap length (front_marked may letter distinct (front_none may w)).0)
      (λ h p l. sym (count_of_prefix may letter p) ∙ ap (count letter) (drop_of_length-le (marked letter w h) {i = 0} (omega arith)))

  pub level_whole : level may letter k w (length w) ≡ map (count letter w) (below k) ∷ []
  level_whole =
      level_only (length w) (count letter w) (prefix_of_front may letter distinct (front_all may w)) (ap length (front_marked may letter distinct (front_all may w)).0)
      (λ h p l.
      let f = front_of_prefix may letter p in
      let z = drop_of_length-le (unmarked letter w h) {i = 0} (omega (arith, front_length may f)) in
      fun_ext (λ x. omega (arith, count_front may letter f x, ap (λ g. g x) (count_of_prefix may letter p), ap (λ r. count letter r x) z)))

  -- ---- the sets of states

  module _ (M : Automaton) (L : Lawful M) where
    pub forward_first : forward may letter M w (at (map (λ x. 0) (below k))) ≡ M.start
    forward_first = ap (forward may letter M w) (at_prefix (prefix_of_front may letter distinct (front_none may w))) ∙ forward_none may letter M L w distinct

    pub backward_whole : backward may letter M w (at (map (count letter w) (below k))) ≡ M.final
    backward_whole = ap (backward may letter M w) (at_prefix (prefix_of_front may letter distinct (front_all may w)))
        ∙ backward_all may letter M L w distinct (count letter w) (front_marked may letter distinct (front_all may w)).1

    -- forward of e from the prefixes at the cursors that hit it
    pub forward_merge : (n : ℕ) (E₁ : List (List ℕ)) (e : List ℕ) (R : List (List ℕ)) → level may letter k w (suc n) ≡ E₁ ++ (e ∷ R) → (p : ℕ → ℕ)
        → ((x : ℕ) → x < k → Cursor (level may letter k w n) (extends? may letter w) x (e ∷ R) (p x))
        → forward may letter M w (at e)
        ≡ union (λ x. M.step (forward may letter M w (at (get_or (level may letter k w n) (p x) []))) x)
        (filter (λ x. hits (level may letter k w n) x e (p x)) (below k))
    forward_merge n E₁ e R split p q =
        forward_eq may letter M L w distinct k letters (at e) prefix some
        ∙ ap (union (λ x. M.step (forward may letter M w (less (at e) x)) x))
        (filter_agree (removable? may letter w (at e)) (λ x. hits C x e (p x)) (below k)
        (λ x m. let l = below_at k x m in t_eq (removable? may letter w (at e) x) (hits C x e (p x)) (parent x l) (λ t. (child x l t).0)))
        ∙ union_agree (λ x. M.step (forward may letter M w (less (at e) x)) x) (λ x. M.step (forward may letter M w (at (get_or C (p x) []))) x)
        (filter (λ x. hits C x e (p x)) (below k))
        (λ x m.
        let f = filter_at (λ x. hits C x e (p x)) (below k) m in
        ap (λ c. M.step (forward may letter M w c) x) (child x (below_at k x f.0) f.1).1)
      where
        C : List (List ℕ)
        C = level may letter k w n

        in_next : Mem e (level may letter k w (suc n))
        in_next = subst (Mem e) (sym split) (Memᴰ.append_right E₁ (Memᴰ.head refl))

        counted : length e ≡ k
        counted = (level_at may letter k w (suc n) e letters in_next).0

        prefix : IsPrefix may letter w (at e)
        prefix = (level_at may letter k w (suc n) e letters in_next).1

        some : at e ≡ (λ x. 0) → ⊥
        some z = omega (
          arith,
          level_marked may letter k w (suc n) e letters in_next,
          ap (λ h. length (marked letter w h)) z,
          ap length (front_marked may letter distinct (front_none may w)).0,
        )

        parent : (x : ℕ) → x < k → T (removable? may letter w (at e) x) → T (hits C x e (p x))
        parent x l t =
            let r = removable_at may letter distinct prefix t in
            let b = debump e x (less (at e) x) (omega (arith, counted)) (sym r.4) in
            let d = b.0 in
            let i : IsPrefix may letter w (at d) = subst (IsPrefix may letter w) (sym b.2) r.0 in
            let a = addable_of may letter distinct (at d) x (subst (IsPrefix may letter w) (sym (ap (λ h. more h x) b.2 ∙ r.4)) prefix) in
            let up = level_next may letter distinct k w letters (total d) x d (level_of may letter k w (total d) d (b.1 ∙ counted) i refl) l a in
            let s : total d ≡ n = omega (
              arith,
              (level_at may letter k w (suc (total d)) (bump d x) letters up).2,
              ap total b.3,
              (level_at may letter k w (suc n) e letters in_next).2,
            ) in
            (hits_parent (level_grown n) E₁ e R split x (p x) (q x l) d (level_of may letter k w n d (b.1 ∙ counted) i s) a b.3).0

        child : (x : ℕ) → x < k → T (hits C x e (p x)) → T (removable? may letter w (at e) x) × (less (at e) x ≡ at (get_or C (p x) []))
        child x l t =
            let c = get_or C (p x) [] in
            let h = hits_child (level_grown n) E₁ e R split x (p x) (q x l) t in
            let i = level_at may letter k w n c letters h.0 in
            removable_of may letter distinct (at e) x i.1 (ap at (sym h.2) ∙ at_bump c x (omega (arith, i.0)))

    -- backward of c from the prefixes with one letter more
    pub backward_level : (n : ℕ) (c : List ℕ) → Mem c (level may letter k w n) → n < length w
        → backward may letter M w (at c)
        ≡ union (λ x. M.back (backward may letter M w (at (bump c x))) x) (filter (λ x. extends? may letter w x c) (below k))
    backward_level n c m l =
        let p = level_at may letter k w n c letters m in
        backward_eq may letter M L w distinct k letters (at c) p.1 (level_unmarked may letter k w n c letters m l)
        ∙ union_agree (λ x. M.back (backward may letter M w (more (at c) x)) x) (λ x. M.back (backward may letter M w (at (bump c x))) x)
        (filter (addable? may letter w (at c)) (below k))
        (λ x h. ap (λ d. M.back (backward may letter M w d) x)
        (sym (at_bump c x (omega (arith, p.0, below_at k x (filter_at (addable? may letter w (at c)) (below k) h).0)))))
