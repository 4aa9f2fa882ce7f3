-- Tests on lists, and membership: what every other file here uses.
use mathlib.Core.Path.{◌≡◌, refl, sym, ◌∙◌, ap, ap₂, subst}
use mathlib.Core.Bool.{Bool, true, false, ◌&&◌, ◌||◌, not}
use mathlib.Core.Logic.{◌⊎◌, inl, inr, ⊎_elim, ◌↔◌}
use mathlib.Core.List.Memᴰ
use mathlib.Core.List.{List, [], ◌∷◌, ◌++◌, map, append-nil, append_assoc}
use Prim.Native.Nat.{ℕ, zero, suc, ◌+◌, ◌*◌, ◌≤◌, ◌<◌}
use native.Mathlib.Omega.{arith}
use native.Mathlib.Nat.{zero-add}
use lib.ListN.{length, get_or, length-append, get_or-append}
use lib.Seq.{get_or-append-add}
use lib.Dec.{T, not_T, eqb, eqb→eq, eqb_refl, ltb, ltb→lt, nltb→le}
use Rattle.profile.specs.Lists.{Mem, all, any, below, equal?, filter, flat_map, range}

-- ---- tests

pub both : (p q : Bool) → T p → T q → T (p && q)
both true q h k = k
both false q h k = h

pub fst_of : (p q : Bool) → T (p && q) → T p
fst_of true q h = tt
fst_of false q h = h

pub snd_of : (p q : Bool) → T (p && q) → T q
snd_of true q h = h
snd_of false q h = absurd h

pub either : (p q : Bool) → T (p || q) → T p ⊎ T q
either true q h = inl tt
either false q h = inr h

pub or_left : (p q : Bool) → T p → T (p || q)
or_left true q h = tt
or_left false q h = absurd h

pub or_right : (p q : Bool) → T q → T (p || q)
or_right true q h = tt
or_right false q h = h

-- a test passes or fails
pub test : (p : Bool) → T p ⊎ T (not p)
test true = inl tt
test false = inr tt

pub is_true : (p : Bool) → T p → p ≡ true
is_true true h = refl
is_true false h = absurd h

pub is_false : (p : Bool) → T (not p) → p ≡ false
is_false true h = absurd h
is_false false h = refl

pub lt_or_le : (m n : ℕ) → (m < n) ⊎ (n ≤ m)
lt_or_le m n = ⊎_elim (λ t. inl (ltb→lt m n t)) (λ t. inr (nltb→le m n t)) (test (ltb m n))

-- every element passes; some element passes
module _ {A : Type 0} where
  pub all_at : (p : A → Bool) {a : A} {l : List A} → T (all p l) → Mem a l → T (p a)
  all_at p h (Memᴰ.head {x = b} {xs = l} e) = subst (λ c. T (p c)) (sym e) (fst_of (p b) (all p l) h)
  all_at p h (Memᴰ.tail {x = b} {xs = l} m) = all_at p (snd_of (p b) (all p l) h) m

  pub all_of : (p : A → Bool) (l : List A) → ((a : A) → Mem a l → T (p a)) → T (all p l)
  all_of p [] f = tt
  all_of p (b ∷ l) f = both (p b) (all p l) (f b (Memᴰ.head refl)) (all_of p l (λ a m. f a (Memᴰ.tail m)))

  pub all_append : (p : A → Bool) (l r : List A) → T (all p l) → T (all p r) → T (all p (l ++ r))
  all_append p [] r h k = k
  all_append p (a ∷ l) r h k = both (p a) (all p (l ++ r)) (fst_of (p a) (all p l) h) (all_append p l r (snd_of (p a) (all p l) h) k)

  pub all_split : (p : A → Bool) (l r : List A) → T (all p (l ++ r)) → T (all p l) × T (all p r)
  all_split p [] r h = (tt, h)
  all_split p (a ∷ l) r h =
      let n = all_split p l r (snd_of (p a) (all p (l ++ r)) h) in
      (both (p a) (all p l) (fst_of (p a) (all p (l ++ r)) h) n.0, n.1)

  pub any_of : (p : A → Bool) {a : A} {l : List A} → Mem a l → T (p a) → T (any p l)
  any_of p (Memᴰ.head {x = b} {xs = l} e) t = or_left (p b) (any p l) (subst (λ c. T (p c)) e t)
  any_of p (Memᴰ.tail {x = b} {xs = l} m) t = or_right (p b) (any p l) (any_of p m t)

  pub any_at : (p : A → Bool) (l : List A) → T (any p l) → (a : A) × Mem a l × T (p a)
  any_at p (b ∷ l) h = go (either (p b) (any p l) h) (any_at p l)
    where
      go : T (p b) ⊎ T (any p l) → (T (any p l) → (a : A) × Mem a l × T (p a)) → (a : A) × Mem a (b ∷ l) × T (p a)
      go (inl t) f = (b, Memᴰ.head refl, t)
      go (inr t) f = let m = f t in (m.0, Memᴰ.tail m.1, m.2)
  any_at p [] h = elim h [ ]

  pub filter_yes : (p : A → Bool) (a : A) (l : List A) → T (p a) → filter p (a ∷ l) ≡ a ∷ filter p l
  filter_yes p a l t = rw (is_true (p a) t, filter)

  pub filter_no : (p : A → Bool) (a : A) (l : List A) → T (not (p a)) → filter p (a ∷ l) ≡ filter p l
  filter_no p a l t = rw (is_false (p a) t, filter)

  filter_cons : (p : A → Bool) (b : A) (l : List A) (c : Bool) → p b ≡ c → {a : A} → Mem a (filter p (b ∷ l)) → ((a ≡ b) × T c) ⊎ Mem a (filter p l)
  filter_cons p b l true e m = ⊎_elim (λ q. inl (q, tt)) inr (Memᴰ.cases_cons (rw (e, filter) at m))
  filter_cons p b l false e m = inr (rw (e, filter) at m)

  pub filter_at : (p : A → Bool) {a : A} (l : List A) → Mem a (filter p l) → Mem a l × T (p a)
  filter_at p {a} (b ∷ l) m = go (filter_cons p b l (p b) refl m) (filter_at p l)
    where
      go : ((a ≡ b) × T (p b)) ⊎ Mem a (filter p l) → (Mem a (filter p l) → Mem a l × T (p a)) → Mem a (b ∷ l) × T (p a)
      go (inl q) f = (Memᴰ.head q.0, subst (λ c. T (p c)) (sym q.0) q.1)
      go (inr k) f = (Memᴰ.tail (f k).0, (f k).1)
  filter_at p {a = a} [] m = elim m [ ]

  pub filter_of : (p : A → Bool) {a : A} {l : List A} → Mem a l → T (p a) → Mem a (filter p l)
  filter_of p (Memᴰ.head {x = b} {xs = l} e) t = rw (is_true (p b) (subst (λ c. T (p c)) e t), filter) (Memᴰ.head e)
  filter_of p {a} (Memᴰ.tail {x = b} {xs = l} m) t = go (p b) refl (filter_of p m t)
    where
      go : (c : Bool) → p b ≡ c → Mem a (filter p l) → Mem a (filter p (b ∷ l))
      go true e k = rw (e, filter) (Memᴰ.tail k)
      go false e k = rw (e, filter) k

  pub filter_none : (p : A → Bool) (l : List A) → ((a : A) → Mem a l → T (p a) → ⊥) → filter p l ≡ []
  filter_none p [] f = refl
  filter_none p (b ∷ l) f = rw (is_false (p b) (not_T (p b) (f b (Memᴰ.head refl))), filter) (filter_none p l (λ a m. f a (Memᴰ.tail m)))

-- the lists f a for each a, one after the other
module _ {A B : Type 0} where
  pub flat_map_of : (f : A → List B) {a : A} {b : B} {l : List A} → Mem a l → Mem b (f a) → Mem b (flat_map f l)
  flat_map_of f {b = b} (Memᴰ.head {x = x} {xs = l} e) m = Memᴰ.append_left (flat_map f l) (subst (λ c. Mem b (f c)) e m)
  flat_map_of f (Memᴰ.tail {x = x} n) m = Memᴰ.append_right (f x) (flat_map_of f n m)

  pub flat_map_at : (f : A → List B) {b : B} (l : List A) → Mem b (flat_map f l) → (a : A) × Mem a l × Mem b (f a)
  flat_map_at f {b} (x ∷ l) m = go (Memᴰ.append_cases (f x) m) (flat_map_at f l)
    where
      go : Mem b (f x) ⊎ Mem b (flat_map f l) → (Mem b (flat_map f l) → (a : A) × Mem a l × Mem b (f a)) → (a : A) × Mem a (x ∷ l) × Mem b (f a)
      go (inl k) r = (x, Memᴰ.head refl, k)
      go (inr k) r = let n = r k in (n.0, Memᴰ.tail n.1, n.2)
  flat_map_at f {b = b} [] m = elim m [ ]

-- ---- the numbers below k, in rising order

range_at : (n a x : ℕ) → Mem x (range a n) → (a ≤ x) × (x < a + n)
range_at zero a x m = absurd (Memᴰ.not-nil m)
range_at (suc n) a x m = go (Memᴰ.cases_cons m) (range_at n (suc a) x)
  where
    go : (x ≡ a) ⊎ Mem x (range (suc a) n) → (Mem x (range (suc a) n) → (suc a ≤ x) × (x < suc a + n)) → (a ≤ x) × (x < a + suc n)
    go (inl e) f = omega arith
    go (inr k) f = let n = f k in omega arith

range_of : (n a x : ℕ) → a ≤ x → x < a + n → Mem x (range a n)
range_of zero a x h k = absurd (omega arith)
range_of (suc n) a x h k = go (lt_or_le a x) (range_of n (suc a) x)
  where
    go : (a < x) ⊎ (x ≤ a) → (suc a ≤ x → x < suc a + n → Mem x (range (suc a) n)) → Mem x (a ∷ range (suc a) n)
    go (inl l) f = Memᴰ.tail (f l (omega arith))
    go (inr l) f = let e : x ≡ a = omega arith in Memᴰ.head e

-- the first m numbers, then the others
pub range_append : (a m n : ℕ) → range a (m + n) ≡ range a m ++ range (a + m) n
range_append a zero n = let e : 0 + n ≡ n = omega arith in let d : a ≡ a + 0 = omega arith in ap (range a) e ∙ ap (λ b. range b n) d
range_append a (suc m) n =
    let e : suc m + n ≡ suc (m + n) = omega arith in
    let d : suc a + m ≡ a + suc m = omega arith in
    ap (range a) e ∙ ap (◌∷◌ a) (range_append (suc a) m n ∙ ap (λ b. range (suc a) m ++ range b n) d)

pub below_at : (k x : ℕ) → Mem x (below k) → x < k
below_at k x m = omega (arith, (range_at k 0 x m).1)

pub below_of : (k x : ℕ) → x < k → Mem x (below k)
below_of k x h = range_of k 0 x (omega arith) (omega arith)

-- for loops: the last of the numbers, and the sifted list with one element more at its end
pub below_suc : (k : ℕ) → below (suc k) ≡ below k ++ (k ∷ [])
below_suc k = range-suc k 0 ∙ ap (λ n. range 0 k ++ (n ∷ [])) (zero-add k)
  where
    range-suc : (n a : ℕ) → range a (suc n) ≡ range a n ++ ((a + n) ∷ [])
    range-suc zero a = let e : a ≡ a + 0 = omega arith in ap (λ x. x ∷ []) e
    range-suc (suc n) a = let e : suc a + n ≡ a + suc n = omega arith in ap (◌∷◌ a) (range-suc n (suc a) ∙ ap (λ x. range (suc a) n ++ (x ∷ [])) e)

module _ {A : Type 0} where
  pub filter_append : (p : A → Bool) (l r : List A) → filter p (l ++ r) ≡ filter p l ++ filter p r
  filter_append p [] r = refl
  filter_append p (a ∷ l) r = go (p a) refl (filter_append p l r)
    where
      go : (c : Bool) → p a ≡ c → filter p (l ++ r) ≡ filter p l ++ filter p r → filter p ((a ∷ l) ++ r) ≡ filter p (a ∷ l) ++ filter p r
      go true e h = rw (e, filter) (ap (◌∷◌ a) h)
      go false e h = rw (e, filter) h

  pub filter_last_yes : (p : A → Bool) (l : List A) (a : A) → T (p a) → filter p (l ++ (a ∷ [])) ≡ filter p l ++ (a ∷ [])
  filter_last_yes p l a t = filter_append p l (a ∷ []) ∙ ap (λ r. filter p l ++ r) (rw (is_true (p a) t, filter))

  pub filter_last_no : (p : A → Bool) (l : List A) (a : A) → T (not (p a)) → filter p (l ++ (a ∷ [])) ≡ filter p l
  filter_last_no p l a t = filter_append p l (a ∷ []) ∙ ap (λ r. filter p l ++ r) (rw (is_false (p a) t, filter)) ∙ append-nil (filter p l)

-- ---- lists without repeats

module _ {A : Type 0} where
  -- no element stands twice
  abbrev pub NoDup : List A → Type 0
  NoDup [] = Unit {0}
  NoDup (a ∷ l) = (Mem a l → ⊥) × NoDup l

  -- l without the element at that place
  drop_at : {a : A} {l : List A} → Mem a l → List A
  drop_at (Memᴰ.head {xs = l} e) = l
  drop_at (Memᴰ.tail {x = b} m) = b ∷ drop_at m

  drop_length : {a : A} {l : List A} (m : Mem a l) → length l ≡ suc (length (drop_at m))
  unfolding drop_at
  drop_length (Memᴰ.head e) = refl
  drop_length (Memᴰ.tail m) = ap suc (drop_length m)

  drop_mem : {a b : A} {l : List A} (m : Mem a l) → Mem b l → (b ≡ a) ⊎ Mem b (drop_at m)
  unfolding drop_at
  drop_mem (Memᴰ.head e) k = ⊎_elim (λ q. inl (q ∙ sym e)) inr (Memᴰ.cases_cons k)
  drop_mem {a} {b} (Memᴰ.tail {x = x} {xs = l} m) k = go (Memᴰ.cases_cons k) (drop_mem m)
    where
      go : (b ≡ x) ⊎ Mem b l → (Mem b l → (b ≡ a) ⊎ Mem b (drop_at m)) → (b ≡ a) ⊎ Mem b (x ∷ drop_at m)
      go (inl q) f = inr (Memᴰ.head q)
      go (inr n) f = ⊎_elim inl (λ z. inr (Memᴰ.tail z)) (f n)

  -- a list without repeats is no longer than one that has all its elements
  pub nodup_length : (l r : List A) → NoDup l → ((a : A) → Mem a l → Mem a r) → length l ≤ length r
  nodup_length [] r d f = omega arith
  nodup_length (a ∷ l) r d f =
      let m = f a (Memᴰ.head refl) in
      let h = nodup_length l (drop_at m) d.1 (λ b k. ⊎_elim (λ e. absurd (d.0 (Memᴰ.cast (sym e) k))) (λ z. z) (drop_mem m (f b (Memᴰ.tail k)))) in
      omega (arith, drop_length m)

  -- two tests that agree on l
  pub filter_agree : (p q : A → Bool) (l : List A) → ((a : A) → Mem a l → p a ≡ q a) → filter p l ≡ filter q l
  filter_agree p q [] f = refl
  filter_agree p q (a ∷ l) f = go (q a) (f a (Memᴰ.head refl)) refl (filter_agree p q l (λ b m. f b (Memᴰ.tail m)))
    where
      go : (c : Bool) → p a ≡ q a → q a ≡ c → filter p l ≡ filter q l → filter p (a ∷ l) ≡ filter q (a ∷ l)
      go true e d h = rw (e, d, filter) (ap (◌∷◌ a) h)
      go false e d h = rw (e, d, filter) h

  pub filter_nodup : (p : A → Bool) (l : List A) → NoDup l → NoDup (filter p l)
  filter_nodup p [] d = tt
  filter_nodup p (a ∷ l) d = go (p a) refl (filter_nodup p l d.1)
    where
      go : (c : Bool) → p a ≡ c → NoDup (filter p l) → NoDup (filter p (a ∷ l))
      go true e n = rw (e, filter) ((λ m. d.0 (filter_at p l m).0), n)
      go false e n = rw (e, filter) n

  pub append_nodup : (l r : List A) → NoDup l → NoDup r → ((a : A) → Mem a l → Mem a r → ⊥) → NoDup (l ++ r)
  append_nodup [] r d e f = e
  append_nodup (a ∷ l) r d e f =
      ((λ m. ⊎_elim d.0 (f a (Memᴰ.head refl)) (Memᴰ.append_cases l m)), append_nodup l r d.1 e (λ b k. f b (Memᴰ.tail k)))

module _ {A B : Type 0} where
  pub map_nodup : (f : A → B) → ((a b : A) → f a ≡ f b → a ≡ b) → (l : List A) → NoDup l → NoDup (map f l)
  map_nodup f inj [] d = tt
  map_nodup f inj (a ∷ l) d =
      ((λ m. let n = Memᴰ.of_map f l m in d.0 (Memᴰ.cast (inj a n.0 (sym n.2)) n.1)), map_nodup f inj l d.1)

  -- a map that is one to one on l
  pub map_nodup_on : (f : A → B) (l : List A) → ((a b : A) → Mem a l → Mem b l → f a ≡ f b → a ≡ b) → NoDup l → NoDup (map f l)
  map_nodup_on f [] inj d = tt
  map_nodup_on f (a ∷ l) inj d = (
    (λ m. let n = Memᴰ.of_map f l m in d.0 (Memᴰ.cast (inj a n.0 (Memᴰ.head refl) (Memᴰ.tail n.1) (sym n.2)) n.1)),
    map_nodup_on f l (λ b c p q. inj b c (Memᴰ.tail p) (Memᴰ.tail q)) d.1,
  )

  pub flat_map_append : (f : A → List B) (l r : List A) → flat_map f (l ++ r) ≡ flat_map f l ++ flat_map f r
  flat_map_append f [] r = refl
  flat_map_append f (a ∷ l) r = ap (λ z. f a ++ z) (flat_map_append f l r) ∙ sym (append_assoc (f a) (flat_map f l) (flat_map f r))

  pub flat_map_agree : (f g : A → List B) (l : List A) → ((a : A) → Mem a l → f a ≡ g a) → flat_map f l ≡ flat_map g l
  flat_map_agree f g [] h = refl
  flat_map_agree f g (a ∷ l) h = ap₂ (λ x y. x ++ y) (h a (Memᴰ.head refl)) (flat_map_agree f g l (λ b m. h b (Memᴰ.tail m)))

  pub flat_map_nodup : (f : A → List B) (l : List A) → NoDup l → ((a : A) → NoDup (f a)) → ((a c : A) (b : B) → Mem b (f a) → Mem b (f c) → a ≡ c) → NoDup (flat_map f l)
  flat_map_nodup f [] d g h = tt
  flat_map_nodup f (a ∷ l) d g h =
      append_nodup (f a) (flat_map f l) (g a) (flat_map_nodup f l d.1 g h)
      (λ b m k. let n = flat_map_at f l k in d.0 (Memᴰ.cast (h a n.0 b m n.2) n.1))

pub range_nodup : (n a : ℕ) → NoDup (range a n)
range_nodup zero a = tt
range_nodup (suc n) a = ((λ m. let k = range_at n (suc a) a m in omega arith), range_nodup n (suc a))

-- ---- equal lists

pub equal_test : (u v : List ℕ) → T (equal? u v) ↔ (u ≡ v)
equal_test u v = (at-equal u v, λ e. subst (λ x. T (equal? u x)) e (of-equal u))
  where
    at-equal : (u v : List ℕ) → T (equal? u v) → u ≡ v
    at-equal [] [] t = refl
    at-equal [] (b ∷ v) t = absurd t
    at-equal (a ∷ u) [] t = absurd t
    at-equal (a ∷ u) (b ∷ v) t = ap₂ ◌∷◌ (eqb→eq a b (fst_of (eqb a b) (equal? u v) t)) (at-equal u v (snd_of (eqb a b) (equal? u v) t))

    of-equal : (u : List ℕ) → T (equal? u u)
    of-equal [] = tt
    of-equal (a ∷ u) = both (eqb a a) (equal? u u) (eqb_refl a) (of-equal u)

-- ---- the element at a place

module _ {A : Type 0} where
  -- the element at a place of l stands in l, and what stands in l stands at a place
  pub mem_getd : (l : List A) (i : ℕ) (d : A) → i < length l → Mem (get_or l i d) l
  mem_getd [] i d h = absurd (omega arith)
  mem_getd (a ∷ l) zero d h = Memᴰ.head refl
  mem_getd (a ∷ l) (suc i) d h = Memᴰ.tail (mem_getd l i d (omega arith))

  pub mem_place : {a : A} {l : List A} (d : A) → Mem a l → (i : ℕ) × (i < length l) × (get_or l i d ≡ a)
  mem_place d (Memᴰ.head {x = b} {xs = l} e) = let lt : 0 < suc (length l) = omega arith in (0, lt, sym e)
  mem_place d (Memᴰ.tail {x = b} {xs = l} m) =
      let p = mem_place d m in
      let lt : suc p.0 < suc (length l) = omega (arith, p.1) in (suc p.0, lt, p.2)

  -- in a list without repeats at one place only
  pub nodup_place : (l : List A) (d : A) → NoDup l → (i j : ℕ) → i < length l → j < length l → get_or l i d ≡ get_or l j d → i ≡ j
  nodup_place [] d n i j h k e = absurd (omega arith)
  nodup_place (a ∷ l) d n zero zero h k e = refl
  nodup_place (a ∷ l) d n zero (suc j) h k e = absurd (n.0 (Memᴰ.cast e (mem_getd l j d (omega arith))))
  nodup_place (a ∷ l) d n (suc i) zero h k e = absurd (n.0 (Memᴰ.cast (sym e) (mem_getd l i d (omega arith))))
  nodup_place (a ∷ l) d n (suc i) (suc j) h k e = ap suc (nodup_place l d n.1 i j (omega arith) (omega arith) e)

-- no number is above a later one
abbrev pub Rising : List ℕ → Type 0
Rising [] = Unit {0}
Rising (n ∷ l) = ((m : ℕ) → Mem m l → n ≤ m) × Rising l

-- where all lists f a have n elements
module _ {A B : Type 0} (f : A → List B) (n : ℕ) (even : (a : A) → length (f a) ≡ n) where
  pub flat_map_length : (l : List A) → length (flat_map f l) ≡ n * length l
  flat_map_length [] = omega arith
  flat_map_length (a ∷ l) = omega (arith, length-append (f a) (flat_map f l), even a, flat_map_length l)

  -- element j of the list of element r
  pub flat_map_getd : (l : List A) (r j : ℕ) (a : A) (b : B) → r < length l → j < n → get_or (flat_map f l) (n * r + j) b ≡ get_or (f (get_or l r a)) j b
  flat_map_getd [] r j a b h k = absurd (omega arith)
  flat_map_getd (x ∷ l) zero j a b h k =
      let e : n * 0 + j ≡ j = omega arith in
      ap (λ i. get_or (f x ++ flat_map f l) i b) e ∙ get_or-append (f x) (flat_map f l) b j (omega (arith, even x))
  flat_map_getd (x ∷ l) (suc r) j a b h k =
      let e : n * suc r + j ≡ length (f x) + (n * r + j) = omega (arith, even x) in
      ap (λ i. get_or (f x ++ flat_map f l) i b) e ∙ get_or-append-add (f x) (flat_map f l) (n * r + j) b ∙ flat_map_getd l r j a b (omega arith) k
