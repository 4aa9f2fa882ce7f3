-- The ceiling by the counts of the letters: one pass over the log counts them, and a group's events are those of its letters.
use mathlib.Core.Path.{◌≡◌, refl, sym, ◌∙◌, ap, subst}
use mathlib.Core.Bool.{Bool, true, false, cond}
use mathlib.Core.Logic.{⊎_elim}
use mathlib.Core.List.Memᴰ
use mathlib.Core.List.{List, [], ◌∷◌, ◌++◌, map}
use Prim.Native.Nat.{ℕ, suc, ◌+◌, ◌*◌, ◌≤◌, ◌<◌, min}
use native.Mathlib.Nat.{mul_assoc, mul-one, mul-le-mul}
use native.Mathlib.Numerals.{add-one}
use native.Mathlib.Omega.{arith}
use lib.Dec.{T, T_not, ltb, ltb→lt}
use lib.ListN.{drop, get_or, length, length-set, length-take, set, take}
use lib.Seq.{drop-cons, ext_get_or, get_or-set_other, get_or-set_same, take-suc}
use Rattle.profile.specs.Lists.{Mem, below, filter}
use Rattle.profile.specs.Prefixes.{at, count, one, total}
use Rattle.profile.specs.Traces.{bit, letters_below}
use Rattle.profile.proofs.Lists.{NoDup, all_at, below_at, below_of, below_suc, filter_at, filter_last_no, filter_last_yes, filter_nodup, filter_no, filter_of, filter_yes, mem_getd, range_nodup, test}
use Rattle.theory.proofs.Counting.{at_map, length_range}
use Rattle.theory.proofs.Prefixes.{count_append, count_le, one_cases, one_other, one_same}
use Rattle.ceilings.specs.Ceilings.{ceiling_of, events_in}
use Rattle.products.specs.Products.{product_of, size_of}

-- ---- sums

total_last : (l : List ℕ) (n : ℕ) → total (l ++ (n ∷ [])) ≡ total l + n
total_last [] n = omega arith
total_last (a ∷ l) n = omega (arith, total_last l n)

map_last : (f : ℕ → ℕ) (l : List ℕ) (x : ℕ) → map f (l ++ (x ∷ [])) ≡ map f l ++ (f x ∷ [])
map_last f [] x = refl
map_last f (a ∷ l) x = ap (◌∷◌ (f a)) (map_last f l x)

-- the numbers below x + 1: what x has is added where the test passes
pub sum_next : (f : ℕ → ℕ) (p : ℕ → Bool) (x : ℕ) → total (map f (filter p (below (x + 1)))) ≡ total (map f (filter p (below x))) + cond (p x) (f x) 0
sum_next f p x = ap (λ k. total (map f (filter p (below k)))) (add-one x) ∙ ap (λ l. total (map f (filter p l))) (below_suc x) ∙ go (p x) refl
  where
    go : (c : Bool) → p x ≡ c → total (map f (filter p (below x ++ (x ∷ [])))) ≡ total (map f (filter p (below x))) + cond c (f x) 0
    go true e =
        ap (λ l. total (map f l)) (filter_last_yes p (below x) x (rw e tt))
        ∙ ap total (map_last f (filter p (below x)) x) ∙ total_last (map f (filter p (below x))) (f x)
    go false e = ap (λ l. total (map f l)) (filter_last_no p (below x) x (rw e tt)) ∙ omega arith

sum_zero : (l : List ℕ) → total (map (λ x. 0) l) ≡ 0
sum_zero [] = refl
sum_zero (a ∷ l) = omega (arith, sum_zero l)

sum_both : (f g : ℕ → ℕ) (l : List ℕ) → total (map (λ x. f x + g x) l) ≡ total (map f l) + total (map g l)
sum_both f g [] = refl
sum_both f g (a ∷ l) = omega (arith, sum_both f g l)

sum_agree : (f g : ℕ → ℕ) (l : List ℕ) → ((x : ℕ) → Mem x l → f x ≡ g x) → total (map f l) ≡ total (map g l)
sum_agree f g [] h = refl
sum_agree f g (a ∷ l) h = omega (arith, h a (Memᴰ.head refl), sum_agree f g l (λ x m. h x (Memᴰ.tail m)))

-- the letter a is not in the list, or in it once
ones_none : (a : ℕ) (l : List ℕ) → (Mem a l → ⊥) → total (map (one a) l) ≡ 0
ones_none a [] h = refl
ones_none a (b ∷ l) h = omega (arith, one_other a b (λ e. h (Memᴰ.head e)), ones_none a l (λ m. h (Memᴰ.tail m)))

ones_once : (a : ℕ) {l : List ℕ} → NoDup l → Mem a l → total (map (one a) l) ≡ 1
ones_once a d (Memᴰ.head {x = b} {xs = l} e) =
    let s : one a b ≡ 1 = subst (λ z. one a z ≡ 1) e (one_same a) in
    omega (arith, ones_none a l (λ m. d.0 (subst (λ z. Mem z l) e m)))
ones_once a d (Memᴰ.tail {x = b} {xs = l} m) =
    omega (arith, one_other a b (λ e. d.0 (subst (λ z. Mem z l) e m)), ones_once a d.1 m)

-- ---- the events of a group

-- each event of the group has one letter, which stands in the list once
sum_counts : (g : ℕ) (l : List ℕ) → NoDup l → ((a : ℕ) → Mem a l → T (bit g a)) → (w : List ℕ) → ((a : ℕ) → Mem a w → T (bit g a) → Mem a l)
    → total (map (count (λ a. a) w) l) ≡ events_in (λ a. a) g w
sum_counts g l d out [] into = sum_zero l
sum_counts g l d out (a ∷ w) into =
    let ih = sum_counts g l d out w (λ b m. into b (Memᴰ.tail m)) in
    ⊎_elim
    (λ t.
    let o = ones_once a d (into a (Memᴰ.head refl) t) in
    sum_both (one a) (count (λ a. a) w) l ∙ omega (arith, o, ih) ∙ sym (ap length (filter_yes (bit g) a w t)))
    (λ t.
    let o = ones_none a l (λ m. T_not (bit g a) t (out a m)) in
    sum_both (one a) (count (λ a. a) w) l ∙ omega (arith, o, ih) ∙ sym (ap length (filter_no (bit g) a w t)))
    (test (bit g a))

module _ (w : List ℕ) (h : T (letters_below (λ a. a) 16 w)) where
  -- the number of events in a group, and the ceiling, by the counts of the letters
  pub size_events : (g : ℕ) → size_of (map (count (λ a. a) w) (below 16)) g ≡ events_in (λ a. a) g w
  unfolding size_of
  size_events g =
      sum_agree (at (map (count (λ a. a) w) (below 16))) (count (λ a. a) w) (filter (bit g) (below 16))
      (λ x m. at_map (count (λ a. a) w) 16 0 x (below_at 16 x (filter_at (bit g) (below 16) m).0) ∙ ap (count (λ a. a) w) (zero-and x))
      ∙ sum_counts g (filter (bit g) (below 16)) (filter_nodup (bit g) (below 16) (range_nodup 16 0)) (λ a m. (filter_at (bit g) (below 16) m).1) w
      (λ a m t. filter_of (bit g) (below_of 16 a (ltb→lt a 16 (all_at (λ a. ltb a 16) h m))) t)
    where
      zero-and : (x : ℕ) → 0 + x ≡ x
      zero-and x = omega arith

  pub product_ceiling : (groups : List ℕ) → product_of (map (count (λ a. a) w) (below 16)) groups ≡ ceiling_of (λ a. a) groups w
  product_ceiling [] = refl
  product_ceiling (g ∷ groups) = rw (size_events g, product_ceiling groups)

-- ---- the pass over the log

-- one more of the letter a
bump_map : (f g : ℕ → ℕ) (n a : ℕ) → a < n → ((x : ℕ) → g x ≡ f x + one a x) → set (map f (below n)) a (at (map f (below n)) a + 1) ≡ map g (below n)
bump_map f g n a lt h = ext_get_or 0 (set (map f (below n)) a (at (map f (below n)) a + 1)) (map g (below n))
    (length-set (map f (below n)) a (at (map f (below n)) a + 1) ∙ length_range f n 0 ∙ sym (length_range g n 0)) (λ x k.
    let l : x < n = omega (arith, length-set (map f (below n)) a (at (map f (below n)) a + 1), length_range f n 0) in
    let fx : at (map f (below n)) x ≡ f x = at_map f n 0 x l ∙ ap f (zero-and x) in
    let gx : at (map g (below n)) x ≡ g x = at_map g n 0 x l ∙ ap g (zero-and x) in
    ⊎_elim
    (λ e.
    subst (λ y. get_or (set (map f (below n)) a (at (map f (below n)) a + 1)) y 0 ≡ at (map g (below n)) y) e
    (get_or-set_same (map f (below n)) a (at (map f (below n)) a + 1) 0 (omega (arith, length_range f n 0))
    ∙ omega (arith, at_map f n 0 a lt ∙ ap f (zero-and a), at_map g n 0 a lt ∙ ap g (zero-and a), h a, one_same a)))
    (λ z.
    get_or-set_other (map f (below n)) a x (at (map f (below n)) a + 1) 0 (λ e. let o = subst (λ y. one a y ≡ 1) (sym e) (one_same a) in omega (arith, z, o))
    ∙ omega (arith, fx, gx, h x, z))
    (one_cases a x))
  where
    zero-and : (x : ℕ) → 0 + x ≡ x
    zero-and x = omega arith

module _ (w : List ℕ) (i : ℕ) (h : i < length w) where
  count_next : (x : ℕ) → count (λ a. a) (take (i + 1) w) x ≡ count (λ a. a) (take i w) x + one (get_or w i 0) x
  count_next x =
      ap (λ l. count (λ a. a) l x) (ap (λ n. take n w) (add-one i) ∙ take-suc w i 0 h)
      ∙ count_append (λ _ _. true) (λ a. a) (take i w) (get_or w i 0 ∷ []) x ∙ omega arith

  -- the next letter is counted
  pub tally_next : get_or w i 0 < 16
      → set (map (count (λ a. a) (take i w)) (below 16)) (get_or w i 0) (at (map (count (λ a. a) (take i w)) (below 16)) (get_or w i 0) + 1) ≡ map (count (λ a. a) (take (i + 1) w)) (below 16)
  tally_next lt = bump_map (count (λ a. a) (take i w)) (count (λ a. a) (take (i + 1) w)) 16 (get_or w i 0) lt count_next

-- the letter that stands at place i is below n
pub letter_below : (w : List ℕ) (n i : ℕ) → T (letters_below (λ a. a) n w) → i < length w → get_or w i 0 < n
letter_below w n i h l = ltb→lt (get_or w i 0) n (all_at (λ a. ltb a n) h (mem_getd w i 0 l))

-- no count is above the log's length
pub few : (counts w : List ℕ) (a i : ℕ) → counts ≡ map (count (λ a. a) (take i w)) (below 16) → a < 16 → length w ≤ 4000 → get_or counts a 0 + 1 < 65536
few counts w a i e lt h =
    let f = count (λ a. a) (take i w) in
    let z : 0 + a ≡ a = omega arith in
    let q : get_or counts a 0 ≡ f a = ap (λ l. get_or l a 0) e ∙ at_map f 16 0 a lt ∙ ap f z in
    omega (arith, q, count_le (λ _ _. true) (λ a. a) (take i w) a, length-take i w)

-- ---- the product

-- a product of numbers from 1 on is from 1 on
pub product_one : (counts groups : List ℕ) → 1 ≤ product_of counts groups
product_one counts [] = omega arith
product_one counts (g ∷ groups) =
    let m = mul-le-mul {n₁ = 1} {m₁ = 1} {n₂ = suc (size_of counts g)} {m₂ = product_of counts groups} (omega arith) (product_one counts groups) in omega arith

-- a product that is passed stays passed; one that is not is told
pub product_high : (n rest whole : ℕ) → n * rest ≡ whole → 1 ≤ rest → 4294967295 < n → 4294967296 ≡ min whole 4294967296
product_high n rest whole e h l = let m = mul-le-mul {n₁ = n} {m₁ = 1} {n₂ = n} {m₂ = rest} (omega arith) h in omega (arith, mul-one n)

-- one group more
pub product_next : (counts groups : List ℕ) (n i g : ℕ) → i < length groups → get_or groups i 0 ≡ g → n * product_of counts (drop i groups) ≡ product_of counts groups
    → n * (size_of counts g + 1) * product_of counts (drop (i + 1) groups) ≡ product_of counts groups
product_next counts groups n i g h e q =
    mul_assoc n (size_of counts g + 1) (product_of counts (drop (i + 1) groups))
    ∙ ap (λ m. n * (m * product_of counts (drop (i + 1) groups))) (add-one (size_of counts g))
    ∙ ap (λ m. n * (suc (size_of counts g) * product_of counts (drop m groups))) (add-one i)
    ∙ ap (λ y. n * (suc (size_of counts y) * product_of counts (drop (suc i) groups))) (sym e)
    ∙ ap (λ l. n * product_of counts l) (sym (drop-cons groups i 0 h)) ∙ q
