-- A test that holds of the first places and of no later one; the search among records in order.
use mathlib.Core.Path.{◌≡◌, refl, sym, ◌∙◌, ap, subst}
use mathlib.Core.Bool.{Bool, true, false, not, cond}
use mathlib.Core.Logic.{◌⊎◌, inl, inr, ⊎_elim, ◌≢◌}
use mathlib.Core.List.{List, ◌∷◌}
use Prim.Native.Nat.{ℕ, zero, suc, ◌+◌, ◌-◌, ◌≤◌, ◌<◌}
use native.Mathlib.Omega.{arith}
use borrow.Author.Tests.{eq-eqb, le-ltb, ne_eqb}
use Rattle.std.specs.Prelude.{Ok, Err}
use lib.Dec.{T, T_not, not_T}
use lib.ListN.{length}
use Rattle.profile.specs.Lists.{any, below, filter, first_place, range}
use Rattle.profile.specs.Orders.{no_later?}
use Rattle.profile.specs.Prefixes.{ranked}
use Rattle.profile.specs.Tables.{layout}
use Rattle.profile.proofs.Lists.{any_at, any_of, below_at, below_of, equal_test, filter_no, filter_yes, is_false, is_true, lt_or_le}
use Rattle.theory.proofs.LetterOrder.{earlier_irrefl, earlier_test, earlier_trans}
use Rattle.counts.specs.Counts.{counts_in}
use Rattle.records.specs.Records.{counts_at, records_in}
use Rattle.search.specs.Search.{Ordered, found_in, has?, records_before, stands_before?}

-- ---- places

-- f holds of the places below a and of none from a on
filter_first : (f : ℕ → Bool) (n b a : ℕ) → a ≤ b + n → ((j : ℕ) → j < a → T (f j)) → ((j : ℕ) → a ≤ j → j < b + n → T (not (f j)))
    → length (filter f (range b n)) ≡ a - b
filter_first f zero b a h holds fails = omega arith
filter_first f (suc n) b a h holds fails = go (lt_or_le b a)
    (filter_first f n (suc b) a (omega arith) holds (λ j x y. fails j x (omega arith)))
  where
    go : (b < a) ⊎ (a ≤ b) → length (filter f (range (suc b) n)) ≡ a - suc b → length (filter f (range b (suc n))) ≡ a - b
    go (inl lt) ih = omega (arith, ap length (filter_yes f b (range (suc b) n) (holds b lt)), ih)
    go (inr le) ih = omega (arith, ap length (filter_no f b (range (suc b) n) (fails b le (omega arith))), ih)

-- the first place that passes is a
first_is : (f : ℕ → Bool) (n b a : ℕ) → b ≤ a → a < b + n → T (f a) → ((j : ℕ) → j < a → T (not (f j))) → first_place f (range b n) ≡ a - b
first_is f zero b a l h t fails = absurd (omega arith)
first_is f (suc n) b a l h t fails = go (lt_or_le b a) (first_is f n (suc b) a)
  where
    go : (b < a) ⊎ (a ≤ b) → (suc b ≤ a → a < suc b + n → T (f a) → ((j : ℕ) → j < a → T (not (f j))) → first_place f (range (suc b) n) ≡ a - suc b)
        → first_place f (range b (suc n)) ≡ a - b
    go (inl lt) ih = let e = is_false (f b) (fails b lt) in let q : a - b ≡ suc (a - suc b) = omega arith in rw (e, first_place) (ap suc (ih lt (omega arith) t fails) ∙ sym q)
    go (inr le) ih = let q : a ≡ b = omega arith in let e = is_true (f b) (subst (λ z. T (f z)) q t) in let z : 0 ≡ a - b = omega arith in rw (e, first_place) z

-- ---- what stands before

-- the total and the counts
abbrev rank_of : List ℕ → List ℕ
rank_of c = ranked (counts_in layout c)

before_irrefl : (c : List ℕ) → T (not (stands_before? c c))
before_irrefl c = not_T (stands_before? c c) (λ t. earlier_irrefl (rank_of c) ((earlier_test (rank_of c) (rank_of c)).0 t))

before_trans : (c d e : List ℕ) → T (stands_before? c d) → T (stands_before? d e) → T (stands_before? c e)
before_trans c d e x y = (earlier_test (rank_of c) (rank_of e)).1
    (earlier_trans ((earlier_test (rank_of c) (rank_of d)).0 x) ((earlier_test (rank_of d) (rank_of e)).0 y))

before_asym : (c d : List ℕ) → T (stands_before? c d) → T (not (stands_before? d c))
before_asym c d x = not_T (stands_before? d c) (λ y. T_not (stands_before? c c) (before_irrefl c) (before_trans c d c x y))

-- ---- records in order

module _ (t c : List ℕ) where
  -- all records before `low` stand before c, none from `high` on
  abbrev pub Between : ℕ → ℕ → Type 0
  Between low high = ((j : ℕ) → j < low → T (stands_before? (counts_at t j) c)) × ((j : ℕ) → high ≤ j → j < records_in t → T (not (stands_before? (counts_at t j) c)))

  pub between_start : (n : ℕ) → records_in t ≤ n → Between 0 n
  between_start n h = ((λ j l. absurd (omega arith)), λ j l k. absurd (omega arith))

  -- where the two meet, so many records stand before c
  pub between_end : (n : ℕ) → n ≤ records_in t → Between n n → n ≡ records_before t c
  between_end n h b = sym (filter_first (λ j. stands_before? (counts_at t j) c) (records_in t) 0 n (omega arith) b.0 (λ j x y. b.1 j x (omega arith)) ∙ back)
    where
      back : n - 0 ≡ n
      back = omega arith

  module _ (o : Ordered t) where
    pub between_up : (low high m : ℕ) → Between low high → m < records_in t → T (stands_before? (counts_at t m) c) → Between (suc m) high
    between_up low high m b h y = (
      (λ j l. ⊎_elim (λ lt. before_trans (counts_at t j) (counts_at t m) c (o j m lt h) y)
          (λ le. let e : m ≡ j = omega arith in subst (λ z. T (stands_before? (counts_at t z) c)) e y) (lt_or_le j m)),
      b.1,
    )

    pub between_down : (low high m : ℕ) → Between low high → T (not (stands_before? (counts_at t m) c)) → Between low m
    between_down low high m b n = (
      b.0,
      (λ j l h. ⊎_elim
          (λ lt. not_T (stands_before? (counts_at t j) c) (λ y. T_not (stands_before? (counts_at t m) c) n (before_trans (counts_at t m) (counts_at t j) c (o m j lt h) y)))
          (λ le. let e : m ≡ j = omega arith in subst (λ z. T (not (stands_before? (counts_at t z) c))) e n) (lt_or_le m j)),
    )

-- ---- what is found

-- where no record has the counts
pub found_absent : (t c : List ℕ) → ((j : ℕ) → j < records_in t → counts_at t j ≢ c) → found_in t c ≡ Err (records_before t c)
found_absent t c h = ap (λ b. cond b (Ok (first_place (has? t c) (below (records_in t)))) (Err (records_before t c)))
    (is_false (any (has? t c) (below (records_in t))) (not_T (any (has? t c) (below (records_in t))) (λ y.
    let x = any_at (has? t c) (below (records_in t)) y in
    h x.0 (below_at (records_in t) x.0 x.1) ((equal_test (counts_at t x.0) c).0 x.2))))

module _ (t : List ℕ) (o : Ordered t) (j : ℕ) (h : j < records_in t) where
  -- so many stand before record j as there are places before it
  pub before_record : records_before t (counts_at t j) ≡ j
  before_record = sym (between_end t (counts_at t j) j (omega arith) (
    (λ i l. o i j l h),
    λ i l k. ⊎_elim (λ lt. before_asym (counts_at t j) (counts_at t i) (o j i lt k))
        (λ le. let e : j ≡ i = omega arith in subst (λ z. T (not (stands_before? (counts_at t z) (counts_at t j)))) e (before_irrefl (counts_at t j))) (lt_or_le j i),
  ))

  -- record j is found by its counts
  pub found_record : found_in t (counts_at t j) ≡ Ok j
  found_record =
      let c = counts_at t j in
      let y = (equal_test c c).1 refl in
      ap (λ b. cond b (Ok (first_place (has? t c) (below (records_in t)))) (Err (records_before t c)))
      (is_true (any (has? t c) (below (records_in t))) (any_of (has? t c) (below_of (records_in t) j h) y))
      ∙ ap Ok (first_is (has? t c) (records_in t) 0 j (omega arith) (omega arith) y
      (λ i l. not_T (has? t c i) (λ z.
      let e = (equal_test (counts_at t i) c).0 z in
      T_not (stands_before? c c) (before_irrefl c) (subst (λ d. T (stands_before? d c)) e (o i j l h)))) ∙ back)
    where
      back : j - 0 ≡ j
      back = omega arith

-- the search at the number of records before c
module _ (t c : List ℕ) (o : Ordered t) (a : ℕ) (e : a ≡ records_before t c) where
  pub found_here : a < records_in t → has? t c a ≡ true → Ok a ≡ found_in t c
  found_here h q = let y : T (has? t c a) = rw q tt in sym (found_record t o a h) ∙ ap (found_in t) ((equal_test (counts_at t a) c).0 y)

  pub found_nowhere : (a < records_in t → has? t c a ≡ false) → Err a ≡ found_in t c
  found_nowhere h = ap Err e ∙ sym (found_absent t c (λ j l q.
      let i : j ≡ a = sym (before_record t o j l) ∙ ap (records_before t) q ∙ sym e in
      let y : T (has? t c a) = subst (λ z. T (has? t c z)) i ((equal_test (counts_at t j) c).1 q) in
      rw (h (subst (λ z. z < records_in t) i l)) at y))

-- ---- totals before counts

pub before_less : (m n : ℕ) (u v : List ℕ) → m < n → not (no_later? (n ∷ v) (m ∷ u)) ≡ true
before_less m n u v h = rw (le-ltb n m (omega arith), ne_eqb n m (λ e. omega arith))

pub before_same : (m n : ℕ) (u v : List ℕ) → m ≡ n → not (no_later? (n ∷ v) (m ∷ u)) ≡ not (no_later? v u)
before_same m n u v e = rw (le-ltb n m (omega arith), eq-eqb n m (sym e))
