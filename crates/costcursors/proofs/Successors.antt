-- Where a cursor stops among the records of given counts: at the record of the counts looked for, exactly when there is one. One more of a letter in each of two
-- records leaves their order, so each letter's cursor only moves on.
use mathlib.Core.Path.{◌≡◌, refl, sym, ◌∙◌, ap, ap₂, subst}
use mathlib.Core.Bool.{◌&&◌, not}
use mathlib.Core.Logic.{⊎_elim}
use mathlib.Core.List.{List, [], ◌∷◌, ◌++◌}
use Prim.Native.Nat.{ℕ, suc, ◌*◌, ◌≤◌, ◌<◌}
use native.Mathlib.Omega.{arith}
use lib.Dec.{T, T_not, not_T, ltb, ltb→lt, lt→ltb}
use lib.ListN.{length, get_or, length-set}
use Rattle.profile.specs.Orders.{Earlier, no_later?}
use Rattle.profile.specs.Prefixes.{at, ranked}
use Rattle.profile.specs.Tables.{layout, packed}
use Rattle.profile.proofs.Lists.{both, equal_test, fst_of, lt_or_le, mem_getd, snd_of}
use Rattle.theory.proofs.Levels.{bump}
use Rattle.theory.proofs.LetterOrder.{earlier_irrefl, earlier_test, earlier_trans}
use Rattle.theory.proofs.Packing.{packed_inj}
use Rattle.counts.specs.Counts.{add_count, counts_in}
use Rattle.counts.proofs.Packed.{Small, add_packed, counts_in_packed, same_tail, total_packed, zeros}
use Rattle.records.specs.Records.{counts_at, records_in}
use Rattle.search.specs.Search.{has?, stands_before?}
use Rattle.costcursors.specs.Cursors.{High, Lists, Low, Splits}
use Rattle.costcursors.proofs.Bumps.{bump_earlier}

-- what stands before in the numbers is what stands before by total and counts
before_is : (k : ℕ) (c d : List ℕ) → k ≤ layout.per * layout.numbers → length c ≡ k → length d ≡ k → Small layout c → Small layout d
    → stands_before? (packed layout c) (packed layout d) ≡ not (no_later? (ranked d) (ranked c))
before_is k c d most e q small small' = ap not (ap₂ no_later? (rank d q small') (rank c e small) ∙ same_tail (ranked d) (ranked c) (zeros layout k) (ap suc (q ∙ sym e)))
  where
    rank : (c : List ℕ) → length c ≡ k → Small layout c → ranked (counts_in layout (packed layout c)) ≡ ranked c ++ zeros layout k
    rank c e small =
        let fits : length c ≤ layout.per * layout.numbers = omega (arith, most, e) in
        ap₂ ◌∷◌ (total_packed layout c fits small) (counts_in_packed layout c fits small ∙ ap (λ n. c ++ zeros layout n) e)

abbrev rank_of : List ℕ → List ℕ
rank_of c = ranked (counts_in layout c)

before_irrefl : (c : List ℕ) → T (stands_before? c c) → ⊥
before_irrefl c t = earlier_irrefl (rank_of c) ((earlier_test (rank_of c) (rank_of c)).0 t)

before_trans : (c d e : List ℕ) → T (stands_before? c d) → T (stands_before? d e) → T (stands_before? c e)
before_trans c d e x y = (earlier_test (rank_of c) (rank_of e)).1
    (earlier_trans ((earlier_test (rank_of c) (rank_of d)).0 x) ((earlier_test (rank_of d) (rank_of e)).0 y))

module _ (t : List ℕ) (k : ℕ) (l : List (List ℕ)) (h : Lists t k l) where
  -- what stands there has the counts
  pub successor_at : (c : List ℕ) (r : ℕ) → length c ≡ k → Small layout c → T (ltb r (records_in t) && has? t (packed layout c) r)
      → (r < length l) × (get_or l r [] ≡ c)
  successor_at c r e small y =
      let lt : r < length l = subst (λ n. r < n) h.many (ltb→lt r (records_in t) (fst_of (ltb r (records_in t)) (has? t (packed layout c) r) y)) in
      let same = (equal_test (counts_at t r) (packed layout c)).0 (snd_of (ltb r (records_in t)) (has? t (packed layout c) r) y) in
      let d = get_or l r [] in
      let m = mem_getd l r [] lt in
      (lt, packed_inj layout d c (h.long d m ∙ sym e) (omega (arith, h.long d m, h.letters)) (h.small d m) small (sym (h.counts r lt) ∙ same))

  -- and the counts of a record stand there
  pub successor_of : (i r : ℕ) → i < length l → Splits t (packed layout (get_or l i [])) r
      → (r ≡ i) × T (ltb r (records_in t) && has? t (packed layout (get_or l i [])) r)
  successor_of i r lt s = (e, both (ltb r (records_in t)) (has? t c r) (lt→ltb r (records_in t) (omega (arith, e, inside))) ((equal_test (counts_at t r) c).1 (ap (counts_at t) e ∙ own)))
    where
      c : List ℕ
      c = packed layout (get_or l i [])

      own : counts_at t i ≡ packed layout (get_or l i [])
      own = h.counts i lt

      inside : i < records_in t
      inside = subst (λ n. i < n) (sym h.many) lt

      e : r ≡ i
      e = ⊎_elim
          (λ less. absurd (T_not (stands_before? (counts_at t r) (packed layout (get_or l i []))) (s.high r (omega arith) (omega (arith, less, inside)))
          (subst (λ v. T (stands_before? (counts_at t r) v)) own (h.ordered r i less inside))))
          (λ ge. ⊎_elim
          (λ less. absurd (before_irrefl (packed layout (get_or l i [])) (subst (λ v. T (stands_before? v (packed layout (get_or l i [])))) own (s.low i less))))
          (λ le. omega (arith, ge, le)) (lt_or_le i r)) (lt_or_le r i)

  -- record i with one x more stands before record j with one x more, for i before j
  module _ (i j x : ℕ) (before : i < j) (lt : j < length l) (inside : x < k) (small-i : Small layout (bump (get_or l i []) x)) (small-j : Small layout (bump (get_or l j []) x)) where
    next_before : T (stands_before? (packed layout (bump (get_or l i []) x)) (packed layout (bump (get_or l j []) x)))
    next_before =
        let c = get_or l i [] in
        let d = get_or l j [] in
        let m = mem_getd l i [] (omega (arith, before, lt)) in
        let n = mem_getd l j [] lt in
        let most : k ≤ layout.per * layout.numbers = omega (arith, h.letters) in
        let o : T (stands_before? (packed layout c) (packed layout d)) =
        subst T (ap₂ stands_before? (h.counts i (omega (arith, before, lt))) (h.counts j lt)) (h.ordered i j before (subst (λ n. j < n) (sym h.many) lt)) in
        let earlier : Earlier (ranked c) (ranked d) =
        (earlier_test (ranked c) (ranked d)).0 (subst T (before_is k c d most (h.long c m) (h.long d n) (h.small c m) (h.small d n)) o) in
        subst T (sym (before_is k (bump c x) (bump d x) most (length-set c x (suc (at c x)) ∙ h.long c m) (length-set d x (suc (at d x)) ∙ h.long d n) small-i small-j))
        ((earlier_test (ranked (bump c x)) (ranked (bump d x))).1
        (bump_earlier c d x (h.long c m ∙ sym (h.long d n)) (omega (arith, inside, h.long c m)) earlier))

    -- so a cursor that stands right for one may go on from there for the other
    pub low_on : (r : ℕ) → Low t (packed layout (bump (get_or l i []) x)) r → Low t (packed layout (bump (get_or l j []) x)) r
    low_on r low n less = before_trans (counts_at t n) (packed layout (bump (get_or l i []) x)) (packed layout (bump (get_or l j []) x)) (low n less) next_before

    pub high_on : (r : ℕ) → High t (packed layout (bump (get_or l j []) x)) r → High t (packed layout (bump (get_or l i []) x)) r
    high_on r high n ge less = not_T (stands_before? (counts_at t n) (packed layout (bump (get_or l i []) x))) (λ y.
        T_not (stands_before? (counts_at t n) (packed layout (bump (get_or l j []) x))) (high n ge less)
        (before_trans (counts_at t n) (packed layout (bump (get_or l i []) x)) (packed layout (bump (get_or l j []) x)) y next_before))

  -- one more of letter x in the numbers of record j
  pub next_packed : (j x : ℕ) → j < length l → x < k → Small layout (bump (get_or l j []) x) → add_count layout (counts_at t j) x ≡ packed layout (bump (get_or l j []) x)
  next_packed j x lt inside small =
      let c = get_or l j [] in
      let m = mem_getd l j [] lt in
      ap (λ v. add_count layout v x) (h.counts j lt) ∙ add_packed layout c x refl (omega (arith, inside, h.long c m)) (omega (arith, h.letters, h.long c m)) small
