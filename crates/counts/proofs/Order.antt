-- The order of counts: letter 0 first, the smaller first; lists in parts, and one number at a time.
use Rattle.std.proofs.Common.{◌≡◌, ℕ, ◌*◌, ◌^◌, ◌<◌, true, false, cond, not, T, eqb, ltb, ◌≢◌, List, [], ◌∷◌, ◌++◌, length, sym, refl, ap, ◌∙◌, subst, ⊎_elim, arith, eqb→eq, ltb→lt, lt→ltb, T_not}
use lib.Dec.{not_T}
use Rattle.profile.specs.Lists.{all, equal?, flat_map}
use Rattle.profile.specs.Orders.{no_later?}
use Rattle.profile.specs.Tables.{Layout}
use Rattle.profile.proofs.Lists.{equal_test, is_false, is_true, test}
use Rattle.profile.proofs.Sets.{t_eq}
use Rattle.theory.proofs.Earliest.{ge_of_test, no_later_antisym, no_later_refl}
use Rattle.theory.proofs.LetterOrder.{no_later_test}
use Rattle.theory.proofs.Packing.{rank, rank_lt_at, rank_lt_of}
use Rattle.counts.specs.Counts.{word_counts}
use Rattle.counts.proofs.Words.{word_counts_below, word_counts_inj, word_counts_length}

-- as many counts, more behind them: where the first are equal the others decide
pub no_later_append : (u v x y : List ℕ) → length u ≡ length v → no_later? (u ++ x) (v ++ y) ≡ cond (equal? u v) (no_later? x y) (no_later? u v)
no_later_append [] [] x y e = refl
no_later_append [] (b ∷ v) x y e = absurd (omega arith)
no_later_append (a ∷ u) [] x y e = absurd (omega arith)
no_later_append (a ∷ u) (b ∷ v) x y e = ⊎_elim (same (no_later_append u v x y (omega arith))) other (test (eqb a b))
  where
    same : no_later? (u ++ x) (v ++ y) ≡ cond (equal? u v) (no_later? x y) (no_later? u v) → T (eqb a b)
        → no_later? (a ∷ (u ++ x)) (b ∷ (v ++ y)) ≡ cond (equal? (a ∷ u) (b ∷ v)) (no_later? x y) (no_later? (a ∷ u) (b ∷ v))
    same ih t =
        let q : a ≡ b = eqb→eq a b t in
        let n : ltb a b ≡ false = is_false (ltb a b) (not_T (ltb a b) (λ s. let lt = ltb→lt a b s in omega arith)) in
        rw (is_true (eqb a b) t, n) ih

    other : T (not (eqb a b)) → no_later? (a ∷ (u ++ x)) (b ∷ (v ++ y)) ≡ cond (equal? (a ∷ u) (b ∷ v)) (no_later? x y) (no_later? (a ∷ u) (b ∷ v))
    other t = rw (is_false (eqb a b) t)

pub no_later_self : (u : List ℕ) → no_later? u u ≡ true
no_later_self u = is_true (no_later? u u) ((no_later_test u u).1 (no_later_refl u))

-- lists of as many counts, all below B, are in the order of their ranks
pub before_rank : (B : ℕ) (u v : List ℕ) → length u ≡ length v → T (all (λ n. ltb n B) u) → T (all (λ n. ltb n B) v)
    → not (no_later? v u) ≡ ltb (rank B u) (rank B v)
before_rank B u v l h k = t_eq (not (no_later? v u)) (ltb (rank B u) (rank B v))
    (λ t. lt→ltb (rank B u) (rank B v) (rank_lt_of B u v l h k
    (ge_of_test v u t, λ e. T_not (no_later? v u) t (subst (λ z. T (no_later? v z)) (sym e) ((no_later_test v v).1 (no_later_refl v))))))
    (λ t. let e = rank_lt_at B u v l h k (ltb→lt (rank B u) (rank B v) t) in
    not_T (no_later? v u) (λ s. e.1 (no_later_antisym e.0 ((no_later_test v u).0 s))))

-- ---- the counts of numbers, a number at a time
module _ (L : Layout) (v w : ℕ) (t u : List ℕ) where
  -- the first numbers are the same: the others decide
  pub no_later_same : v ≡ w → no_later? (flat_map (word_counts L) (v ∷ t)) (flat_map (word_counts L) (w ∷ u))
      ≡ no_later? (flat_map (word_counts L) t) (flat_map (word_counts L) u)
  no_later_same e =
      let x = flat_map (word_counts L) t in
      let y = flat_map (word_counts L) u in
      subst (λ z. no_later? (word_counts L v ++ x) (word_counts L z ++ y) ≡ no_later? x y) e
      (no_later_append (word_counts L v) (word_counts L v) x y refl
      ∙ ap (λ p. cond p (no_later? x y) (no_later? (word_counts L v) (word_counts L v)))
      (is_true (equal? (word_counts L v) (word_counts L v)) ((equal_test (word_counts L v) (word_counts L v)).1 refl)))

  -- the first numbers differ: they decide
  pub no_later_differ : v < 2 ^ (L.width * L.per) → w < 2 ^ (L.width * L.per) → v ≢ w
      → no_later? (flat_map (word_counts L) (v ∷ t)) (flat_map (word_counts L) (w ∷ u)) ≡ no_later? (word_counts L v) (word_counts L w)
  no_later_differ h k ne =
      let x = flat_map (word_counts L) t in
      let y = flat_map (word_counts L) u in
      no_later_append (word_counts L v) (word_counts L w) x y (word_counts_length L v ∙ sym (word_counts_length L w))
      ∙ ap (λ p. cond p (no_later? x y) (no_later? (word_counts L v) (word_counts L w)))
      (is_false (equal? (word_counts L v) (word_counts L w)) (not_T (equal? (word_counts L v) (word_counts L w)) (λ t.
      ne (word_counts_inj L v w h k ((equal_test (word_counts L v) (word_counts L w)).0 t)))))

-- the counts of two numbers, by rank
pub before_words : (L : Layout) (v w : ℕ)
    → not (no_later? (word_counts L w) (word_counts L v)) ≡ ltb (rank (2 ^ L.width) (word_counts L v)) (rank (2 ^ L.width) (word_counts L w))
before_words L v w = before_rank (2 ^ L.width) (word_counts L v) (word_counts L w) (word_counts_length L v ∙ sym (word_counts_length L w))
    (word_counts_below L v) (word_counts_below L w)
