-- A total's part of the table, as the list of its counts: what the least, the choice and the union of the code are over that list. C has the counts of
-- the total, in any order.
use mathlib.Core.Path.{◌≡◌, refl, sym, ◌∙◌, ap, ap₂, subst}
use mathlib.Core.Bool.{Bool, true, false, ◌&&◌, not, cond}
use mathlib.Core.Logic.{◌⊎◌, inl, inr, ⊎_elim}
use mathlib.Core.List.{List, []}
use mathlib.Core.Option.{Option, none, some, some-injective}
use Prim.Native.Nat.{ℕ, zero, suc, ◌^◌, ◌≤◌, ◌<◌}
use native.Mathlib.Numerals.{add-one}
use native.Mathlib.Omega.{arith}
use borrow.Author.Tests.{le-ltb, lt-ltb}
use lib.Bits.{bit_or, or_zero_l}
use lib.Dec.{T, not_T}
use lib.ListN.{length, get_or, length-set}
use Rattle.profile.specs.Limits.{most_letters}
use Rattle.profile.specs.Lists.{Mem, below, equal?, filter, flat_map}
use Rattle.profile.specs.Orders.{NoLater, no_later?}
use Rattle.profile.specs.Traces.{bit}
use Rattle.profile.specs.Automata.{forward_step, union}
use Rattle.profile.specs.Prefixes.{at}
use Rattle.profile.specs.Tables.{layout, packed}
use Rattle.profile.proofs.Lists.{below_at, equal_test, filter_agree, filter_at, filter_none, is_false, is_true, lt_or_le, mem_getd, test}
use Rattle.theory.proofs.Earliest.{ge_of_test, no_later_antisym, no_later_of_test}
use Rattle.theory.proofs.Levels.{bump}
use Rattle.theory.proofs.Merge.{hits, hits_at}
use Rattle.counts.specs.Counts.{add_count, before?}
use Rattle.counts.proofs.Packed.{Small, add_packed, before_packed, same_packed}
use Rattle.records.specs.Records.{forward_at, records_in}
use Rattle.records.proofs.Drafts.{counts_of_draft, forward_of_draft}
use Rattle.cursors.proofs.Levels.{level_records, level_whole}
use Rattle.merge.specs.Merge.{better, candidate, givers, grown, joined, least_of, united}
use Rattle.merge.proofs.Givers.{better_none}
use Rattle.theory.proofs.SetLoops.{union_next}
use Rattle.profile.proofs.Sets.{union_agree}
use Rattle.records.specs.Drafts.{draft}

module _ (f g : List ℕ → ℕ) (C : List (List ℕ)) (t : List ℕ) (drafts : t ≡ flat_map (draft f g) C) where
  -- ---- what a cursor that is not at the end gives
  module _ (cs : List ℕ) (x : ℕ) where
    candidate_end : length C ≤ at cs x → candidate t (at cs x) x ≡ none
    candidate_end le = ap (λ b. cond b (some (grown t (at cs x) x)) none) (le-ltb (at cs x) (records_in t) (omega (arith, level_records f g C t drafts)))

    -- the counts at the cursor have a letter x, and one more keeps each count in its bits
    module _ (lt : at cs x < length C) (h : x < length (get_or C (at cs x) [])) (few : length (get_or C (at cs x) []) ≤ most_letters)
        (small : Small layout (bump (get_or C (at cs x) []) x)) where
      given : grown t (at cs x) x ≡ packed layout (bump (get_or C (at cs x) []) x)
      given =
          ap (λ w. add_count layout w x) (counts_of_draft f g C t [] (level_whole f g C t drafts) (at cs x) lt) ∙ add_packed layout (get_or C (at cs x) []) x refl h few small

      candidate_given : candidate t (at cs x) x ≡ some (packed layout (bump (get_or C (at cs x) []) x))
      candidate_given =
          ap (λ b. cond b (some (grown t (at cs x) x)) none) (lt-ltb (at cs x) (records_in t) (omega (arith, level_records f g C t drafts))) ∙ ap (λ w. some w) given

      same_given : (e : List ℕ) → length e ≡ length (get_or C (at cs x) []) → Small layout e
          → equal? (packed layout (bump (get_or C (at cs x) []) x)) (packed layout e) ≡ hits C x e (at cs x)
      same_given e n k =
          let d = bump (get_or C (at cs x) []) x in
          let l : length d ≡ length (get_or C (at cs x) []) = length-set (get_or C (at cs x) []) x (suc (at (get_or C (at cs x) []) x)) in
          same_packed layout d e (omega arith) (omega arith) small k ∙ sym (ap (λ b. b && equal? d e) (lt-ltb (at cs x) (length C) lt))

  -- where all cursors are at the end there is no least
  pub level_least_none : (cs : List ℕ) (k : ℕ) → ((x : ℕ) → x < k → length C ≤ at cs x) → least_of t k cs ≡ none
  level_least_none cs zero over = refl
  level_least_none cs (suc k) over =
      ap₂ better (level_least_none cs k (λ x lt. over x (omega arith))) (candidate_end cs k (over k (omega arith)))

  -- ---- the counts of C have k letters, and so have the counts e
  module _ (k : ℕ) (few : k ≤ most_letters) (sizes : (c : List ℕ) → Mem c C → length c ≡ k) (cs : List ℕ)
      (stands : (x : ℕ) → x < k → at cs x < length C → Small layout (bump (get_or C (at cs x) []) x)) (e : List ℕ) (size : length e ≡ k)
      (small : Small layout e) where
    size_at : (x : ℕ) → at cs x < length C → length (get_or C (at cs x) []) ≡ k
    size_at x lt = sizes (get_or C (at cs x) []) (mem_getd C (at cs x) [] lt)

    -- G has the letters whose cursors hit e: the union over them
    pub level_united : (G : ℕ) → ((x : ℕ) → x < k → bit G x ≡ hits C x e (at cs x)) → (s : ℕ) (moves : List ℕ) → united k s moves t cs G
        ≡ union (λ x. forward_step k s moves (f (get_or C (at cs x) [])) x) (filter (λ x. hits C x e (at cs x)) (below k))
    level_united G agree s moves =
        ap (union (λ x. forward_step k s moves (forward_at t (at cs x)) x))
        (filter_agree (bit G) (λ x. hits C x e (at cs x)) (below k) (λ x m. agree x (below_at k x m)))
        ∙ union_agree (λ x. forward_step k s moves (forward_at t (at cs x)) x) (λ x. forward_step k s moves (f (get_or C (at cs x) [])) x)
        (filter (λ x. hits C x e (at cs x)) (below k))
        (λ x m.
        let n = filter_at (λ x. hits C x e (at cs x)) (below k) m in
        ap (λ S. forward_step k s moves S x) (forward_of_draft f g C t [] (level_whole f g C t drafts) (at cs x) (hits_at C x e (at cs x) n.1).0))

    -- no cursor gives counts that are earlier than e
    module _ (later : (x : ℕ) → x < k → at cs x < length C → NoLater e (bump (get_or C (at cs x) []) x)) where
      -- o is the least for the letters below n: none, or counts that are e as soon as a cursor hits e
      Reached : ℕ → Option (List ℕ) → Type 0
      Reached n o = ((o ≡ none) × ((y : ℕ) → y < n → length C ≤ at cs y))
          ⊎ ((d : List ℕ) × (o ≡ some (packed layout d)) × (length d ≡ k) × Small layout d × NoLater e d
          × ((y : ℕ) → y < n → T (hits C y e (at cs y)) → d ≡ e))

      -- a letter more: its cursor is at the end, or gives counts d
      step_end : (n : ℕ) (o : Option (List ℕ)) → length C ≤ at cs n → Reached n o → Reached (suc n) (better o (candidate t (at cs n) n))
      unfolding Reached
      step_end n o le (inl r) = inl (
        ap₂ better r.0 (candidate_end cs n le),
        λ y lt. ⊎_elim (λ l. r.1 y l) (λ g. let q : n ≡ y = omega arith in subst (λ z. length C ≤ at cs z) q le) (lt_or_le y n),
      )
      step_end n o le (inr r) = inr (
        r.0,
        ap₂ better r.1 (candidate_end cs n le),
        r.2,
        r.3,
        r.4,
        λ y lt h. ⊎_elim (λ l. r.5 y l h)
            (λ g. let q : n ≡ y = omega arith in absurd (omega (arith, (hits_at C y e (at cs y) h).0, subst (λ z. length C ≤ at cs z) q le))) (lt_or_le y n),
      )

      step_given : (n : ℕ) (o : Option (List ℕ)) → n < k → at cs n < length C → Reached n o → Reached (suc n) (better o (candidate t (at cs n) n))
      unfolding Reached
      step_given n o h lt r = go r
        where
          d : List ℕ
          d = bump (get_or C (at cs n) []) n

          counts : candidate t (at cs n) n ≡ some (packed layout d)
          counts = candidate_given cs n lt (omega (arith, size_at n lt)) (omega (arith, size_at n lt)) (stands n h lt)

          long : length d ≡ k
          long = length-set (get_or C (at cs n) []) n (suc (at (get_or C (at cs n) []) n)) ∙ size_at n lt

          own : (y : ℕ) → n ≤ y → y < suc n → T (hits C y e (at cs y)) → d ≡ e
          own y g l q = let z : y ≡ n = omega arith in (hits_at C n e (at cs n) (subst (λ z. T (hits C z e (at cs z))) z q)).1

          go : Reached n o → Reached (suc n) (better o (candidate t (at cs n) n))
          go (inl r) = inr (
            d,
            ap₂ better r.0 counts,
            long,
            stands n h lt,
            later n h lt,
            λ y l q. ⊎_elim (λ i. absurd (omega (arith, (hits_at C y e (at cs y) q).0, r.1 y i))) (λ g. own y g l q) (lt_or_le y n),
          )
          go (inr r) = ⊎_elim
              (λ p. inr (
                r.0,
                ap₂ better r.1 counts ∙ ap (λ b. some (cond b (packed layout d) (packed layout r.0))) (order ∙ ap not (is_true (no_later? r.0 d) p)),
                r.2,
                r.3,
                r.4,
                λ y l q. ⊎_elim (λ i. r.5 y i q)
                    (λ g. no_later_antisym (subst (NoLater r.0) (own y g l q) (no_later_of_test r.0 d p)) r.4) (lt_or_le y n),
              ))
              (λ p. inr (
                d,
                ap₂ better r.1 counts ∙ ap (λ b. some (cond b (packed layout d) (packed layout r.0))) (order ∙ ap not (is_false (no_later? r.0 d) p)),
                long,
                stands n h lt,
                later n h lt,
                λ y l q. ⊎_elim (λ i. no_later_antisym (subst (NoLater d) (r.5 y i q) (ge_of_test r.0 d p)) (later n h lt))
                    (λ g. own y g l q) (lt_or_le y n),
              ))
              (test (no_later? r.0 d))
            where
              order : before? layout (packed layout d) (packed layout r.0) ≡ not (no_later? r.0 d)
              order = before_packed layout d r.0 (long ∙ sym r.2) (omega (arith, long)) (stands n h lt) r.3

      reached : (n : ℕ) → n ≤ k → Reached n (least_of t n cs)
      unfolding Reached
      reached zero le = inl (refl, λ y lt. absurd (omega arith))
      reached (suc n) le = ⊎_elim (λ lt. step_given n (least_of t n cs) (omega arith) lt (reached n (omega arith)))
          (λ end. step_end n (least_of t n cs) end (reached n (omega arith))) (lt_or_le (at cs n) (length C))

      -- where a cursor hits e, the least is e
      pub level_least : (x : ℕ) → x < k → T (hits C x e (at cs x)) → least_of t k cs ≡ some (packed layout e)
      unfolding Reached
      level_least x h q = go (reached k (omega arith))
        where
          go : Reached k (least_of t k cs) → least_of t k cs ≡ some (packed layout e)
          go (inl r) = absurd (omega (arith, (hits_at C x e (at cs x) q).0, r.1 x h))
          go (inr r) = r.1 ∙ ap (λ d. some (packed layout d)) (r.5 x h q)

      -- ---- the letters that are found with the least: the cursors of those below n that hit e
      abbrev hit : ℕ → Bool
      hit y = hits C y e (at cs y)

      abbrev letters : ℕ → ℕ
      letters n = union (λ y. 2 ^ y) (filter hit (below n))

      letters_next : (n : ℕ) (c : Bool) → hit n ≡ c → letters (suc n) ≡ cond c (bit_or (letters n) (2 ^ n)) (letters n)
      letters_next n c q = ap letters (sym (add-one n)) ∙ union_next (λ y. 2 ^ y) hit n c q

      letters_one : (n : ℕ) → hit n ≡ true → ((y : ℕ) → y < n → T (hit y) → ⊥) → 2 ^ n ≡ letters (suc n)
      letters_one n q away = sym (letters_next n true q
          ∙ ap (λ S. bit_or S (2 ^ n)) (ap (union (λ y. 2 ^ y)) (filter_none hit (below n) (λ y m. away y (below_at n y m)))) ∙ or_zero_l (2 ^ n))

      -- a letter with the counts c comes to S, those for the least v
      settled : (n S : ℕ) (c v : List ℕ) (same before : Bool) → equal? c v ≡ same → before? layout c v ≡ before → some (cond before c v) ≡ some (packed layout e)
          → equal? c (packed layout e) ≡ hit n → (v ≡ packed layout e → S ≡ letters n) → ((y : ℕ) → y < n → T (hit y) → v ≡ packed layout e)
          → cond same (bit_or S (2 ^ n)) (cond before (2 ^ n) S) ≡ letters (suc n)
      settled n S c v true before q o l h ih away =
          let z = (equal_test c v).0 (subst T (sym q) tt) in
          let u : v ≡ packed layout e = either before (some-injective (cond before c v) (packed layout e) l) z in
          ap (λ S. bit_or S (2 ^ n)) (ih u) ∙ sym (letters_next n true (sym h ∙ is_true (equal? c (packed layout e)) ((equal_test c (packed layout e)).1 (z ∙ u))))
        where
          either : (b : Bool) → cond b c v ≡ packed layout e → c ≡ v → v ≡ packed layout e
          either true r z = sym z ∙ r
          either false r z = r
      settled n S c v false true q o l h ih away =
          let z = some-injective c (packed layout e) l in
          letters_one n (sym h ∙ is_true (equal? c (packed layout e)) ((equal_test c (packed layout e)).1 z))
          (λ y lt t. subst T q ((equal_test c v).1 (z ∙ sym (away y lt t))))
      settled n S c v false false q o l h ih away =
          let z = some-injective v (packed layout e) l in
          ih z ∙ sym (letters_next n false (sym h ∙ ap (equal? c) (sym z) ∙ q))

      step_givers : (n : ℕ) → n < k → (least_of t n cs ≡ some (packed layout e) → givers t n cs ≡ letters n) → least_of t (suc n) cs ≡ some (packed layout e)
          → givers t (suc n) cs ≡ letters (suc n)
      unfolding Reached
      step_givers n h ih l = ⊎_elim inside end (lt_or_le (at cs n) (length C))
        where
          end : length C ≤ at cs n → givers t (suc n) cs ≡ letters (suc n)
          end g =
              ap (λ o. joined o (least_of t n cs) (givers t n cs) n) (candidate_end cs n g)
              ∙ ih (sym (better_none (least_of t n cs)) ∙ sym (ap (better (least_of t n cs)) (candidate_end cs n g)) ∙ l)
              ∙ sym (letters_next n false (is_false (hit n) (not_T (hit n) (λ h. omega (arith, (hits_at C n e (at cs n) h).0)))))

          inside : at cs n < length C → givers t (suc n) cs ≡ letters (suc n)
          inside lt = go (reached n (omega arith))
            where
              d : List ℕ
              d = packed layout (bump (get_or C (at cs n) []) n)

              counts : candidate t (at cs n) n ≡ some d
              counts = candidate_given cs n lt (omega (arith, size_at n lt)) (omega (arith, size_at n lt)) (stands n h lt)

              same : equal? d (packed layout e) ≡ hit n
              same = same_given cs n lt (omega (arith, size_at n lt)) (omega (arith, size_at n lt)) (stands n h lt) e (size ∙ sym (size_at n lt)) small

              go : Reached n (least_of t n cs) → givers t (suc n) cs ≡ letters (suc n)
              go (inl r) =
                  let z = some-injective d (packed layout e) (sym (ap₂ better r.0 counts) ∙ l) in
                  ap₂ (λ o v. joined o v (givers t n cs) n) counts r.0
                  ∙ letters_one n (sym same ∙ is_true (equal? d (packed layout e)) ((equal_test d (packed layout e)).1 z))
                  (λ y lt t. omega (arith, (hits_at C y e (at cs y) t).0, r.1 y lt))
              go (inr r) =
                  ap₂ (λ o v. joined o v (givers t n cs) n) counts r.1
                  ∙ settled n (givers t n cs) d (packed layout r.0) (equal? d (packed layout r.0)) (before? layout d (packed layout r.0)) refl refl
                  (sym (ap₂ better r.1 counts) ∙ l) same (λ u. ih (r.1 ∙ ap (λ v. some v) u)) (λ y lt t. ap (packed layout) (r.5 y lt t))

      level_givers : (n : ℕ) → n ≤ k → least_of t n cs ≡ some (packed layout e) → givers t n cs ≡ letters n
      level_givers zero le l = refl
      level_givers (suc n) le l = step_givers n (omega arith) (level_givers n (omega arith)) l

      -- where a cursor hits e, they are those of all such cursors
      pub level_letters : (x : ℕ) → x < k → T (hits C x e (at cs x)) → givers t k cs ≡ union (λ y. 2 ^ y) (filter (λ y. hits C y e (at cs y)) (below k))
      level_letters x h q = level_givers k (omega arith) (level_least x h q)
