-- The search in the table of a log: its records are in order, the whole table and each part of one total; each prefix is found at its record, other counts
-- are absent, with the number of prefixes that stand before them.
use mathlib.Core.Path.{◌≡◌, refl, sym, ◌∙◌, ap, ap₂, subst}
use mathlib.Core.Bool.{Bool, not}
use mathlib.Core.Logic.{⊎_elim}
use mathlib.Core.List.{List, [], ◌∷◌, ◌++◌, append-nil, map}
use Prim.Native.Nat.{ℕ, suc, ◌+◌, ◌*◌, ◌^◌, ◌≤◌, ◌<◌}
use native.Mathlib.Omega.{arith}
use Rattle.std.specs.Prelude.{Ok, Err}
use lib.Dec.{T, eqb, lt→ltb, ltb}
use lib.ListN.{length, get_or, take, drop}
use lib.Seq.{take_at}
use Rattle.profile.specs.Rules.{Rules, prefixes_by, table_by}
use Rattle.profile.specs.Automata.{automaton}
use Rattle.profile.specs.Lists.{Mem, below, filter, flat_map, range}
use Rattle.profile.specs.Orders.{no_later?}
use Rattle.profile.specs.Prefixes.{prefixes, ranked, total}
use Rattle.profile.specs.Tables.{layout, packed, record_length, record_of}
use Rattle.profile.proofs.Lists.{all_of, filter_at, filter_no, filter_yes, flat_map_append, mem_getd, range_append, test}
use Rattle.theory.proofs.Counting.{prefixes_at}
use Rattle.theory.proofs.LetterOrder.{earlier_test}
use Rattle.theory.proofs.Levels.{by_total_at, by_total_length, le_total, total_prefix}
use Rattle.theory.proofs.Merge.{Sorted}
use Rattle.theory.proofs.Packing.{packed_inj}
use Rattle.theory.proofs.Prefixes.{front_length, front_of_prefix}
use Rattle.theory.proofs.RecordOrder.{by_total_sorted, level_ranked, ranked_getd}
use Rattle.theory.proofs.Refusals.{GoodEvents, GoodProfile}
use Rattle.counts.proofs.Packed.{Small, counts_in_packed, same_tail, total_packed, zeros}
use Rattle.counts.specs.Counts.{counts_in}
use Rattle.records.specs.Records.{counts_at, records_in}
use Rattle.records.specs.Drafts.{backward_set, filled, forward_set, in_order, of_total}
use Rattle.records.proofs.Drafts.{counts_of_draft, drafts_length, records_of_drafts}
use Rattle.search.specs.Search.{Ordered, found_in, stands_before?}
use Rattle.search.proofs.Halves.{found_absent, found_record}

-- as many places pass f as elements pass g, where f at a place is g of the element there
filter_places : (f : ℕ → Bool) (g : List ℕ → Bool) (b : ℕ) (l : List (List ℕ)) → ((j : ℕ) → j < length l → f (b + j) ≡ g (get_or l j []))
    → length (filter f (range b (length l))) ≡ length (filter g l)
filter_places f g b [] h = refl
filter_places f g b (c ∷ l) h =
    let z : b + 0 ≡ b = omega arith in
    let e : f b ≡ g c = ap f (sym z) ∙ h 0 (omega arith) in
    let ih = filter_places f g (suc b) l (λ j k. let y : suc b + j ≡ b + suc j = omega arith in ap f y ∙ h (suc j) (omega arith)) in
    ⊎_elim
    (λ t. omega (arith, ap length (filter_yes f b (range (suc b) (length l)) (subst T (sym e) t)), ap length (filter_yes g c l t), ih))
    (λ t. omega (arith, ap length (filter_no f b (range (suc b) (length l)) (subst (λ x. T (not x)) (sym e) t)), ap length (filter_no g c l t), ih))
    (test (g c))

-- l is prefixes of a log, in order: all of them or those of one total
module _ (p : Rules) (w : List ℕ) (good : GoodProfile p.profile) (log : GoodEvents p w) (l : List (List ℕ)) (sorted : Sorted (map ranked l))
    (inside : (c : List ℕ) → Mem c l → Mem c (prefixes p.may p.letter p.profile.k w)) where
  -- counts of a prefix: one for each letter, each small
  long : (c : List ℕ) → Mem c l → length c ≡ p.profile.k
  long c m = (prefixes_at p.may p.letter p.profile.k w c log.letters (inside c m)).0

  few : (c : List ℕ) → Mem c l → Small layout c
  few c m = all_of (λ n. ltb n (2 ^ layout.width)) c (λ n i.
      let may = p.may in
      let q = prefixes_at may p.letter p.profile.k w c log.letters (inside c m) in
      lt→ltb n (2 ^ layout.width) (omega (
        arith,
        le_total i,
        total_prefix may p.letter p.profile.k w c log.letters (inside c m),
        front_length may (front_of_prefix may p.letter q.1),
        log.short,
      )))

  -- what stands before in the numbers is what stands before by total and counts
  before_is : (c d : List ℕ) → length c ≡ p.profile.k → length d ≡ p.profile.k → Small layout c → Small layout d
      → stands_before? (packed layout c) (packed layout d) ≡ not (no_later? (ranked d) (ranked c))
  before_is c d e q small small' = ap not (ap₂ no_later? (rank d q small') (rank c e small) ∙ same_tail (ranked d) (ranked c) (zeros layout p.profile.k) (ap suc (q ∙ sym e)))
    where
      rank : (c : List ℕ) → length c ≡ p.profile.k → Small layout c → ranked (counts_in layout (packed layout c)) ≡ ranked c ++ zeros layout p.profile.k
      rank c e small =
          let fits : length c ≤ layout.per * layout.numbers = omega (arith, good.relation.most) in
          ap₂ ◌∷◌ (total_packed layout c fits small) (counts_in_packed layout c fits small ∙ ap (λ n. c ++ zeros layout n) e)

  pub records_many : records_in (filled p w l) ≡ length l
  records_many = records_of_drafts (forward_set p w) (backward_set p w) l (filled p w l) [] (sym (append-nil (filled p w l))) (omega arith)

  pub counts_are : (j : ℕ) → j < length l → counts_at (filled p w l) j ≡ packed layout (get_or l j [])
  counts_are j h = counts_of_draft (forward_set p w) (backward_set p w) l (filled p w l) [] (sym (append-nil (filled p w l))) j h

  pub records_ordered : Ordered (filled p w l)
  records_ordered i j h k =
      let n : j < length l = subst (λ m. j < m) records_many k in
      let m : i < length l = omega arith in
      let c = get_or l i [] in
      let d = get_or l j [] in
      let x = mem_getd l i [] m in
      let y = mem_getd l j [] n in
      subst T (sym (ap₂ stands_before? (counts_are i m) (counts_are j n) ∙ before_is c d (long c x) (long d y) (few c x) (few d y)))
      ((earlier_test (ranked c) (ranked d)).1 (ranked_getd l sorted i j h n))

  -- "tells the record that has them, counted from 0"
  pub found_prefix : (j : ℕ) → j < length l → found_in (filled p w l) (packed layout (get_or l j [])) ≡ Ok j
  found_prefix j h = ap (found_in (filled p w l)) (sym (counts_are j h)) ∙ found_record (filled p w l) records_ordered j (subst (λ n. j < n) (sym records_many) h)

  -- "or, exactly when none has, how many records stand before its place"
  pub found_none : (c : List ℕ) → length c ≡ p.profile.k → Small layout c → (Mem c l → ⊥)
      → found_in (filled p w l) (packed layout c) ≡ Err (length (filter (λ d. not (no_later? (ranked c) (ranked d))) l))
  found_none c e small outside =
      found_absent (filled p w l) (packed layout c) (λ j k q.
      let h : j < length l = subst (λ n. j < n) records_many k in
      let d = get_or l j [] in
      let m = mem_getd l j [] h in
      outside (subst (λ x. Mem x l) (packed_inj layout d c (long d m ∙ sym e) (omega (arith, long d m, good.relation.most)) (few d m) small (sym (counts_are j h) ∙ q)) m))
      ∙ ap Err (ap (λ n. length (filter (λ j. stands_before? (counts_at (filled p w l) j) (packed layout c)) (below n))) records_many
      ∙ filter_places (λ j. stands_before? (counts_at (filled p w l) j) (packed layout c)) (λ d. not (no_later? (ranked c) (ranked d))) 0 l (λ j h.
      let z : 0 + j ≡ j = omega arith in
      let d = get_or l j [] in
      let m = mem_getd l j [] h in
      ap (λ i. stands_before? (counts_at (filled p w l) i) (packed layout c)) z
      ∙ ap (λ x. stands_before? x (packed layout c)) (counts_are j h) ∙ before_is d c (long d m) e (few d m) small))

-- ---- the parts of a table

module _ (p : Rules) (w : List ℕ) (log : GoodEvents p w) where
  -- the two lists that the module above is about
  pub whole_sorted : Sorted (map ranked (in_order p w))
  whole_sorted = by_total_sorted p.may p.letter p.profile.k w

  pub whole_inside : (c : List ℕ) → Mem c (in_order p w) → Mem c (prefixes p.may p.letter p.profile.k w)
  whole_inside = by_total_at p.may p.letter p.profile.k w

  pub total_sorted : (n : ℕ) → Sorted (map ranked (of_total p w n))
  total_sorted = level_ranked p.may p.letter p.profile.k w

  pub total_inside : (n : ℕ) (c : List ℕ) → Mem c (of_total p w n) → Mem c (prefixes p.may p.letter p.profile.k w)
  total_inside n c m = (filter_at (λ d. eqb (total d) n) (prefixes p.may p.letter p.profile.k w) m).0

  -- the first P records of a table after an answer
  pub whole_part : (before : List ℕ) → take (record_length layout * prefixes_by p w)
      (table_by p w before) ≡ filled p w (in_order p w)
  whole_part before = take_at (filled p w (in_order p w)) (drop (record_length layout * prefixes_by p w) before)
      (record_length layout * prefixes_by p w)
      (drafts_length (forward_set p w) (backward_set p w) (in_order p w)
      ∙ ap (λ n. record_length layout * n) (by_total_length p.may p.letter p.profile.k w log.letters))

  -- the records of a total that some prefix may have stand together, behind those of the totals below it
  pub total_part : (n m : ℕ) → length w ≡ n + m
      → filled p w (in_order p w) ≡ filled p w (flat_map (of_total p w) (below n)) ++ (filled p w (of_total p w n) ++ filled p w (flat_map (of_total p w) (range (suc n) m)))
  total_part n m e =
      let at = of_total p w in
      let r = record_of layout p.may p.letter (automaton p.profile) w in
      let all : suc (length w) ≡ n + suc m = omega arith in
      let z : 0 + n ≡ n = omega arith in
      ap (λ k. filled p w (flat_map at k)) (ap below all ∙ range_append 0 n (suc m) ∙ ap (λ k. below n ++ range k (suc m)) z)
      ∙ ap (filled p w) (flat_map_append at (below n) (n ∷ range (suc n) m))
      ∙ flat_map_append r (flat_map at (below n)) (at n ++ flat_map at (range (suc n) m))
      ∙ ap (λ k. filled p w (flat_map at (below n)) ++ k) (flat_map_append r (at n) (flat_map at (range (suc n) m)))
