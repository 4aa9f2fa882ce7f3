-- The records in their order: which record has one letter more than another, and where the cursor of a letter stands on the way back.
use Rattle.std.proofs.Common.{◌≡◌, ℕ, zero, suc, ◌-◌, ◌<◌, ◌≤◌, Bool, true, false, not, T, List, [], ◌∷◌, length, get_or, sym, ap, ◌∙◌, subst, subst₂, ⊎_elim, arith, T_not, length-set}
use Rattle.profile.specs.Rules.{Rules}
use Rattle.profile.specs.Lists.{Mem, below}
use Rattle.profile.specs.Orders.{Earlier}
use Rattle.profile.specs.Prefixes.{IsPrefix, addable?, at, less, more, ranked, total}
use Rattle.profile.proofs.Lists.{flat_map_at, is_false, is_true, lt_or_le, mem_getd, mem_place, nodup_place, test}
use Rattle.theory.proofs.Counting.{prefixes_of}
use Rattle.theory.proofs.Levels.{at_bump, bump, by_total_nodup, by_total_of, debump, level_next}
use Rattle.theory.proofs.LetterOrder.{earlier_irrefl, earlier_trans}
use Rattle.theory.proofs.Merge.{bump_earlier, level_at}
use Rattle.theory.proofs.Prefixes.{addable_of, removable_at, removable_of, removable?}
use Rattle.theory.proofs.RecordOrder.{by_total_sorted, ranked_getd, ranked_total}
use Rattle.theory.proofs.Refusals.{GoodEvents}
use Rattle.records.specs.Drafts.{in_order, of_total}
use Rattle.backward.specs.Backward.{last_below}

-- ---- the last that passes a test

module _ (f : ℕ → Bool) where
  below_yes : (n : ℕ) → f n ≡ true → last_below f (suc n) ≡ n
  below_yes n e = rw (e, last_below)

  below_no : (n : ℕ) → f n ≡ false → last_below f (suc n) ≡ last_below f n
  below_no n e = rw (e, last_below)

  -- for a loop: the number before i is the last, or the search goes on there
  pub last_here : (i : ℕ) → 0 < i → f (i - 1) ≡ true → last_below f i ≡ i - 1
  last_here i h e = let s : suc (i - 1) ≡ i = omega arith in ap (last_below f) (sym s) ∙ below_yes (i - 1) e

  pub last_goes : (i : ℕ) → 0 < i → f (i - 1) ≡ false → last_below f i ≡ last_below f (i - 1)
  last_goes i h e = let s : suc (i - 1) ≡ i = omega arith in ap (last_below f) (sym s) ∙ below_no (i - 1) e

  pub last_inside : (n m : ℕ) → n ≤ m → 0 < m → last_below f n < m
  last_inside zero m l h = h
  last_inside (suc n) m l h = ⊎_elim
      (λ t. omega (arith, below_yes n (is_true (f n) t)))
      (λ t. omega (arith, below_no n (is_false (f n) t), last_inside n m (omega arith) h))
      (test (f n))

  -- j passes and none between j and n does
  pub last_is : (n j : ℕ) → j < n → T (f j) → ((i : ℕ) → j < i → i < n → T (f i) → ⊥) → last_below f n ≡ j
  last_is zero j l t h = absurd (omega arith)
  last_is (suc n) j l t h = ⊎_elim
      (λ lt. below_no n (is_false (f n) (no n lt (omega arith))) ∙ last_is n j lt t (λ i a b. h i a (omega arith)))
      (λ le. let e : n ≡ j = omega arith in below_yes n (is_true (f n) (subst (λ i. T (f i)) (sym e) t)) ∙ e)
      (lt_or_le j n)
    where
      no : (i : ℕ) → j < i → i < suc n → T (not (f i))
      no i a b = ⊎_elim (λ y. absurd (h i a b y)) (λ y. y) (test (f i))

-- ---- one letter more, by the places of the records

module _ {p : Rules} {w : List ℕ} (log : GoodEvents p w) where
  abbrev L : List (List ℕ)
  L = in_order p w

  abbrev k : ℕ
  k = p.profile.k

  abbrev adds : ℕ → ℕ → Bool
  adds i x = addable? p.may p.letter w (at (get_or L i [])) x

  abbrev takes : ℕ → ℕ → Bool
  takes i x = removable? p.may p.letter w (at (get_or L i [])) x

  -- record j is that of record i with one x more
  abbrev pub Child : ℕ → ℕ → ℕ → Type 0
  Child x i j = (i < length L) × (j < length L) × T (adds i x) × (get_or L j [] ≡ bump (get_or L i []) x)

  -- the total of a record
  pub level_of_record : (i : ℕ) → i < length L → (n : ℕ) × Mem (get_or L i []) (of_total p w n)
  level_of_record i h = let n = flat_map_at (of_total p w) (below (suc (length w))) (mem_getd L i [] h) in (n.0, n.2)

  place_of : (c : List ℕ) → length c ≡ k → IsPrefix p.may p.letter w (at c) → (i : ℕ) × (i < length L) × (get_or L i [] ≡ c)
  place_of c l q = mem_place [] (by_total_of p.may p.letter k w c log.letters (prefixes_of p.may p.letter k w c l q))

  module _ (x : ℕ) (lt : x < k) where
    -- a letter that can be added leads to a record, where it can be taken away
    pub child_of : (i : ℕ) → i < length L → T (adds i x) → (j : ℕ) × Child x i j × T (takes j x)
    child_of i h t =
        let c = get_or L i [] in
        let n = level_of_record i h in
        let q = level_at p.may p.letter k w n.0 c log.letters n.1 in
        let up = level_at p.may p.letter k w (suc n.0) (bump c x) log.letters (level_next p.may p.letter log.apart k w log.letters n.0 x c n.1 lt t) in
        let j = place_of (bump c x) up.0 up.1 in
        (j.0, (h, j.1, t, j.2), (removable_of p.may p.letter log.apart (at (get_or L j.0 [])) x q.1 (ap at j.2 ∙ at_bump c x (omega (arith, q.0)))).0)

    -- and a letter that can be taken away comes so
    pub parent_of : (j : ℕ) → j < length L → T (takes j x) → (i : ℕ) × Child x i j
    parent_of j h t =
        let d = get_or L j [] in
        let n = level_of_record j h in
        let q = level_at p.may p.letter k w n.0 d log.letters n.1 in
        let r = removable_at p.may p.letter log.apart q.1 t in
        let b = debump d x (less (at d) x) (omega (arith, q.0)) (sym r.4) in
        let c = b.0 in
        let i = place_of c (b.1 ∙ q.0) (subst (IsPrefix p.may p.letter w) (sym b.2) r.0) in
        let a : T (addable? p.may p.letter w (at c) x) = addable_of p.may p.letter log.apart (at c) x (subst (IsPrefix p.may p.letter w) (sym (ap (λ f. more f x) b.2 ∙ r.4)) q.1) in
        (i.0, (i.1, h, subst (λ v. T (addable? p.may p.letter w (at v) x)) (sym i.2) a, sym b.3 ∙ ap (λ v. bump v x) (sym i.2)))

    total_more : (i : ℕ) → i < length L → T (adds i x) → total (bump (get_or L i []) x) ≡ suc (total (get_or L i []))
    total_more i h t =
        let c = get_or L i [] in
        let n = level_of_record i h in
        let q = level_at p.may p.letter k w n.0 c log.letters n.1 in
        let up = level_at p.may p.letter k w (suc n.0) (bump c x) log.letters (level_next p.may p.letter log.apart k w log.letters n.0 x c n.1 lt t) in
        up.2 ∙ ap suc (sym q.2)

    -- the record with one letter more in the order of totals and counts
    ranked_bump : (i : ℕ) → i < length L → T (adds i x) → ranked (bump (get_or L i []) x) ≡ bump (bump (ranked (get_or L i [])) (suc x)) 0
    ranked_bump i h t = ap (λ m. m ∷ bump (get_or L i []) x) (total_more i h t)

    counts_length : (i : ℕ) → i < length L → length (get_or L i []) ≡ k
    counts_length i h = let n = level_of_record i h in (level_at p.may p.letter k w n.0 (get_or L i []) log.letters n.1).0

    bump_length : (i : ℕ) → i < length L → length (bump (get_or L i []) x) ≡ k
    bump_length i h = length-set (get_or L i []) x (suc (at (get_or L i []) x)) ∙ counts_length i h

    -- records in order lead to records in order
    pub children_order : (i i₂ j j₂ : ℕ) → i < i₂ → Child x i j → Child x i₂ j₂ → j < j₂
    children_order i i₂ j j₂ l a b = ⊎_elim (λ h. h) (λ h. absurd (wrong h)) (lt_or_le j j₂)
      where
        r : ℕ → List ℕ
        r m = ranked (get_or L m [])

        rises : Earlier (r j) (r j₂)
        rises = subst₂ Earlier (sym (ap ranked a.3 ∙ ranked_bump i a.0 a.2)) (sym (ap ranked b.3 ∙ ranked_bump i₂ b.0 b.2))
            (bump_earlier (bump (r i) (suc x)) (bump (r i₂) (suc x)) 0 (ap suc (bump_length i a.0 ∙ sym (bump_length i₂ b.0)))
            (bump_earlier (r i) (r i₂) (suc x) (ap suc (counts_length i a.0 ∙ sym (counts_length i₂ b.0))) (ranked_getd L (by_total_sorted p.may p.letter k w) i i₂ l b.0)))

        wrong : j₂ ≤ j → ⊥
        wrong h = ⊎_elim
            (λ s. earlier_irrefl (r j) (earlier_trans rises (ranked_getd L (by_total_sorted p.may p.letter k w) j₂ j s a.1)))
            (λ s. let e : j₂ ≡ j = omega arith in earlier_irrefl (r j) (subst (λ m. Earlier (r j) (r m)) e rises))
            (lt_or_le j₂ j)

    -- a record leads to one record
    pub one_child : (i j j₂ : ℕ) → Child x i j → Child x i j₂ → j ≡ j₂
    one_child i j j₂ a b = nodup_place L [] (by_total_nodup p.may p.letter k w) j j₂ a.1 b.1 (a.3 ∙ sym b.3)

    -- one letter more stands further on
    pub child_later : (i j : ℕ) → Child x i j → i < j
    child_later i j a = ⊎_elim (λ h. h) (λ h. absurd (wrong h)) (lt_or_le i j)
      where
        wrong : j ≤ i → ⊥
        wrong h =
            let e = ap total a.3 ∙ total_more i a.0 a.2 in
            ⊎_elim
            (λ s. omega (arith, e, ranked_total (get_or L j []) (get_or L i []) (ranked_getd L (by_total_sorted p.may p.letter k w) j i s a.0)))
            (λ s. let z : j ≡ i = omega arith in omega (arith, e, ap (λ m. total (get_or L m [])) z))
            (lt_or_le j i)

  -- ---- cursors

  -- on the way back the records from record i on are done, and the cursor of letter x is at q: what the records before i lead to stands before q, what
  -- those from i on lead to does not
  pub record Cursor (x i q : ℕ) : Type 0 where
    pub inside : q ≤ length L
    pub before : (m j : ℕ) → m < i → Child x m j → j < q
    pub behind : (m j : ℕ) → i ≤ m → Child x m j → q ≤ j

  pub cursor_start : (x i : ℕ) → x < k → length L ≤ suc i → Cursor x i (length L)
  cursor_start x i lt h = record {
    inside = omega arith;
    before = λ m j l a. a.1;
    behind = λ m j l a. omega (arith, child_later x lt m j a, a.1);
  }

  -- letter x cannot be added to record i
  pub cursor_stays : (x i q : ℕ) → T (not (adds i x)) → Cursor x (suc i) q → Cursor x i q
  cursor_stays x i q n c = record {
    inside = c.inside;
    before = λ m j l a. c.before m j (omega arith) a;
    behind = λ m j l a. ⊎_elim
        (λ s. c.behind m j s a)
        (λ s. let e : m ≡ i = omega arith in absurd (T_not (adds i x) n (subst (λ m. T (adds m x)) e a.2)))
        (lt_or_le i m);
  }

  -- letter x can be added to record i: the last record before the cursor at which it can be taken away has one x more, and there the cursor moves
  module _ (x i q : ℕ) (lt : x < k) (h : i < length L) (t : T (adds i x)) (c : Cursor x (suc i) q) where
    abbrev child : ℕ
    child = (child_of x lt i h t).0

    is_child : Child x i child
    is_child = (child_of x lt i h t).1

    pub cursor_finds : (f : ℕ → Bool) → ((j : ℕ) → i < j → j < length L → f j ≡ takes j x) → last_below f q ≡ child
    cursor_finds f same =
        let a = is_child in
        let later = child_later x lt i child a in
        last_is f q child (c.before i child (omega arith) a) (subst T (sym (same child later a.1)) (child_of x lt i h t).2)
        (λ j l g y.
        let u = parent_of x lt j (omega (arith, c.inside)) (subst T (same j (omega arith) (omega (arith, c.inside))) y) in
        let m = u.0 in
        ⊎_elim
        (λ s. omega (arith, c.behind m j s u.1))
        (λ s. ⊎_elim
        (λ r. omega (arith, children_order x lt m i j child r u.1 a))
        (λ r. let e : m ≡ i = omega arith in omega (arith, one_child x lt i j child (subst (λ m. Child x m j) e u.1) a))
        (lt_or_le m i))
        (lt_or_le i m))

    pub cursor_moves : Cursor x i child
    cursor_moves = record {
      inside = omega (arith, is_child.1);
      before = λ m j l a. children_order x lt m i j child l a is_child;
      behind = λ m j l a. ⊎_elim
          (λ s. let g = children_order x lt i m child j s is_child a in omega arith)
          (λ s. let e : m ≡ i = omega arith in omega (arith, one_child x lt i j child (subst (λ m. Child x m j) e a) is_child))
          (lt_or_le i m);
    }
