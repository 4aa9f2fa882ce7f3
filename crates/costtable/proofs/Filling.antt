-- Where all letters of all records have led on, or back, the costs are those of the pairs.
use mathlib.Core.Path.{◌≡◌, refl, sym, ◌∙◌, ap, subst}
use mathlib.Core.Bool.{Bool, cond, ◌&&◌}
use mathlib.Core.Logic.{◌⊎◌, inl, inr, ⊎_elim}
use mathlib.Core.List.Memᴰ
use mathlib.Core.List.{List, [], ◌∷◌, map}
use mathlib.Core.Option.{some}
use Prim.Native.Nat.{ℕ, zero, suc, ◌+◌, ◌*◌, ◌^◌, ◌≤◌, ◌<◌}
use native.Mathlib.Omega.{arith}
use lib.Dec.{T, not_T, ltb, ltb→lt, lt→ltb}
use lib.ListN.{length, get_or}
use Rattle.profile.specs.Automata.{Automaton, automaton, profile_of, row}
use Rattle.profile.specs.Lists.{below, equal?, first_place}
use Rattle.profile.specs.Prefixes.{IsPrefix, at, by_total, more, unmarked}
use Rattle.profile.specs.Traces.{bit}
use Rattle.profile.specs.declared.Shape.{Shape}
use Rattle.profile.proofs.Lists.{NoDup, equal_test, fst_of, is_false, is_true, lt_or_le, mem_getd, snd_of}
use Rattle.profile.proofs.Sets.{bit_self, bit_single}
use Rattle.profile.proofs.Traces.{Pick}
use Rattle.theory.proofs.Automata.{Lawful}
use Rattle.theory.proofs.Levels.{at_below, by_total_nodup}
use Rattle.theory.proofs.Prefixes.{front_all, front_marked, more_of_pick, pick_of_more}
use Rattle.theory.proofs.Profiles.{lawful}
use Rattle.records.specs.Records.{records_in}
use Rattle.swaps.specs.Closest.{pair_swaps, rest_swaps}
use Rattle.swaps.specs.Swaps.{step_cost}
use Rattle.swaps.proofs.Bounds.{pair_small, rest_small}
use Rattle.swaps.proofs.Pairs.{pair_next, pair_none}
use Rattle.swaps.proofs.Rests.{rest_all, rest_next}
use Rattle.costcells.specs.Cells.{cost_in, none_cost}
use Rattle.costrows.specs.Rows.{with_step}
use Rattle.costrows.proofs.Settled.{settled_rest, settled_there}
use Rattle.costtable.specs.Costs.{Filled, Lent}
use Rattle.costtable.proofs.Ways.{Next, Way, WayOut, begins, cost_after, ends, goes_back, goes_on}
use Rattle.costtable.proofs.Onward.{Onward}
use Rattle.costtable.proofs.Backward.{Backward}
use Rattle.costtable.proofs.Lending.{cost_is, events_few, first_at, inside_at, inside_of, laid, last_at, letter_below, next_at, next_of, place_of_prefix, prefix_at, same_place, some_record, whole_of_none}

-- in a list without repeats each element is found at its place
first_nodup : (l : List (List ℕ)) (i : ℕ) → i < length l → NoDup l → first_place (λ d. equal? d (get_or l i [])) l ≡ i
first_nodup [] i h n = absurd (omega (arith, h))
first_nodup (a ∷ l) zero h n = let e = is_true (equal? a a) ((equal_test a a).1 refl) in rw (e, first_place)
first_nodup (a ∷ l) (suc i) h n =
    let lt : i < length l = omega (arith, h) in
    let e = is_false (equal? a (get_or l i [])) (not_T (equal? a (get_or l i [])) (λ t. n.0 (Memᴰ.cast ((equal_test a (get_or l i [])).0 t) (mem_getd l i [] lt)))) in
    rw (e, first_place) (ap suc (first_nodup l i lt n.1))

-- no cell where the state is past the last
abbrev guarded : Bool → ℕ → ℕ
guarded b n = cond b n none_cost

module _ (h : Shape) (masks moves : List ℕ) (may : ℕ → ℕ → Bool) (letter : ℕ → ℕ) (w t log starts places : List ℕ)
    (g : Lent (profile_of h masks moves) may letter w t log starts places) where
  abbrev M : Automaton
  M = automaton (profile_of h masks moves)

  lawful_m : Lawful M
  lawful_m = lawful (profile_of h masks moves)

  abbrev l : List (List ℕ)
  l = by_total may letter h.k w

  -- the cell of the prefix c and the state q
  abbrev cell_of : List ℕ → (ℕ → ℕ) → ℕ → ℕ
  cell_of costs c q = guarded (ltb q h.s) (cost_in costs (first_place (λ d. equal? d (map c (below h.k))) l * h.s + q))

  at_place : (costs : List ℕ) (i q : ℕ) → i < length l → q < h.s → cell_of costs (at (get_or l i [])) q ≡ cost_in costs (i * h.s + q)
  at_place costs i q li qs =
      let c = get_or l i [] in
      let p = prefix_at h masks moves may letter w t log starts places g i li in
      let own : map (at c) (below h.k) ≡ c = ap (λ n. map (at c) (below n)) (sym p.0) ∙ at_below c in
      let e : first_place (λ d. equal? d (map (at c) (below h.k))) l ≡ i =
      ap (λ v. first_place (λ d. equal? d v) l) own ∙ first_nodup l i li (by_total_nodup may letter h.k w) in
      ap (λ b. guarded b (cost_in costs (first_place (λ d. equal? d (map (at c) (below h.k))) l * h.s + q))) (is_true (ltb q h.s) (lt→ltb q h.s qs))
      ∙ ap (λ j. cost_in costs (j * h.s + q)) e

  past : (costs : List ℕ) (c : ℕ → ℕ) (q : ℕ) → h.s ≤ q → cell_of costs c q ≡ none_cost
  past costs c q ge = ap (λ b. guarded b (cost_in costs (first_place (λ d. equal? d (map c (below h.k))) l * h.s + q)))
      (is_false (ltb q h.s) (not_T (ltb q h.s) (λ y. omega (arith, ge, ltb→lt q h.s y))))

  move_at : (p x q : ℕ) → T (M.move p x q) → (p < h.s) × T (bit (row h.k moves p x) q)
  move_at p x q m = (ltb→lt p h.s (fst_of (ltb p h.s) (bit (row h.k moves p x) q) m), snd_of (ltb p h.s) (bit (row h.k moves p x) q) m)

  move_of : (p x q : ℕ) → p < h.s → T (bit (row h.k moves p x) q) → T (M.move p x q)
  move_of p x q lt b = subst (λ z. T (z && bit (row h.k moves p x) q)) (sym (is_true (ltb p h.s) (lt→ltb p h.s lt))) b

  -- the event of one letter more
  picked : (i y r : ℕ) → Next h moves log t i y r
      → (a : ℕ) × (letter a ≡ y) × Pick may (unmarked letter w (at (get_or l i []))) a (unmarked letter w (more (at (get_or l i [])) y))
  picked i y r n =
      let e = next_at h masks moves may letter w t log starts places g i y r n in
      let li = inside_of h masks moves may letter w t log starts places g i n.before in
      let lr = inside_of h masks moves may letter w t log starts places g r n.inside in
      pick_of_more may letter g.apart (prefix_at h masks moves may letter w t log starts places g i li).1
      (subst (IsPrefix may letter w) e (prefix_at h masks moves may letter w t log starts places g r lr).1)

  -- the places of a prefix and of the same with one letter more
  stepped : (d : ℕ → ℕ) (a : ℕ) → IsPrefix may letter w d → IsPrefix may letter w (more d (letter a))
      → (i r : ℕ) × Next h moves log t i (letter a) r × (at (get_or l i []) ≡ d) × (at (get_or l r []) ≡ more d (letter a))
  stepped d a p q =
      let x = place_of_prefix h masks moves may letter w t log starts places g d p in
      let y = place_of_prefix h masks moves may letter w t log starts places g (more d (letter a)) q in
      let e : at (get_or l y.0 []) ≡ more (at (get_or l x.0 [])) (letter a) = y.2 ∙ sym (ap (λ f. more f (letter a)) x.2) in
      let n = next_of h masks moves may letter w t log starts places g x.0 (letter a) y.0 x.1 y.1 e
      (letter_below h masks moves may letter w t log starts places g d (letter a) q) in
      (x.0, y.0, n, x.2, y.2)

  -- ---- the costs to each pair

  -- a way costs no less than the fewest swaps
  way_costs : {i q n : ℕ} → Way h moves log t i q n → (m : ℕ) × (pair_swaps may letter M w (at (get_or l i [])) q ≡ some m) × (m ≤ n)
  way_costs begins = (
    0,
    ap (λ f. pair_swaps may letter M w f h.start) (first_at h masks moves may letter w t log starts places g)
        ∙ pair_none may letter M lawful_m w g.apart h.start (bit_self h.start),
    omega arith,
  )
  way_costs (goes_on {i = i} {y = y} {r = r} {q = q} {q' = q'} {n = n} way next qs b) =
      let ih = way_costs way in
      let li = inside_of h masks moves may letter w t log starts places g i next.before in
      let a = picked i y r next in
      let m : T (M.move q (letter a.0) q') = subst (λ z. T (M.move q z q')) (sym a.1) (move_of q y q' qs b) in
      let z = pair_next may letter M lawful_m w g.apart q q' (prefix_at h masks moves may letter w t log starts places g i li).1 a.2 ih.1 m in
      let e : more (at (get_or l i [])) (letter a.0) ≡ at (get_or l r []) =
      ap (more (at (get_or l i []))) a.1 ∙ sym (next_at h masks moves may letter w t log starts places g i y r next) in
      let s : step_cost letter w (at (get_or l i [])) (letter a.0) ≡ cost_after h moves log t i y =
      ap (step_cost letter w (at (get_or l i []))) a.1 ∙ sym (cost_is h masks moves may letter w t log starts places g i y li) in
      (z.0, subst (λ f. pair_swaps may letter M w f q' ≡ some z.0) e z.1, omega (arith, z.2, ih.2, s))

  pub onward_fills : (before costs : List ℕ) (j x : ℕ) → records_in t ≤ j → Onward h moves log t before costs j x
      → Filled l h.s (λ c. pair_swaps may letter M w (at c)) before costs
  onward_fills before costs j x all o = record {
    as_long = o.as_long;
    cells = λ i q li qs. sym (at_place costs i q li qs)
        ∙ settled_there may letter M lawful_m w g.apart (cell_of costs) start led by small (at (get_or l i [])) q (prefix_at h masks moves may letter w t log starts places g i li).1;
    behind = λ i le. o.behind i (subst (λ n. n * h.s ≤ i) (sym g.records.many) le);
  }
    where
      start : (q : ℕ) → T (bit (2 ^ h.start) q) → cell_of costs (λ x. 0) q ≡ 0
      start q b =
          let e : h.start ≡ q = bit_single h.start q b in
          ap (cell_of costs (λ x. 0)) (sym e) ∙ ap (λ f. cell_of costs f h.start) (sym (first_at h masks moves may letter w t log starts places g))
          ∙ at_place costs 0 h.start (some_record h masks moves may letter w t log starts places g) g.profile.starts ∙ o.start

      led : (d : ℕ → ℕ) (a p q : ℕ) (r : List ℕ) → IsPrefix may letter w d → Pick may (unmarked letter w d) a r → T (M.move p (letter a) q)
          → cell_of costs (more d (letter a)) q ≤ with_step (cell_of costs d p) (step_cost letter w d (letter a))
      led d a p q r pre pick m =
          let z = stepped d a pre (more_of_pick may letter g.apart pre pick).0 in
          let i = z.0 in
          let r' = z.1 in
          let n = z.2 in
          let li = inside_of h masks moves may letter w t log starts places g i n.before in
          let lr = inside_of h masks moves may letter w t log starts places g r' n.inside in
          let b = move_at p (letter a) q m in
          let qs = (laid h masks moves may letter w t log starts places g).state p (letter a) q b.0 n.letter b.1 in
          omega (
            arith,
            o.led i (letter a) r' p q n (inl (omega (arith, n.before, all))) b.0 b.1,
            at_place costs i p li b.0,
            at_place costs r' q lr qs,
            ap (λ f. cell_of costs f p) z.3,
            ap (λ f. cell_of costs f q) z.4,
            cost_is h masks moves may letter w t log starts places g i (letter a) li,
            ap (λ f. step_cost letter w f (letter a)) z.3,
          )

      by : (c : ℕ → ℕ) (q : ℕ) → IsPrefix may letter w c → (cell_of costs c q ≡ none_cost) ⊎ ((n : ℕ) × (pair_swaps may letter M w c q ≡ some n) × (n ≤ cell_of costs c q))
      by c q p = ⊎_elim
          (λ qs.
          let z = place_of_prefix h masks moves may letter w t log starts places g c p in
          let e : cell_of costs c q ≡ cost_in costs (z.0 * h.s + q) = ap (λ f. cell_of costs f q) (sym z.2) ∙ at_place costs z.0 q z.1 qs in
          ⊎_elim (λ y. inl (e ∙ y))
          (λ y.
          let v = way_costs y.1 in
          inr (v.0, subst (λ f. pair_swaps may letter M w f q ≡ some v.0) z.2 v.1, omega (arith, e, v.2, y.2)))
          (o.by z.0 q (inside_at h masks moves may letter w t log starts places g z.0 z.1) qs))
          (λ ge. inl (past costs c q ge)) (lt_or_le q h.s)

      small : (c : ℕ → ℕ) (q n : ℕ) → IsPrefix may letter w c → pair_swaps may letter M w c q ≡ some n → n < none_cost
      small c q n p e = omega (arith, pair_small may letter M lawful_m w g.apart (events_few h masks moves may letter w t log starts places g) c q n p e)

  -- ---- the costs of what is left

  out_costs : {i q n : ℕ} → WayOut h moves log t i q n → (m : ℕ) × (rest_swaps may letter M w (at (get_or l i [])) q ≡ some m) × (m ≤ n)
  out_costs (ends {i = i} {q = q} e b) =
      let whole = last_at h masks moves may letter w t log starts places g i (e ∙ g.records.many) in
      (0, rest_all may letter M lawful_m w g.apart (at (get_or l i [])) q (ap (unmarked letter w) whole ∙ (front_marked may letter g.apart (front_all may w)).1) b, omega arith)
  out_costs (goes_back {i = i} {y = y} {r = r} {q = q} {q' = q'} {n = n} way next qs b) =
      let ih = out_costs way in
      let li = inside_of h masks moves may letter w t log starts places g i next.before in
      let a = picked i y r next in
      let m : T (M.move q (letter a.0) q') = subst (λ z. T (M.move q z q')) (sym a.1) (move_of q y q' qs b) in
      let e : at (get_or l r []) ≡ more (at (get_or l i [])) (letter a.0) =
      next_at h masks moves may letter w t log starts places g i y r next ∙ sym (ap (more (at (get_or l i []))) a.1) in
      let z = rest_next may letter M lawful_m w g.apart q' q (prefix_at h masks moves may letter w t log starts places g i li).1 a.2
      (subst (λ f. rest_swaps may letter M w f q' ≡ some ih.0) e ih.1) m in
      let s : step_cost letter w (at (get_or l i [])) (letter a.0) ≡ cost_after h moves log t i y =
      ap (step_cost letter w (at (get_or l i []))) a.1 ∙ sym (cost_is h masks moves may letter w t log starts places g i y li) in
      (z.0, z.1, omega (arith, z.2, ih.2, s))

  pub backward_fills : (before costs : List ℕ) (x : ℕ) → h.k ≤ x → Backward h moves log t before costs 0 x
      → Filled l h.s (λ c. rest_swaps may letter M w (at c)) before costs
  backward_fills before costs x all o = record {
    as_long = o.as_long;
    cells = λ i q li qs. sym (at_place costs i q li qs)
        ∙ settled_rest may letter M lawful_m w g.apart (cell_of costs) finish led by small (at (get_or l i [])) q (prefix_at h masks moves may letter w t log starts places g i li).1;
    behind = λ i le. o.behind i (subst (λ n. n * h.s ≤ i) (sym g.records.many) le);
  }
    where
      finish : (c : ℕ → ℕ) (q : ℕ) → IsPrefix may letter w c → unmarked letter w c ≡ [] → T (bit h.finals q) → cell_of costs c q ≡ 0
      finish c q p e b =
          let z = place_of_prefix h masks moves may letter w t log starts places g c p in
          let some_one = some_record h masks moves may letter w t log starts places g in
          let whole = whole_of_none h masks moves may letter w t log starts places g c p e in
          let n : (m : ℕ) × (suc m ≡ length l) = last_of (length l) some_one in
          let last = last_at h masks moves may letter w t log starts places g n.0 n.1 in
          let same : z.0 ≡ n.0 = same_place h masks moves may letter w t log starts places g z.0 n.0 z.1 (omega (arith, n.1)) (z.2 ∙ whole ∙ sym last) in
          ap (λ f. cell_of costs f q) (sym z.2) ∙ at_place costs z.0 q z.1 ((laid h masks moves may letter w t log starts places g).finals q b)
          ∙ o.finish z.0 q (omega (arith, same, n.1, g.records.many)) b
        where
          last_of : (n : ℕ) → 0 < n → (m : ℕ) × (suc m ≡ n)
          last_of zero lt = absurd (omega (arith, lt))
          last_of (suc m) lt = (m, refl)

      led : (c : ℕ → ℕ) (a p q : ℕ) → IsPrefix may letter w c → Pick may (unmarked letter w c) a (unmarked letter w (more c (letter a))) → T (M.move q (letter a) p)
          → cell_of costs c q ≤ with_step (cell_of costs (more c (letter a)) p) (step_cost letter w c (letter a))
      led c a p q pre pick m =
          let z = stepped c a pre (more_of_pick may letter g.apart pre pick).0 in
          let i = z.0 in
          let r' = z.1 in
          let n = z.2 in
          let li = inside_of h masks moves may letter w t log starts places g i n.before in
          let lr = inside_of h masks moves may letter w t log starts places g r' n.inside in
          let b = move_at q (letter a) p m in
          let ps = (laid h masks moves may letter w t log starts places g).state q (letter a) p b.0 n.letter b.1 in
          let done : (0 < i) ⊎ ((i ≡ 0) × (letter a < x)) = ⊎_elim (λ lt. inl lt) (λ le. inr (omega (arith, le), omega (arith, n.letter, all))) (lt_or_le 0 i) in
          omega (
            arith,
            o.led i (letter a) r' q p n done b.0 b.1,
            at_place costs i q li b.0,
            at_place costs r' p lr ps,
            ap (λ f. cell_of costs f q) z.3,
            ap (λ f. cell_of costs f p) z.4,
            cost_is h masks moves may letter w t log starts places g i (letter a) li,
            ap (λ f. step_cost letter w f (letter a)) z.3,
          )

      by : (c : ℕ → ℕ) (q : ℕ) → IsPrefix may letter w c → (cell_of costs c q ≡ none_cost) ⊎ ((n : ℕ) × (rest_swaps may letter M w c q ≡ some n) × (n ≤ cell_of costs c q))
      by c q p = ⊎_elim
          (λ qs.
          let z = place_of_prefix h masks moves may letter w t log starts places g c p in
          let e : cell_of costs c q ≡ cost_in costs (z.0 * h.s + q) = ap (λ f. cell_of costs f q) (sym z.2) ∙ at_place costs z.0 q z.1 qs in
          ⊎_elim (λ y. inl (e ∙ y))
          (λ y.
          let v = out_costs y.1 in
          inr (v.0, subst (λ f. rest_swaps may letter M w f q ≡ some v.0) z.2 v.1, omega (arith, e, v.2, y.2)))
          (o.by z.0 q (omega arith) (inside_at h masks moves may letter w t log starts places g z.0 z.1) qs))
          (λ ge. inl (past costs c q ge)) (lt_or_le q h.s)

      small : (c : ℕ → ℕ) (q n : ℕ) → IsPrefix may letter w c → rest_swaps may letter M w c q ≡ some n → n < none_cost
      small c q n p e = omega (arith, rest_small may letter M lawful_m w g.apart (events_few h masks moves may letter w t log starts places g) c q n e)
