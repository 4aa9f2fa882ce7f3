-- What follows from what a pass is lent: the record of one letter more, where records stand, and what a step costs.
use mathlib.Core.Path.{◌≡◌, refl, sym, ◌∙◌, ap, subst, fun_ext}
use mathlib.Core.Bool.{Bool}
use mathlib.Core.Logic.{⊎_elim}
use mathlib.Core.List.{List, [], ◌∷◌, ◌++◌, map}
use Prim.Native.Nat.{ℕ, zero, suc, ◌+◌, ◌*◌, ◌/◌, ◌%◌, ◌^◌, ◌≤◌, ◌<◌}
use native.Mathlib.Omega.{arith}
use native.Mathlib.Nat.{zero-div, zero-mod}
use lib.Arith.{digits_lt}
use lib.Dec.{T, ltb, lt→ltb}
use lib.ListN.{length, get_or, length-append, length-map, length-set, get_or-eq_default}
use lib.Seq.{ext_get_or, get_or-append-add}
use Rattle.profile.specs.Automata.{profile_of, row}
use Rattle.profile.specs.Lists.{below, flat_map, range}
use Rattle.profile.specs.Prefixes.{IsPrefix, at, by_total, count, level, more, total, unmarked}
use Rattle.profile.specs.Tables.{count_field, layout, packed}
use Rattle.profile.specs.Traces.{letters_below}
use Rattle.profile.specs.declared.Shape.{Shape}
use Rattle.profile.proofs.Lists.{all_of, below_suc, flat_map_append, lt_or_le, mem_getd, mem_place, nodup_place}
use Rattle.profile.proofs.Sets.{bit_below}
use Rattle.theory.proofs.Counting.{count_above, length_range, prefixes_at, prefixes_of}
use Rattle.theory.proofs.Levels.{at_bump, bump, by_total_at, by_total_nodup, by_total_of, le_total, total_prefix}
use Rattle.theory.proofs.Merge.{at_prefix, level_first, level_whole}
use Rattle.theory.proofs.Packing.{field_packed, packed_inj, packed_length}
use Rattle.theory.proofs.Prefixes.{count_front, count_of_prefix, front_all, front_length, front_of_prefix, one_same, prefix_of_front}
use Rattle.theory.proofs.RecordOrder.{by_total_sorted, ranked_getd, ranked_total}
use Rattle.counts.proofs.Packed.{Small}
use Rattle.records.specs.Records.{counts_at, records_in}
use Rattle.swaps.specs.Swaps.{step_cost}
use Rattle.swaps.proofs.Letters.{letters_under, step_letters}
use Rattle.swaps.proofs.Pairs.{count_letters}
use Rattle.stepcost.specs.StepCosts.{Within}
use Rattle.costcursors.proofs.Bumps.{total_bump}
use Rattle.costcursors.proofs.Successors.{next_packed}
use Rattle.costtable.specs.Costs.{Lent}
use Rattle.costtable.proofs.Ways.{Laid, Next, cost_after}

-- ---- counts in numbers

-- the counts of packed numbers, of the letters past the last too
pub field_all : (c : List ℕ) → length c ≤ layout.per * layout.numbers → Small layout c → count_field layout (packed layout c) ≡ at c
field_all c le small = fun_ext (λ y. ⊎_elim (λ lt. field_packed layout c y small lt)
    (λ ge.
    let zero-at = get_or-eq_default (packed layout c) 0 {n = y / layout.per} (omega (arith, packed_length layout c, ge)) in
    ap (λ n. n / 2 ^ (layout.width * (y % layout.per)) % 2 ^ layout.width) zero-at
    ∙ ap (λ n. n % 2 ^ layout.width) (zero-div (2 ^ (layout.width * (y % layout.per)))) ∙ zero-mod (2 ^ layout.width)
    ∙ sym (get_or-eq_default c 0 {n = y} (omega (arith, le, ge)))) (lt_or_le y (layout.per * layout.numbers)))

-- ---- what is lent

module _ (h : Shape) (masks moves : List ℕ) (may : ℕ → ℕ → Bool) (letter : ℕ → ℕ) (w t log starts places : List ℕ)
    (g : Lent (profile_of h masks moves) may letter w t log starts places) where
  -- the prefixes, in order
  abbrev pub prefix_list : List (List ℕ)
  prefix_list = by_total may letter h.k w

  pub events_below : T (letters_below letter h.k w)
  events_below = letters_under letter h.k w (subst (λ v. T (letters_below (λ a. a) h.k v)) (sym g.letters) g.placed.below_k)

  pub events_few : length w ≤ 4000
  events_few = omega (arith, length-map w letter, ap length g.letters, g.placed.few)

  pub prefix_at : (i : ℕ) → i < length prefix_list → (length (get_or prefix_list i []) ≡ h.k) × IsPrefix may letter w (at (get_or prefix_list i []))
  prefix_at i lt = prefixes_at may letter h.k w (get_or prefix_list i []) events_below (by_total_at may letter h.k w (get_or prefix_list i []) (mem_getd prefix_list i [] lt))

  pub inside_of : (i : ℕ) → i < records_in t → i < length prefix_list
  inside_of i lt = subst (λ n. i < n) g.records.many lt

  pub inside_at : (i : ℕ) → i < length prefix_list → i < records_in t
  inside_at i lt = subst (λ n. i < n) (sym g.records.many) lt

  -- counts with one more are small
  pub small_more : (i x : ℕ) → i < length prefix_list → x < h.k → Small layout (bump (get_or prefix_list i []) x)
  small_more i x lt xk =
      let c = get_or prefix_list i [] in
      let p = prefix_at i lt in
      let m = by_total_at may letter h.k w c (mem_getd prefix_list i [] lt) in
      all_of (λ n. ltb n (2 ^ layout.width)) (bump c x) (λ n q. lt→ltb n (2 ^ layout.width) (omega (
        arith,
        le_total q,
        total_bump c x (omega (arith, p.0, xk)),
        total_prefix may letter h.k w c events_below m,
        front_length may (front_of_prefix may letter p.1),
        events_few,
      )))

  small_at : (i : ℕ) → i < length prefix_list → Small layout (get_or prefix_list i [])
  small_at i lt = g.records.small (get_or prefix_list i []) (mem_getd prefix_list i [] lt)

  -- lists of as many counts are the same where the counts are
  same_counts : (c d : List ℕ) → length c ≡ h.k → length d ≡ h.k → at c ≡ at d → c ≡ d
  same_counts c d e f q = ext_get_or 0 c d (e ∙ sym f) (λ i lt. ap (λ z. z i) q)

  pub same_place : (i j : ℕ) → i < length prefix_list → j < length prefix_list → at (get_or prefix_list i []) ≡ at (get_or prefix_list j []) → i ≡ j
  same_place i j li lj q = nodup_place prefix_list [] (by_total_nodup may letter h.k w) i j li lj
      (same_counts (get_or prefix_list i []) (get_or prefix_list j []) (prefix_at i li).0 (prefix_at j lj).0 q)

  -- each prefix has a place
  pub place_of_prefix : (c : ℕ → ℕ) → IsPrefix may letter w c → (i : ℕ) × (i < length prefix_list) × (at (get_or prefix_list i []) ≡ c)
  place_of_prefix c p =
      let d = map c (below h.k) in
      let e = at_prefix may letter g.apart h.k w events_below p in
      let long = length_range c h.k 0 in
      let m = by_total_of may letter h.k w d events_below (prefixes_of may letter h.k w d long (subst (IsPrefix may letter w) (sym e) p)) in
      let z = mem_place [] m in
      (z.0, z.1, ap at z.2 ∙ e)

  -- ---- one letter more

  pub next_at : (i y r : ℕ) → Next h moves log t i y r → at (get_or prefix_list r []) ≡ more (at (get_or prefix_list i [])) y
  next_at i y r n =
      let li = inside_of i n.before in
      let lr = inside_of r n.inside in
      let c = get_or prefix_list i [] in
      let d = get_or prefix_list r [] in
      let small = small_more i y li n.letter in
      let long : length (bump c y) ≡ h.k = length-set c y (suc (at c y)) ∙ (prefix_at i li).0 in
      let e : packed layout d ≡ packed layout (bump c y) =
      sym (g.records.counts r lr) ∙ n.one_more ∙ next_packed t h.k prefix_list g.records i y li n.letter small in
      let s : d ≡ bump c y = packed_inj layout d (bump c y) ((prefix_at r lr).0 ∙ sym long) (omega (arith, (prefix_at r lr).0, g.records.letters)) (small_at r lr) small e in
      ap at s ∙ at_bump c y (omega (arith, n.letter, (prefix_at i li).0))

  pub next_of : (i y r : ℕ) → i < length prefix_list → r < length prefix_list → at (get_or prefix_list r []) ≡ more (at (get_or prefix_list i [])) y → y < h.k
      → Next h moves log t i y r
  next_of i y r li lr e yk = record {
    letter = yk;
    before = inside_at i li;
    inside = inside_at r lr;
    one_more =
        let c = get_or prefix_list i [] in
        let d = get_or prefix_list r [] in
        let s : d ≡ bump c y = same_counts d (bump c y) (prefix_at r lr).0 (length-set c y (suc (at c y)) ∙ (prefix_at i li).0)
        (e ∙ sym (at_bump c y (omega (arith, yk, (prefix_at i li).0)))) in
        g.records.counts r lr ∙ ap (packed layout) s ∙ sym (next_packed t h.k prefix_list g.records i y li yk (small_more i y li yk));
  }

  -- a letter that a prefix has is below k
  pub letter_below : (c : ℕ → ℕ) (y : ℕ) → IsPrefix may letter w (more c y) → y < h.k
  letter_below c y p = ⊎_elim (λ lt. lt) (λ ge. absurd (omega (arith, p.fits y, one_same y, count_above letter h.k w y events_below ge))) (lt_or_le y h.k)

  -- ---- the first record and the last

  front : List (List ℕ)
  front = flat_map (level may letter h.k w) (below (length w))

  list_ends : prefix_list ≡ flat_map (level may letter h.k w) (below (length w)) ++ (map (count letter w) (below h.k) ∷ [])
  list_ends =
      ap (flat_map (level may letter h.k w)) (below_suc (length w))
      ∙ flat_map_append (level may letter h.k w) (below (length w)) (length w ∷ [])
      ∙ ap (λ l. flat_map (level may letter h.k w) (below (length w)) ++ (l ++ [])) (level_whole may letter g.apart h.k w events_below)

  pub some_record : 0 < length prefix_list
  some_record = omega (
    arith,
    ap length list_ends,
    length-append (flat_map (level may letter h.k w) (below (length w))) (map (count letter w) (below h.k) ∷ []),
  )

  whole_prefix : IsPrefix may letter w (count letter w)
  whole_prefix = prefix_of_front may letter g.apart (front_all may w)

  pub last_at : (i : ℕ) → suc i ≡ length prefix_list → at (get_or prefix_list i []) ≡ count letter w
  last_at i e =
      let A = flat_map (level may letter h.k w) (below (length w)) in
      let whole = map (count letter w) (below h.k) in
      let n : i ≡ length A + 0 = omega (arith, e, ap length list_ends, length-append A (whole ∷ [])) in
      ap at (ap (λ l. get_or l i []) list_ends ∙ ap (λ j. get_or (A ++ (whole ∷ [])) j []) n ∙ get_or-append-add A (whole ∷ []) 0 [])
      ∙ at_prefix may letter g.apart h.k w events_below whole_prefix

  pub first_at : at (get_or prefix_list 0 []) ≡ (λ x. 0)
  first_at =
      ap (λ l. at (get_or (l ++ flat_map (level may letter h.k w) (range 1 (length w))) 0 [])) (level_first may letter g.apart h.k w events_below)
      ∙ fun_ext (λ x. zeros (below h.k) x)
    where
      zeros : (l : List ℕ) (x : ℕ) → at (map (λ x. 0) l) x ≡ 0
      zeros [] x = refl
      zeros (a ∷ l) zero = refl
      zeros (a ∷ l) (suc x) = zeros l x

  -- a prefix that leaves nothing is the whole log
  pub whole_of_none : (c : ℕ → ℕ) → IsPrefix may letter w c → unmarked letter w c ≡ [] → c ≡ count letter w
  whole_of_none c p e = fun_ext (λ x. omega (
    arith,
    count_front may letter (front_of_prefix may letter p) x,
    ap (λ f. f x) (count_of_prefix may letter p),
    ap (λ l. count letter l x) e,
  ))

  -- ---- moves, records, costs

  pub row_small : (q y : ℕ) → q < h.s → y < h.k → row h.k moves q y < 2 ^ h.s
  row_small q y qs yk = g.profile.moves_inside (row h.k moves q y) (mem_getd moves (q * h.k + y) 0 (omega (arith, digits_lt qs yk, g.profile.long)))

  pub laid : Laid h moves log t
  laid = record {
    later = λ i y r n. later i y r n;
    one = λ i y r r' n m. same_place r' r (inside_of r' m.inside) (inside_of r n.inside) (next_at i y r' m ∙ sym (next_at i y r n));
    state = λ q y q' qs yk b. bit_below h.s (row h.k moves q y) q' (row_small q y qs yk) b;
    start = g.profile.starts;
    finals = λ q b. bit_below h.s h.finals q g.profile.finals_inside b;
    some = inside_at 0 some_record;
  }
    where
      later : (i y r : ℕ) → Next h moves log t i y r → i < r
      later i y r n =
          let li = inside_of i n.before in
          let lr = inside_of r n.inside in
          let c = get_or prefix_list i [] in
          let d = get_or prefix_list r [] in
          let e : d ≡ bump c y = same_counts d (bump c y) (prefix_at r lr).0 (length-set c y (suc (at c y)) ∙ (prefix_at i li).0)
          (next_at i y r n ∙ sym (at_bump c y (omega (arith, n.letter, (prefix_at i li).0)))) in
          let more-total : total d ≡ suc (total c) = ap total e ∙ total_bump c y (omega (arith, n.letter, (prefix_at i li).0)) in
          ⊎_elim (λ lt. lt)
          (λ ge. ⊎_elim
          (λ lt. absurd (omega (arith, more-total, ranked_total d c (ranked_getd prefix_list (by_total_sorted may letter h.k w) r i lt li))))
          (λ le. let s : r ≡ i = omega (arith, le, ge) in absurd (omega (arith, more-total, ap (λ z. total (get_or prefix_list z [])) s))) (lt_or_le r i)) (lt_or_le i r)

  pub counted : (i : ℕ) → i < length prefix_list → count_field layout (counts_at t i) ≡ at (get_or prefix_list i [])
  counted i lt = ap (count_field layout) (g.records.counts i lt)
      ∙ field_all (get_or prefix_list i []) (omega (arith, (prefix_at i lt).0, g.records.letters)) (small_at i lt)

  pub cost_is : (i y : ℕ) → i < length prefix_list → cost_after h moves log t i y ≡ step_cost letter w (at (get_or prefix_list i [])) y
  cost_is i y lt = ap (λ f. step_cost (λ a. a) log f y) (counted i lt) ∙ ap (λ v. step_cost (λ a. a) v (at (get_or prefix_list i [])) y) (sym g.letters)
      ∙ sym (step_letters letter w (at (get_or prefix_list i [])) y)

  -- what the cost of a step is told from
  pub within : (j x r last : ℕ) → Next h moves log t j x r → suc last ≡ records_in t → Within h.k log (counts_at t j) (counts_at t last) x
  within j x r last n e = record {
    letter = n.letter;
    left = omega (arith, ap (λ f. f x) (counted j lj), ap (λ f. f x) (next_at j x r n), (prefix_at r lr).1.fits x, one_same x, log-count x);
    fits = λ y yk. omega (arith, ap (λ f. f y) (counted j lj), (prefix_at j lj).1.fits y, log-count y);
    all = λ y yk. ap (λ f. f y) (counted last (omega (arith, at_end)) ∙ last_at last at_end) ∙ log-count y;
  }
    where
      lj : j < length prefix_list
      lj = inside_of j n.before

      lr : r < length prefix_list
      lr = inside_of r n.inside

      at_end : suc last ≡ length prefix_list
      at_end = e ∙ g.records.many

      log-count : (y : ℕ) → count letter w y ≡ count (λ a. a) log y
      log-count y = sym (count_letters letter w y) ∙ ap (λ v. count (λ a. a) v y) g.letters
