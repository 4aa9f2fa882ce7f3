-- The walk letter by letter: what is written and taken after each letter, and that all of it is the earliest order of the fewest swaps.
use mathlib.Core.Path.{◌≡◌, refl, sym, ◌∙◌, ap, subst, subst₂}
use mathlib.Core.Bool.{Bool}
use mathlib.Core.List.{List, [], ◌∷◌, ◌++◌, append_assoc, map, map-append}
use mathlib.Core.Option.{some}
use Prim.Native.Nat.{ℕ, suc, ◌+◌, ◌-◌, ◌*◌, ◌%◌, ◌^◌, ◌≤◌, ◌<◌}
use native.Mathlib.Nat.{one-mul}
use native.Mathlib.Numerals.{add-one}
use native.Mathlib.Omega.{arith}
use lib.Dec.{T}
use lib.ListN.{length, get_or, set, drop, drop_of_length-le, length-append, length-drop, length-map}
use lib.Pow.{shl_exact}
use lib.Seq.{drop-cons, set_at}
use Rattle.profile.specs.Automata.{Profile, automaton, forward_step, profile_of}
use Rattle.profile.specs.Limits.{most_letters, most_states}
use Rattle.profile.specs.declared.Shape.{Shape}
use Rattle.profile.specs.Lists.{Mem, below}
use Rattle.profile.specs.Prefixes.{IsPrefix, addable?, at, by_total, more, unmarked}
use Rattle.profile.specs.Tables.{count_field, layout, packed}
use Rattle.profile.proofs.Traces.{takes_length}
use Rattle.theory.proofs.Automata.{prefix_none, unmarked_none}
use Rattle.theory.proofs.Counting.{length_range}
use Rattle.theory.proofs.Earliest.{end, greedy_append}
use Rattle.theory.proofs.Levels.{at_bump, bump}
use Rattle.theory.proofs.Merge.{at_prefix}
use Rattle.theory.proofs.Packing.{packed_zero}
use Rattle.theory.proofs.Profiles.{lawful}
use Rattle.counts.specs.Counts.{add_count}
use Rattle.swaps.specs.Closest.{fewest_swaps, order_with}
use Rattle.swaps.specs.Swaps.{step_cost}
use Rattle.swaps.proofs.Bounds.{fewest_small}
use Rattle.swaps.proofs.Walks.{Fits, Read, ReadBy, Walk, goes_on, read_all, read_on, rest_goes, unread, walk_order, walk_some, walk_starts, walk_step}
use Rattle.earliest.specs.Earliest.{with_order}
use Rattle.costtable.specs.Costs.{Lent}
use Rattle.costwalk.specs.Walk.{Chooses, Chosen, Ends, Known, Leads, Puts, RowsOut, Some, Standing}
use Rattle.costwalk.specs.declared.Choice.{Choice}
use Rattle.successors.proofs.More.{more_in_order, more_packed, of_prefix, prefix_of}
use Rattle.costwalk.proofs.Rows.{as_many, below_k, few_events, fields, recorded}

module _ {p : Profile} {may : ℕ → ℕ → Bool} {letter : ℕ → ℕ} {w t log starts places costs : List ℕ} {n : ℕ} (g : Lent p may letter w t log starts places)
    (right : RowsOut p may letter w costs) (few : fewest_swaps may letter (automaton p) w ≡ some n) where
  -- the words of the walk, for these events
  abbrev State : Type 0
  State = Read may letter (automaton p) (lawful p) w g.apart n

  abbrev begun : State
  begun = unread may letter (automaton p) (lawful p) w g.apart n

  abbrev Walked : List ℕ → State → List ℕ → Type 0
  Walked u s l = Walk may letter (automaton p) (lawful p) w g.apart n begun w u s l

  abbrev ReadTo : List ℕ → State → Type 0
  ReadTo u s = ReadBy may letter (automaton p) (lawful p) w g.apart n u s

  abbrev Live : State → List ℕ → Type 0
  Live s l = T (goes_on may letter (automaton p) (lawful p) w g.apart n s l)

  abbrev Fitting : State → ℕ → Type 0
  Fitting s x = Fits may letter (automaton p) (lawful p) w g.apart n few s x

  -- i letters are written to the front of the buffer `before`, which is `now`: those of the events taken, whose counts are the numbers c, which lead to
  -- the states S and leave `left` of the n swaps; an order of n swaps goes on
  pub record Taken (before : List ℕ) (i : ℕ) (now c : List ℕ) (S left : ℕ) : Type 0 where
    pub events : List ℕ
    pub counts : List ℕ
    pub spent : ℕ
    pub prefix : Mem counts (by_total may letter p.k w)
    pub numbers : c ≡ packed layout counts
    pub walk : Walked events (at counts, spent, S) (unmarked letter w (at counts))
    pub by : ReadTo events (at counts, spent, S)
    pub goes : Live (at counts, spent, S) (unmarked letter w (at counts))
    pub sum : spent + left ≡ n
    pub long : length events ≡ i
    pub there : now ≡ map letter events ++ drop i before

  n_small : n ≤ 16000000
  n_small = fewest_small may letter (automaton p) (lawful p) w g.apart (few_events g) few

  -- ---- nothing is taken

  no_counts : at (map (λ x. 0) (below p.k)) ≡ (λ x. 0)
  no_counts = at_prefix may letter g.apart p.k w (below_k g) (prefix_none may letter (automaton p) (lawful p) w g.apart)

  pub taken_none : (before c : List ℕ) → c ≡ packed layout [] → Taken before 0 before c (automaton p).start n
  taken_none before c e =
      let z : List ℕ = map (λ x. 0) (below p.k) in
      let first = walk_starts may letter (automaton p) (lawful p) w g.apart n few in
      let all = unmarked_none may letter (automaton p) (lawful p) w g.apart in
      record {
        events = [];
        counts = z;
        spent = 0;
        prefix = of_prefix (recorded g) z (length_range (λ x. 0) p.k 0) (subst (IsPrefix may letter w) (sym no_counts) (prefix_none may letter (automaton p) (lawful p) w g.apart));
        numbers = e ∙ sym (packed_zero layout p.k);
        walk = subst (λ f. Walked [] (f, 0, (automaton p).start) (unmarked letter w f)) (sym no_counts)
            (subst (Walked [] begun) (sym all) end);
        by = subst (λ f. ReadTo [] (f, 0, (automaton p).start)) (sym no_counts) first.1;
        goes = subst (λ f. Live (f, 0, (automaton p).start) (unmarked letter w f)) (sym no_counts)
            (subst (Live begun) (sym all) first.0);
        sum = omega arith;
        long = refl;
        there = refl;
      }

  -- ---- one letter more

  module _ {before now c : List ℕ} {i S left : ℕ} (r : Taken before i now c S left) where
    pub taken_standing : Standing p may letter w t log starts places costs c left
    taken_standing = record { lent = g; right = right; counts = r.counts; prefix = r.prefix; numbers = r.numbers; small = omega (arith, n_small, r.sum) }

    pub taken_length : i ≤ length before → length now ≡ length before
    taken_length h = ap length r.there ∙ omega (arith, length-append (map letter r.events) (drop i before), length-drop i before, length-map r.events letter, r.long)

    counted : count_field layout c ≡ at r.counts
    counted = ap (count_field layout) r.numbers ∙ fields g r.counts r.prefix

    -- what is left of the log
    left_over : i + length (unmarked letter w (at r.counts)) ≡ length w
    left_over = omega (arith, takes_length may r.by.taken, r.long)

    -- that an end is reached, in the words of the walk
    fits_at_end : (x : ℕ) → Ends p may letter w (at r.counts) S left x → Fitting (at r.counts, r.spent, S) x
    fits_at_end x e = (e.1, e.2, e.3, e.4, omega (arith, e.5, r.sum))

    end_of_fits : (x : ℕ) → T (addable? may letter w (at r.counts) x) → Fitting (at r.counts, r.spent, S) x
        → Ends p may letter w (at r.counts) S left x
    end_of_fits x a f = (a, f.0, f.1, f.2, f.3, omega (arith, f.4, r.sum))

    pub taken_some : i < length w → Some p may letter w (count_field layout c) S left
    taken_some h =
        let s = walk_some may letter (automaton p) (lawful p) w g.apart n few p.k (below_k g) (at r.counts, r.spent, S) (prefix_of (recorded g) r.counts r.prefix).1
        (λ e. omega (arith, h, left_over, ap length e)) r.goes in
        subst (λ f. Some p may letter w f S left) (sym counted) (s.0, s.1, end_of_fits s.0 s.2 s.3)

    pub taken_next : i < length w → length w ≤ length before → (o : Choice) → Chosen p may letter w (count_field layout c) S left o
        → (o.cost ≤ left) × Taken before (suc i) (set now i o.letter) (add_count layout c o.letter) ((automaton p).step S o.letter) (left - o.cost)
    taken_next h room o chosen = (
      omega (arith, chosen.cost, chosen.ends.5),
      record {
        events = r.events ++ (a ∷ []);
        counts = bump v x;
        spent = r.spent + step_cost letter w (at v) x;
        prefix = more_in_order (recorded g) v r.prefix x chosen.below ends.0;
        numbers = ap (λ m. add_count layout m x) r.numbers ∙ more_packed (recorded g) v x chosen.below r.prefix;
        walk = subst (λ f. Walked (r.events ++ (a ∷ [])) (f, r.spent + step_cost letter w (at v) x, (automaton p).step S x) (unmarked letter w f)) (sym more-is)
            (greedy_append may letter (read_on may letter (automaton p) (lawful p) w g.apart n) (read_all may letter (automaton p) (lawful p) w g.apart n) (goes_on may letter (automaton p) (lawful p) w g.apart n) r.walk step.2);
        by = subst (λ f. ReadTo (r.events ++ (a ∷ [])) (f, r.spent + step_cost letter w (at v) x, (automaton p).step S x)) (sym more-is) step.3;
        goes = subst (λ f. Live (f, r.spent + step_cost letter w (at v) x, (automaton p).step S x) (unmarked letter w f)) (sym more-is)
            (let f = fits_at_end x ends in rest_goes may letter (automaton p) (lawful p) w g.apart n few (read_on may letter (automaton p) (lawful p) w g.apart n (at v, r.spent, S) x) f.0 f.1 step.3 f.2 f.3 f.4);
        sum = omega (arith, r.sum, ends.5, own_cost);
        long = omega (arith, length-append r.events (a ∷ []), r.long);
        there = put;
      },
    )
      where
        v : List ℕ
        v = r.counts

        x : ℕ
        x = o.letter

        ends : Ends p may letter w (at v) S left x
        ends = subst (λ f. Ends p may letter w f S left x) counted chosen.ends

        own_cost : o.cost ≡ step_cost letter w (at v) x
        own_cost = chosen.cost ∙ ap (λ f. step_cost letter w f x) counted

        more-is : at (bump v x) ≡ more (at v) x
        more-is = at_bump v x (omega (arith, chosen.below, (prefix_of (recorded g) v r.prefix).0))

        step : (a : ℕ) × (letter a ≡ x) × Walk may letter (automaton p) (lawful p) w g.apart n (at v, r.spent, S) (unmarked letter w (at v)) (a ∷ []) (read_on may letter (automaton p) (lawful p) w g.apart n (at v, r.spent, S) x) (unmarked letter w (more (at v) x))
            × ReadTo (r.events ++ (a ∷ [])) (read_on may letter (automaton p) (lawful p) w g.apart n (at v, r.spent, S) x) × IsPrefix may letter w (more (at v) x)
        step = walk_step may letter (automaton p) (lawful p) w g.apart n few (at v, r.spent, S) x (prefix_of (recorded g) v r.prefix).1 r.by ends.0 (fits_at_end x ends)
            (λ y lt s f. chosen.first y lt (subst (λ c. Ends p may letter w c S left y) (sym counted) (end_of_fits y s f)))

        a : ℕ
        a = step.0

        put : set now i x ≡ map letter (r.events ++ (a ∷ [])) ++ drop (suc i) before
        put =
            ap (λ l. set l i x) (r.there ∙ ap (◌++◌ (map letter r.events)) (drop-cons before i 0 (omega (arith, h, room))))
            ∙ set_at (map letter r.events) (get_or before i 0) (drop (suc i) before) x i (length-map r.events letter ∙ r.long)
            ∙ sym (append_assoc (map letter r.events) (x ∷ []) (drop (suc i) before))
            ∙ ap (λ l. l ++ drop (suc i) before) (ap (λ y. map letter r.events ++ (y ∷ [])) (sym step.1) ∙ sym (map-append letter r.events (a ∷ [])))

  -- ---- all of it

  pub taken_all : {before now c : List ℕ} {S left : ℕ} → Taken before (length w) now c S left → now ≡ with_order (order_with may letter (automaton p) w n) before
  taken_all {before} {now} {c} {S} {left} r =
      let first = walk_starts may letter (automaton p) (lawful p) w g.apart n few in
      let rest = unmarked letter w (at r.counts) in
      let whole : rest ≡ [] = drop_of_length-le rest {i = 0} (omega (arith, left_over r)) in
      let all = walk_order may letter (automaton p) (lawful p) w g.apart n first.0
      (subst (Walked r.events (at r.counts, r.spent, S)) whole r.walk) in
      r.there ∙ ap (λ m. map letter r.events ++ drop m before) (sym (length-map r.events letter ∙ r.long)) ∙ sym (ap (λ z. with_order z before) all)

-- ---- over all events that are lent

module _ (h : Shape) (moves t log starts places costs : List ℕ) (n : ℕ) (before : List ℕ) where
  abbrev pub Walks : ℕ → List ℕ → List ℕ → ℕ → ℕ → Type 0
  Walks i now c S left = (masks : List ℕ) (may : ℕ → ℕ → Bool) (letter : ℕ → ℕ) (w : List ℕ) (g : Lent (profile_of h masks moves) may letter w t log starts places)
      (right : RowsOut (profile_of h masks moves) may letter w costs) (few : fewest_swaps may letter (automaton (profile_of h masks moves)) w ≡ some n)
      → Taken g right few before i now c S left

  -- 1, shifted by the start state, is the set of start states
  pub walks_none : (c : List ℕ) → c ≡ packed layout [] → Walks 0 before c (1 * 2 ^ h.start % 2 ^ 32) n
  walks_none c e masks may letter w g right few =
      let start : 1 * 2 ^ h.start % 2 ^ 32 ≡ 2 ^ h.start =
      shl_exact 1 h.start 32 (omega arith) (omega (arith, g.profile.starts, g.profile.states.1)) ∙ one-mul (2 ^ h.start) in
      subst (λ S. Taken g right few before 0 before c S n) (sym start) (taken_none g right few before c e)

  module _ {i S left : ℕ} {now c : List ℕ} (k : Walks i now c S left) where
    -- what the next letter asks for
    pub walks_lead : Known h moves t log starts places costs n → i < length log → Leads h moves t log starts places costs c S left
    walks_lead z lt =
        let r = k z.masks z.may z.letter z.events z.lent z.right z.fewest in
        record {
          stands = record { masks = z.masks; may = z.may; letter = z.letter; events = z.events; standing = taken_standing z.lent z.right z.fewest r };
          some = taken_some z.lent z.right z.fewest r (omega (arith, lt, as_many z.lent));
        }

    module _ (lt : i < length log) (room : length log ≤ length before) (o : Choice) (chosen : Chooses h moves t log starts places costs c S left o) where
      pub walks_below : Known h moves t log starts places costs n → (o.letter < h.k) × (h.k ≤ most_letters) × (h.s ≤ most_states) × (o.cost ≤ left)
      unfolding walks_lead
      walks_below z =
          let l = walks_lead z lt in
          let d = chosen z.masks z.may z.letter z.events l.stands.standing l.some in
          (d.below, z.lent.profile.relation.most, z.lent.profile.states.1, omega (arith, d.cost, d.ends.5))

      pub walks_next : {c' : List ℕ} {S' left' : ℕ} → c' ≡ add_count layout c o.letter → S' ≡ forward_step h.k h.s moves S o.letter → left' ≡ left - o.cost
          → Walks (i + 1) (set now i o.letter) c' S' left'
      walks_next {c'} {S'} {left'} e₀ e₁ e₂ masks may letter w g right few =
          let r = k masks may letter w g right few in
          let less : i < length w = omega (arith, lt, as_many g) in
          let d = chosen masks may letter w (taken_standing g right few r) (taken_some g right few r less) in
          let n₀ = (taken_next g right few r less (omega (arith, room, as_many g)) o d).1 in
          let l = set now i o.letter in
          let n₁ = subst (λ d. Taken g right few before (suc i) l d (forward_step h.k h.s moves S o.letter) (left - o.cost)) (sym e₀) n₀ in
          let n₂ = subst₂ (λ S left. Taken g right few before (suc i) l c' S left) (sym e₁) (sym e₂) n₁ in
          subst (λ j. Taken g right few before j l c' S' left') (sym (add-one i)) n₂

  pub walks_all : {S left : ℕ} {now c : List ℕ} → Walks (length log) now c S left → Puts h moves t log starts places costs n before now
  walks_all {S} {left} {now} {c} k masks may letter w g right few =
      taken_all g right few (subst (λ i. Taken g right few before i now c S left) (sym (as_many g)) (k masks may letter w g right few))
