-- From the records of all prefixes to the order, its swaps and the floor.
use mathlib.Core.Path.{◌≡◌, refl, sym, ◌∙◌, ap, subst}
use mathlib.Core.Bool.{Bool, true, not, true≢false}
use mathlib.Core.List.{List, [], ◌∷◌, ◌++◌, append-nil, map}
use mathlib.Core.Option.{Option, none, some}
use Prim.Native.Nat.{ℕ, suc, ◌+◌, ◌*◌, ◌-◌, ◌≤◌, ◌<◌}
use native.Mathlib.Nat.{suc-mul}
use native.Mathlib.Omega.{arith}
use lib.Dec.{T, leb→le, le→leb, ltb, not_T}
use lib.ListN.{length, take, drop, length-map}
use lib.Seq.{drop-nil, take_at}
use Rattle.profile.specs.Automata.{Profile, automaton}
use Rattle.profile.specs.Rules.{Rules, order_by}
use Rattle.profile.specs.Prefixes.{by_total, count}
use Rattle.profile.specs.Tables.{layout, record_length}
use Rattle.profile.specs.Traces.{bit, letters_below}
use Rattle.profile.proofs.Lists.{both, fst_of, snd_of}
use Rattle.profile.proofs.Sets.{bit_below}
use Rattle.profile.proofs.Traces.{order_of_reach, takes_length}
use Rattle.theory.proofs.Calls.{order_by_earliest, order_by_length}
use Rattle.theory.proofs.Levels.{by_total_length}
use Rattle.theory.proofs.Prefixes.{count_order}
use Rattle.theory.proofs.Profiles.{lawful}
use Rattle.records.specs.Drafts.{backward_set, filled, forward_set, in_order}
use Rattle.records.specs.Records.{counts_at, records_in}
use Rattle.records.proofs.Drafts.{drafts_length}
use Rattle.search.proofs.Prefixes.{records_many, whole_inside, whole_sorted}
use Rattle.earliest.specs.Earliest.{Table, found?, record_count, with_order}
use Rattle.earliest.proofs.Records.{listed}
use Rattle.swaps.specs.Closest.{after as after_th, covers, fewest_swaps, order_with, pair_swaps, pairs, smaller, sorted}
use Rattle.swaps.specs.Swaps.{swaps}
use Rattle.swaps.proofs.Bounds.{fewest_small}
use Rattle.swaps.proofs.Letters.{swaps_letters}
use Rattle.swaps.proofs.Pairs.{count_letters}
use Rattle.swaps.proofs.Floors.{covered, covered_order, fewest_swaps_at, fewest_swaps_some, floor_is, not_covered, order_with_at, order_with_some}
use Rattle.stepcost.specs.StepCosts.{Placed}
use Rattle.costcells.specs.Cells.{Least, cell, cost_in, pair_costs}
use Rattle.costcursors.specs.Cursors.{Lists}
use Rattle.costtable.specs.Costs.{Filled, Lent}
use Rattle.costreadings.proofs.Readings.{fewest_found}
use Rattle.orderswaps.specs.Arranged.{Arranged}
use Rattle.costwalk.specs.Walk.{Rows, RowsThere}
use Rattle.costwalk.proofs.Listing.{pairs_listed}
use Rattle.costwalk.proofs.Rows.{few_events, last_counts, some_record, whole_counts}
use Rattle.closestanswer.specs.Answers.{Close}
use Rattle.closestorder.specs.Held.{Held}

-- what a pass leaves, in the words of the walk
pub rows_of : {p : Profile} {may : ℕ → ℕ → Bool} {letter : ℕ → ℕ} {w t log starts places before costs : List ℕ} {f : List ℕ → ℕ → Option ℕ}
    → Lent p may letter w t log starts places → records_in t * p.s ≤ length before → Filled (by_total may letter p.k w) p.s f before costs
    → Rows (by_total may letter p.k w) p.s f costs
rows_of {p} g room r = record { room = omega (arith, ap (λ n. n * p.s) g.records.many, room, r.as_long); cells = r.cells }

below_letters : (letter : ℕ → ℕ) (k : ℕ) (w : List ℕ) → T (letters_below letter k w) → T (letters_below (λ a. a) k (map letter w))
below_letters letter k [] h = tt
below_letters letter k (a ∷ w) h =
    both (ltb (letter a) k) (letters_below (λ a. a) k (map letter w)) (fst_of (ltb (letter a) k) (letters_below letter k w) h)
    (below_letters letter k w (snd_of (ltb (letter a) k) (letters_below letter k w) h))

module _ {p : Rules} {w log t : List ℕ} (h : Held p w log t) where
  -- ---- the records

  as_many : length (in_order p w) ≡ record_count p w
  as_many = by_total_length p.may p.letter p.profile.k w h.events.letters

  -- as the extraction of the judge's order asks
  pub as_table : Table p w t
  as_table =
      let n = record_length layout * record_count p w in record {
        profile = h.profile;
        log = h.events;
        before = [];
        holds = h.exact ∙ sym (ap (◌++◌ (filled p w (in_order p w))) (drop-nil n) ∙ append-nil (filled p w (in_order p w)));
        room = omega (arith, ap length h.exact, drafts_length (forward_set p w) (backward_set p w) (in_order p w), as_many);
      }

  pub all_listed : records_in t ≡ length (in_order p w)
  all_listed = ap records_in h.exact ∙ records_many p w h.profile h.events (in_order p w) (whole_sorted p w h.events) (whole_inside p w h.events)

  pub count_records : records_in t ≡ record_count p w
  count_records = all_listed ∙ as_many

  pub lent : {starts places : List ℕ} → Placed p.profile.k log starts places → Lent p.profile p.may p.letter w t log starts places
  lent placed = record { profile = h.profile; apart = h.events.apart; letters = h.letters; placed = placed; records = subst (λ l. Lists l p.profile.k (in_order p w)) (sym h.exact) (listed p w h.profile h.events) }

  pub fewest_below : {starts places : List ℕ} {n : ℕ} → Placed p.profile.k log starts places → fewest_swaps p.may p.letter (automaton p.profile) w ≡ some n → n ≤ 16000000
  fewest_below placed e = fewest_small p.may p.letter (automaton p.profile) (lawful p.profile) w h.events.apart (few_events (lent placed)) e

  -- the log has the letters of the events
  pub log_below : T (letters_below (λ a. a) p.profile.k log)
  log_below = subst (λ l. T (letters_below (λ a. a) p.profile.k l)) h.letters (below_letters p.letter p.profile.k w h.events.letters)

  pub as_long : length w ≡ length log
  as_long = sym (length-map w p.letter) ∙ ap length h.letters

  count_log : (y : ℕ) → count p.letter w y ≡ count (λ a. a) log y
  count_log y = sym (count_letters p.letter w y) ∙ ap (λ l. count (λ a. a) l y) h.letters

  -- ---- some order is accepted

  module _ (found : found? (order_by p w) ≡ true) where
    pub judges : (v : List ℕ) × (order_by p w ≡ some v)
    judges = go (order_by p w) refl
      where
        go : (o : Option (List ℕ)) → order_by p w ≡ o → (v : List ℕ) × (order_by p w ≡ some v)
        go none e = absurd (true≢false (sym found ∙ ap found? e))
        go (some v) e = (v, e)

    pub some_fewest : (n : ℕ) × (fewest_swaps p.may p.letter (automaton p.profile) w ≡ some n)
    some_fewest =
        let x = (order_by_earliest p w judges.1).0.2 in
        fewest_swaps_some p.may p.letter (automaton p.profile) (lawful p.profile) w x.reached x.accepted

    -- the judge's order in the buffer
    judges_long : length judges.0 ≡ length w
    judges_long = order_by_length p w judges.1

    written : (before after : List ℕ) → after ≡ with_order (order_by p w) before → after ≡ judges.0 ++ drop (length w) before
    written before after e = e ∙ ap (λ o. with_order o before) judges.1 ∙ ap (λ n. judges.0 ++ drop n before) judges_long

    front : (before after : List ℕ) → after ≡ with_order (order_by p w) before → take (length w) after ≡ judges.0
    front before after e = ap (take (length w)) (written before after e) ∙ take_at judges.0 (drop (length w) before) (length w) judges_long

    front_log : (before after : List ℕ) → after ≡ with_order (order_by p w) before → take (length log) after ≡ judges.0
    front_log before after e = ap (λ n. take n after) (sym as_long) ∙ front before after e

    pub arranged : {starts places : List ℕ} → Placed p.profile.k log starts places → (before after : List ℕ) → length log ≤ length after
        → after ≡ with_order (order_by p w) before → Arranged p.profile.k log (counts_at t (records_in t - 1)) after
    arranged placed before after room e =
        let x = (order_by_earliest p w judges.1).0 in
        record {
          long = room;
          same = λ y. ap (λ l. count (λ a. a) l y) (front_log before after e ∙ sym x.1) ∙ count_letters p.letter x.0 y
              ∙ sym (ap (λ f. f y) (count_order p.may p.letter (order_of_reach p.may x.2.reached))) ∙ count_log y;
          all = λ y l. whole_counts (lent placed) y ∙ count_log y;
        }

    -- ---- the cost table is filled

    module _ {starts places costs : List ℕ} (placed : Placed p.profile.k log starts places) (r : RowsThere p.profile p.may p.letter w costs) where
      some_listed : 1 ≤ length (in_order p w)
      some_listed = omega (arith, some_record (lent placed), all_listed)

      -- the last row is that of all events
      last_row : records_in t * p.profile.s - p.profile.s ≡ (length (in_order p w) - 1) * p.profile.s
      last_row =
          let n = length (in_order p w) - 1 in
          let e : suc n ≡ length (in_order p w) = omega (arith, some_listed) in
          omega (arith, ap (λ i. i * p.profile.s) all_listed, ap (λ i. i * p.profile.s) e, suc-mul n p.profile.s)

      -- what `least_in` finds there
      pub fewest_is : (m row : ℕ) → row ≡ records_in t * p.profile.s - p.profile.s → Least costs row p.profile.finals m
          → fewest_swaps p.may p.letter (automaton p.profile) w ≡ some m
      fewest_is m row e least =
          let few = some_fewest in
          let n = length (in_order p w) - 1 in
          let cells : (q : ℕ) → T (bit p.profile.finals q) → cost_in costs (row + q) ≡ cell (pair_swaps p.may p.letter (automaton p.profile) w (count p.letter w) q) = λ q b.
          ap (λ i. cost_in costs (i + q)) (e ∙ last_row) ∙ r.cells n q (omega (arith, some_listed)) (bit_below p.profile.s p.profile.finals q h.profile.finals_inside b)
          ∙ ap (λ f. cell (pair_swaps p.may p.letter (automaton p.profile) w f q)) (last_counts (lent placed) n (omega (arith, some_listed))) in
          few.1 ∙ ap some (sym (fewest_found p.may p.letter (automaton p.profile) (lawful p.profile) w h.events.apart (few_events (lent placed)) few.0 few.1 costs row m least cells))

      pub all_pairs : {n : ℕ} → n ≡ records_in t * p.profile.s → pair_costs (take n costs) ≡ pairs p.may p.letter (automaton p.profile) p.profile.k p.profile.s w
      all_pairs e = ap (λ n. pair_costs (take n costs)) (e ∙ ap (λ n. n * p.profile.s) all_listed) ∙ pairs_listed (lent placed) r

      module _ (B n few : ℕ) (is_all : n ≡ records_in t * p.profile.s) (is-few : fewest_swaps p.may p.letter (automaton p.profile) w ≡ some few) (before after : List ℕ) where
        -- B does not cover all pairs: the judge's order
        pub close_judges : (f c : ℕ) → B < length (pair_costs (take n costs)) → f ≡ smaller few (after_th B (sorted (pair_costs (take n costs))))
            → c ≡ swaps (λ a. a) log (take (length log) after) → after ≡ with_order (order_by p w) before → Close p w B before after c f
        close_judges f c less is-floor is-swaps e = record {
          order = judges.0;
          is_order = not_covered p.may p.letter (automaton p.profile) (lawful p.profile) w p.profile.k p.profile.s B
              (not_T (covers p.may p.letter (automaton p.profile) p.profile.k p.profile.s w B) (λ k.
              omega (arith, leb→le (length (pairs p.may p.letter (automaton p.profile) p.profile.k p.profile.s w)) B k, less, ap length (all_pairs is_all)))) ∙ judges.1;
          written = written before after e;
          its_swaps = is-swaps ∙ ap (λ l. swaps (λ a. a) l (take (length log) after)) (sym h.letters) ∙ sym (swaps_letters p.letter w (take (length log) after))
              ∙ ap (swaps p.letter w) (front_log before after e);
          its_floor = floor_is p.may p.letter (automaton p.profile) (lawful p.profile) w p.profile.k p.profile.s B is-few
              ∙ ap some (sym (is-floor ∙ ap (λ l. smaller few (after_th B (sorted l))) (all_pairs is_all)));
        }

        -- B covers all pairs: the earliest order of the fewest swaps
        pub close_best : length (pair_costs (take n costs)) ≤ B → after ≡ with_order (order_with p.may p.letter (automaton p.profile) w few) before
            → Close p w B before after few few
        close_best le e =
            let M = automaton p.profile in
            let u = fewest_swaps_at p.may p.letter M (lawful p.profile) w is-few in
            let v = order_with_some p.may p.letter M (lawful p.profile) w u.1 u.2 u.3 in
            let z = order_with_at p.may p.letter M (lawful p.profile) w v.1 in
            let k : T (covers p.may p.letter M p.profile.k p.profile.s w B) =
            le→leb (length (pairs p.may p.letter M p.profile.k p.profile.s w)) B (omega (arith, le, ap length (all_pairs is_all))) in
            let o = covered_order p.may p.letter M (lawful p.profile) w p.profile.k p.profile.s B k is-few ∙ v.1 in
            let long : length v.0 ≡ length w = omega (arith, takes_length p.may (order_of_reach p.may z.reached), length-map z.order p.letter, ap length z.letters) in
            record {
              order = v.0;
              is_order = o;
              written = e ∙ ap (λ i. with_order i before) v.1 ∙ ap (λ i. v.0 ++ drop i before) long;
              its_swaps = sym z.with_swaps;
              its_floor = (covered p.may p.letter M (lawful p.profile) w p.profile.k p.profile.s B k o).0 ∙ ap some z.with_swaps;
            }
