-- The turns of one letter, put from the last event to the first, and those of all letters, put from the last letter to the first.
use mathlib.Core.Path.{◌≡◌, refl, sym, ◌∙◌, ap, ap₂, subst}
use mathlib.Core.Bool.{not, cond}
use mathlib.Core.Logic.{⊎_elim, ◌≢◌}
use mathlib.Core.List.{List, [], ◌∷◌, ◌++◌, map}
use Prim.Native.Nat.{ℕ, zero, suc, ◌+◌, ◌-◌, ◌/◌, ◌%◌, ◌≤◌, ◌<◌}
use native.Mathlib.Omega.{arith}
use lib.Dec.{T, not_T, eqb, eqb→eq, eqb_refl, ltb, ltb→lt}
use lib.ListN.{length, get_or, set, drop, length-append, length-map, length-set, drop_of_length-le}
use lib.Seq.{drop-cons, length-sets, set_comm, set-set, sets, sets-eq}
use Rattle.profile.specs.Limits.{longest}
use Rattle.profile.specs.Lists.{all, below, flat_map, range}
use Rattle.profile.specs.Traces.{letters_below}
use Rattle.profile.specs.Prefixes.{count}
use Rattle.profile.proofs.Lists.{all_at, both, flat_map_append, fst_of, lt_or_le, mem_getd, range_append, snd_of}
use Rattle.places.specs.Places.{places_from}
use Rattle.places.proofs.Places.{place_table_length, places_length, places_no, places_within, places_yes}
use Rattle.terms.specs.Coded.{code_letter, code_term}
use Rattle.turns.specs.Turns.{past_terms, place_bound, turn, turn_table, turns_from, turns_of}
use Rattle.turns.proofs.Turns.{other_first, turns_length, turns_no, turns_yes}
use Rattle.turns.proofs.Tables.{turn_table_length, turn_table_suc}

-- ---- stores

-- a store before a run of stores
pub sets_before : (vs l : List ℕ) (i j v : ℕ) → j < i → i + length vs ≤ length l → set (sets l i vs) j v ≡ sets (set l j v) i vs
sets_before [] l i j v h k = refl
sets_before (a ∷ vs) l i j v h k =
    sets_before vs (set l i a) (suc i) j v (omega arith) (omega (arith, length-set l i a))
    ∙ ap (λ m. sets m (suc i) vs) (set_comm l i j a v (λ e. omega arith))

-- a run of stores before another
pub sets_joined : (us vs l : List ℕ) (j : ℕ) → j + length us + length vs ≤ length l → sets (sets l (j + length us) vs) j us ≡ sets l j (us ++ vs)
sets_joined [] vs l j h = let e : j + 0 ≡ j = omega arith in ap (λ i. sets l i vs) e
sets_joined (u ∷ us) vs l j h =
    let e : j + suc (length us) ≡ suc j + length us = omega arith in
    ap (λ m. sets m (suc j) us) (sets_before vs l (j + suc (length us)) j u (omega arith) h)
    ∙ ap (λ i. sets (sets (set l j u) i vs) (suc j) us) e
    ∙ sets_joined us vs (set l j u) (suc j) (omega (arith, length-set l j u))

-- a store that a run of stores covers
sets_over : (vs l : List ℕ) (i j v : ℕ) → i ≤ j → j < i + length vs → sets (set l j v) i vs ≡ sets l i vs
sets_over [] l i j v h k = absurd (omega arith)
sets_over (a ∷ vs) l i j v h k = ⊎_elim
    (λ lt. ap (λ m. sets m (suc i) vs) (set_comm l j i v a (λ e. omega arith)) ∙ sets_over vs (set l i a) (suc i) j v lt (omega arith))
    (λ le. let e : i ≡ j = omega arith in ap (λ m. sets m (suc i) vs) (ap (λ n. set (set l n v) i a) (sym e) ∙ set-set l i v a))
    (lt_or_le i j)

-- ---- the turns of one letter

-- the turns of the events from place i on, their first turn and their first place
module _ (w : List ℕ) (x : ℕ) where
  abbrev pub turns_left : ℕ → List ℕ
  turns_left i = turns_from i x (drop i w)

  abbrev pub turn_first : ℕ → ℕ
  turn_first i = get_or (turns_left i) 0 0

  abbrev pub place_at_first : ℕ → ℕ
  place_at_first i = get_or (places_from i x (map code_letter (drop i w))) 0 0

  -- an event of another letter
  pub turns_left_no : (i : ℕ) → i < length w → code_letter (get_or w i 0) ≢ x → (turns_left i ≡ turns_left (suc i)) × (place_at_first i ≡ place_at_first (suc i))
  turns_left_no i h ne =
      let e = drop-cons w i 0 h in
      let t : T (not (eqb (code_letter (get_or w i 0)) x)) = not_T (eqb (code_letter (get_or w i 0)) x) (λ t. ne (eqb→eq (code_letter (get_or w i 0)) x t)) in (
        ap (turns_from i x) e ∙ turns_no i x (get_or w i 0) (drop (suc i) w) t,
        ap (λ l. get_or (places_from i x (map code_letter l)) 0 0) e ∙ ap (λ l. get_or l 0 0) (places_no i x (code_letter (get_or w i 0)) (map code_letter (drop (suc i) w)) t),
      )

  -- an event of letter x: its turn from the first turn and the first place behind it
  pub turns_left_yes : (i : ℕ) → i < length w → code_letter (get_or w i 0) ≡ x → code_term (get_or w i 0) < past_terms → suc i + length (drop (suc i) w) < place_bound
      → (turns_left i ≡ turn (code_term (get_or w i 0)) (cond (eqb (turn_first (suc i) / place_bound) (code_term (get_or w i 0))) (turn_first (suc i) % place_bound) (place_at_first (suc i))) ∷ turns_left (suc i))
      × (place_at_first i ≡ i)
  turns_left_yes i h e small short =
      let d = drop-cons w i 0 h in
      let t : T (eqb (code_letter (get_or w i 0)) x) = subst (λ z. T (eqb (code_letter (get_or w i 0)) z)) e (eqb_refl (code_letter (get_or w i 0))) in (
        ap (turns_from i x) d ∙ turns_yes i x (get_or w i 0) (drop (suc i) w) t
            ∙ ap (λ o. turn (code_term (get_or w i 0)) o ∷ turns_left (suc i)) (other_first (suc i) x (code_term (get_or w i 0)) (drop (suc i) w) small short),
        ap (λ l. get_or (places_from i x (map code_letter l)) 0 0) d ∙ ap (λ l. get_or l 0 0) (places_yes i x (code_letter (get_or w i 0)) (map code_letter (drop (suc i) w)) t),
      )

  -- ---- how many, and how large

  count_drop : (l : List ℕ) (i : ℕ) → count (λ a. a) (map code_letter (drop i l)) x ≤ count (λ a. a) (map code_letter l) x
  count_drop [] zero = omega arith
  count_drop [] (suc i) = omega arith
  count_drop (e ∷ l) zero = omega arith
  count_drop (e ∷ l) (suc i) = omega (arith, count_drop l i)

  -- no more turns are left than there are
  pub turns_left_most : (i : ℕ) → length (turns_left i) ≤ length (turns_of w x)
  turns_left_most i = omega (
    arith,
    turns_length i x (drop i w),
    places_length i x (map code_letter (drop i w)),
    turns_length 0 x w,
    places_length 0 x (map code_letter w),
    count_drop w i,
  )

  -- a letter has at least one turn
  pub turns_some : 1 ≤ length (turns_of w x)
  turns_some = omega (arith, turns_length 0 x w, places_length 0 x (map code_letter w))

  drop_length : (l : List ℕ) (i : ℕ) → i ≤ length l → i + length (drop i l) ≡ length l
  drop_length l zero h = omega arith
  drop_length [] (suc i) h = absurd (omega arith)
  drop_length (e ∷ l) (suc i) h = omega (arith, drop_length l i (omega arith))

  pub place_within : (i : ℕ) → i ≤ length w → place_at_first i ≤ length w
  place_within i h =
      let l = map code_letter (drop i w) in
      let n = places_within i x l (mem_getd (places_from i x l) 0 0 (omega (arith, places_length i x l))) in
      omega (arith, n.1, length-map (drop i w) code_letter, drop_length w i h)

  pub term_below : (i : ℕ) → i < length w → T (all (λ e. ltb (code_term e) past_terms) w) → code_term (get_or w i 0) < past_terms
  term_below i h t = ltb→lt (code_term (get_or w i 0)) past_terms (all_at (λ e. ltb (code_term e) past_terms) t (mem_getd w i 0 h))

  -- ---- the loop

  -- the turns of the events from place i on stand in `turns`, from `to` to `end`; `turn` and `next` are the first turn and the first place of them
  pub record Put (end : ℕ) (before turns : List ℕ) (i to first next : ℕ) : Type 0 where
    pub inside : i ≤ length w
    pub long : length turns ≡ length before
    pub room : to + length (turns_left i) ≡ end
    pub put : turns ≡ sets before to (turns_left i)
    pub first_is : first ≡ turn_first i
    pub next_is : next ≡ place_at_first i

  module _ (end : ℕ) (before : List ℕ) where
    -- behind the last event
    pub put_start : 1 ≤ end → Put end (set before (end - 1) (turn past_terms (length w))) (set before (end - 1) (turn past_terms (length w))) (length w) (end - 1)
        (turn past_terms (length w)) (length w)
    put_start h =
        let all : length w ≤ length w = omega arith in
        let none_left : drop (length w) w ≡ [] = drop_of_length-le w all in
        let left : turns_left (length w) ≡ turn past_terms (length w) ∷ [] = ap (turns_from (length w) x) none_left in
        record {
          inside = omega arith;
          long = refl;
          room = omega (arith, ap length left);
          put = sym (ap (sets (set before (end - 1) (turn past_terms (length w))) (end - 1)) left ∙ set-set before (end - 1) (turn past_terms (length w)) (turn past_terms (length w)));
          first_is = sym (ap (λ l. get_or l 0 0) left);
          next_is = sym (ap (λ l. get_or (places_from (length w) x (map code_letter l)) 0 0) none_left);
        }

    module _ {turns : List ℕ} {at to first next : ℕ} (some : 0 < at) (given : Put end before turns at to first next) where
      -- the place of the event before
      abbrev i : ℕ
      i = at - 1

      h : i < length w
      h = omega (arith, some, given.inside)

      q : Put end before turns (suc i) to first next
      q = let e : at ≡ suc (at - 1) = omega (arith, some) in subst (λ m. Put end before turns m to first next) e given

      -- an event of another letter changes nothing
      pub put_no : code_letter (get_or w i 0) ≢ x → Put end before turns i to first next
      put_no ne =
          let e = turns_left_no i h ne in
          record {
            inside = omega (arith, h);
            long = q.long;
            room = ap (λ l. to + length l) e.0 ∙ q.room;
            put = q.put ∙ sym (ap (sets before to) e.0);
            first_is = q.first_is ∙ sym (ap (λ l. get_or l 0 0) e.0);
            next_is = q.next_is ∙ sym e.1;
          }

      module _ (e : code_letter (get_or w i 0) ≡ x) (short : length w ≤ longest) (terms : T (all (λ e. ltb (code_term e) past_terms) w)) where
        value : ℕ
        value = turn (code_term (get_or w i 0)) (cond (eqb (first / place_bound) (code_term (get_or w i 0))) (first % place_bound) next)

        left : turns_left i ≡ value ∷ turns_left (suc i)
        unfolding value
        left = (turns_left_yes i h e (term_below i h terms) (omega (arith, drop_length w (suc i) h))).0
            ∙ sym (ap₂ (λ f n. turn (code_term (get_or w i 0)) (cond (eqb (f / place_bound) (code_term (get_or w i 0))) (f % place_bound) n) ∷ turns_left (suc i)) q.first_is q.next_is)

        -- there is room for its turn
        pub put_room : length (turns_of w x) ≤ end → 1 ≤ to
        put_room le = omega (arith, ap length left, turns_left_most i, q.room)

        -- an event of the letter: its turn is stored before those behind it
        pub put_yes : {v : ℕ} → v ≡ turn (code_term (get_or w i 0)) (cond (eqb (first / place_bound) (code_term (get_or w i 0))) (first % place_bound) next)
            → length (turns_of w x) ≤ end → end ≤ length before → Put end before (set turns (to - 1) v) i (to - 1) v i
        unfolding value
        put_yes {v} is le fits =
            let r = put_room le in
            let back : suc (to - 1) ≡ to = omega (arith, r) in
            let l = turns_left (suc i) in
            record {
              inside = omega (arith, h);
              long = length-set turns (to - 1) v ∙ q.long;
              room = omega (arith, ap length left, q.room, r);
              put = ap (λ t. set t (to - 1) v) q.put
                  ∙ sets_before l before to (to - 1) v (omega (arith, r)) (omega (arith, q.room))
                  ∙ ap₂ (λ j z. sets (set before (to - 1) z) j l) (sym back) is
                  ∙ sym (ap (sets before (to - 1)) left);
              first_is = is ∙ sym (ap (λ t. get_or t 0 0) left);
              next_is = sym (turns_left_yes i h e (term_below i h terms) (omega (arith, drop_length w (suc i) h))).1;
            }

    -- all are put: the store behind the last event is one of theirs
    pub put_all : {turns : List ℕ} {to first next : ℕ} (v : ℕ) → Put end (set before (end - 1) v) turns 0 to first next
        → (to + length (turns_of w x) ≡ end) × (turns ≡ sets before to (turns_of w x))
    put_all {turns} {to} {first} {next} v q = (q.room, q.put ∙ sets_over (turns_of w x) before to (end - 1) v (omega (arith, q.room, turns_some)) (omega (arith, q.room, turns_some)))

-- ---- the turns of all letters

module _ (w : List ℕ) where
  -- the turns of n letters from x on
  abbrev pub turns_above : ℕ → ℕ → List ℕ
  turns_above x n = flat_map (turns_of w) (range x n)

  letters_coded : (k : ℕ) (l : List ℕ) → T (letters_below code_letter k l) → T (letters_below (λ a. a) k (map code_letter l))
  letters_coded k [] t = tt
  letters_coded k (e ∷ l) t = both (ltb (code_letter e) k) (letters_below (λ a. a) k (map code_letter l))
      (fst_of (ltb (code_letter e) k) (letters_below code_letter k l) t) (letters_coded k l (snd_of (ltb (code_letter e) k) (letters_below code_letter k l) t))

  -- as many numbers as events and letters
  pub turn_table_many : (k : ℕ) → T (letters_below code_letter k w) → length (turn_table k w) ≡ length w + k
  turn_table_many k t =
      turn_table_length k w ∙ place_table_length k (map code_letter w) (letters_coded k w t) ∙ ap (λ n. n + k) (length-map w code_letter)

  -- the turns of one letter more
  pub turn_table_more : (x : ℕ) → length (turn_table (suc x) w) ≡ length (turn_table x w) + length (turns_of w x)
  turn_table_more x = ap length (turn_table_suc x w) ∙ length-append (turn_table x w) (turns_of w x)

  table_split : (x n : ℕ) → turn_table (x + n) w ≡ turn_table x w ++ turns_above x n
  table_split x n =
      let z : 0 + x ≡ x = omega arith in
      ap (flat_map (turns_of w)) (range_append 0 x n ∙ ap (λ a. below x ++ range a n) z) ∙ flat_map_append (turns_of w) (below x) (range x n)

  -- the turns of the letters from x on stand in `turns`, from `to` on
  pub record AllPut (k : ℕ) (before turns : List ℕ) (to x : ℕ) : Type 0 where
    pub inside : x ≤ k
    pub long : length turns ≡ length before
    pub room : to ≡ length (turn_table x w)
    pub put : turns ≡ sets before to (turns_above x (k - x))

  module _ (k : ℕ) (before : List ℕ) where
    pub all_start : T (letters_below code_letter k w) → AllPut k before before (length w + k) k
    all_start t = let z : k - k ≡ 0 = omega arith in record {
      inside = omega arith;
      long = refl;
      room = sym (turn_table_many k t);
      put = sym (ap (λ n. sets before (length w + k) (turns_above k n)) z);
    }

    module _ {turns : List ℕ} {to x : ℕ} (some : 0 < x) (q : AllPut k before turns to x) where
      less : length (turn_table x w) ≡ length (turn_table (x - 1) w) + length (turns_of w (x - 1))
      less = let e : suc (x - 1) ≡ x = omega (arith, some) in subst (λ m. length (turn_table m w) ≡ length (turn_table (x - 1) w) + length (turns_of w (x - 1))) e (turn_table_more (x - 1))

      all_long : to + length (turns_above x (k - x)) ≡ length (turn_table k w)
      all_long =
          let e : x + (k - x) ≡ k = omega (arith, q.inside) in
          omega (arith, q.room, ap (λ m. length (turn_table m w)) e, ap length (table_split x (k - x)), length-append (turn_table x w) (turns_above x (k - x)))

      -- there is room for the turns of the letter before
      pub all_room : length (turn_table k w) ≤ length before → (length (turns_of w (x - 1)) ≤ to) × (to ≤ length turns)
      all_room fits = (omega (arith, less, q.room), omega (arith, all_long, q.long, fits))

      pub all_step : {turns' : List ℕ} {to' : ℕ} → length (turn_table k w) ≤ length before → to' + length (turns_of w (x - 1)) ≡ to
          → turns' ≡ sets turns to' (turns_of w (x - 1)) → AllPut k before turns' to' (x - 1)
      all_step {turns'} {to'} fits e is =
          let us = turns_of w (x - 1) in
          let vs = turns_above x (k - x) in
          let many : k - (x - 1) ≡ suc (k - x) = omega (arith, some, q.inside) in
          let back : suc (x - 1) ≡ x = omega (arith, some) in
          record {
            inside = omega (arith, q.inside);
            long = ap length is ∙ length-sets turns to' us ∙ q.long;
            room = omega (arith, e, q.room, less);
            put = is ∙ ap (λ l. sets l to' us) (q.put ∙ ap (λ n. sets before n vs) (sym e))
                ∙ sets_joined us vs before to' (omega (arith, e, all_long, fits))
                ∙ ap (λ m. sets before to' (us ++ turns_above m (k - x))) (sym back)
                ∙ sym (ap (λ n. sets before to' (turns_above (x - 1) n)) many);
          }

    pub all_done : {turns : List ℕ} {to : ℕ} → length (turn_table k w) ≤ length before → AllPut k before turns to 0
        → turns ≡ turn_table k w ++ drop (length (turn_table k w)) before
    all_done fits q =
        let z : k - 0 ≡ k = omega arith in
        let s : 0 + length (turn_table k w) ≡ length (turn_table k w) = omega arith in
        q.put ∙ ap₂ (λ n m. sets before n (turns_above 0 m)) q.room z ∙ sets-eq (turn_table k w) before 0 (omega (arith, fits)) ∙ ap (λ n. turn_table k w ++ drop n before) s
