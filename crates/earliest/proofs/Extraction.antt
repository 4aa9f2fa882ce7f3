-- The verdict, and the order written letter by letter, from a table that holds the prefixes of a log.
use mathlib.Core.Path.{◌≡◌, refl, sym, ◌∙◌, ap, subst}
use mathlib.Core.Bool.{true}
use mathlib.Core.Logic.{⊎_elim}
use mathlib.Core.List.{List, [], ◌∷◌, ◌++◌, map, append_assoc, map-append}
use mathlib.Core.Option.{Option, none, some}
use Prim.Native.Nat.{ℕ, suc, ◌*◌, ◌%◌, ◌^◌, ◌≤◌, ◌<◌}
use native.Mathlib.Omega.{arith}
use native.Mathlib.Nat.{one-mul}
use lib.Dec.{T, T_not}
use lib.ListN.{length, get_or, set, drop, drop_of_length-le, length-append, length-drop, length-map}
use lib.Pow.{shl_exact}
use lib.Seq.{drop-cons, set_at}
use Rattle.profile.specs.Rules.{Rules, order_by}
use Rattle.profile.specs.Lists.{Mem, below}
use Rattle.profile.specs.Automata.{Automaton, automaton, meets}
use Rattle.profile.specs.Prefixes.{addable?, at}
use Rattle.theory.proofs.Automata.{prefix_none, unmarked_none, verdict_at}
use Rattle.theory.proofs.Earliest.{end, greedy_append}
use Rattle.theory.proofs.Judgement.{accepted_order_none, accepted_order_not, accepted_order_some, live, live_start}
use Rattle.theory.proofs.Levels.{bump, level_next}
use Rattle.profile.proofs.Lists.{test}
use Rattle.theory.proofs.Merge.{at_prefix, level_left, level_unmarked}
use Rattle.theory.proofs.Profiles.{lawful}
use Rattle.profile.proofs.Sets.{t_eq}
use Rattle.records.specs.Drafts.{in_order, of_total}
use Rattle.records.specs.Records.{last_at}
use Rattle.earliest.specs.Earliest.{Smallest, Some, Table, found?, with_order}
use Rattle.earliest.proofs.Records.{ChosenFrom, as_many, backward_of, different, first_record, left_of, only_empty, prefix_at, record_backward, used}
use Rattle.earliest.proofs.Choices.{smallest_chosen, some_taken}

module _ {p : Rules} {w t : List ℕ} (tab : Table p w t) where
  -- ---- the verdict

  -- 1, shifted by the start state, is the set of start states: the state is below 32
  pub start_set : 1 * 2 ^ p.profile.start % 2 ^ 32 ≡ (automaton p.profile).start
  start_set = shl_exact 1 p.profile.start 32 (omega arith) (omega (arith, tab.profile.starts, tab.profile.states.1)) ∙ one-mul (2 ^ p.profile.start)

  -- the backward set of the empty prefix
  abbrev at_start : ℕ
  at_start = backward_of p w (λ x. 0)

  no_counts : at (map (λ x. 0) (below p.profile.k)) ≡ (λ x. 0)
  no_counts =
      let d = different tab in
      at_prefix p.may p.letter d p.profile.k w tab.log.letters (prefix_none p.may p.letter (automaton p.profile) (lawful p.profile) w d)

  live_found : T (meets (automaton p.profile).start at_start) → T (found? (order_by p w))
  live_found h = go (order_by p w) refl
    where
      go : (o : Option (List ℕ)) → order_by p w ≡ o → T (found? (order_by p w))
      go none e =
          let v = verdict_at p.may p.letter (automaton p.profile) (lawful p.profile) w (different tab) h in
          absurd (accepted_order_not p.may p.letter (automaton p.profile) (lawful p.profile) e v.1 v.2)
      go (some v) e = subst (λ o. T (found? o)) (sym e) tt

  found_live : T (found? (order_by p w)) → T (meets (automaton p.profile).start at_start)
  found_live f = ⊎_elim (λ s. s)
      (λ s. absurd (subst (λ o. T (found? o)) (accepted_order_none p.may p.letter (automaton p.profile) (lawful p.profile) (different tab) w
      (λ l. T_not (meets (automaton p.profile).start at_start) s (subst T (live_start p.may p.letter (automaton p.profile) (lawful p.profile) (different tab) w) l))) f))
      (test (meets (automaton p.profile).start at_start))

  -- some order is accepted exactly when the start state is in the backward set of the first record
  pub found_first : found? (order_by p w) ≡ meets (automaton p.profile).start (last_at t 0)
  found_first =
      let f = first_record tab in
      t_eq (found? (order_by p w)) (meets (automaton p.profile).start at_start) found_live live_found
      ∙ ap (meets (automaton p.profile).start) (sym (record_backward tab 0 f.0
      ∙ ap (backward_of p w) (ap at (only_empty tab _ f.1) ∙ no_counts)))

  -- ---- the order

  -- the letters of n events are written to the front of the buffer `before`, which is `now`: the events are chosen from w, S is the set of states they lead to, record j that of
  -- their counts, and S meets its backward set
  pub record Written (before : List ℕ) (n : ℕ) (now : List ℕ) (S j : ℕ) : Type 0 where
    pub events : List ℕ
    pub inside : j < length (in_order p w)
    pub of_n : Mem (prefix_at tab j) (of_total p w n)
    pub chosen : ChosenFrom p (automaton p.profile).start w events S (left_of p w (at (prefix_at tab j)))
    pub leads : T (meets S (backward_of p w (at (prefix_at tab j))))
    pub long : length events ≡ n
    pub there : now ≡ map p.letter events ++ drop n before

  pub written_none : (before : List ℕ) → found? (order_by p w) ≡ true → Written before 0 before (automaton p.profile).start 0
  written_none before f =
      let z = first_record tab in
      let M = automaton p.profile in
      let none : at (prefix_at tab 0) ≡ (λ x. 0) = ap at (only_empty tab (prefix_at tab 0) z.1) ∙ no_counts in record {
        events = [];
        inside = omega (arith, z.0, as_many tab);
        of_n = z.1;
        chosen = subst (ChosenFrom p M.start w [] M.start)
            (sym (ap (left_of p w) none ∙ unmarked_none p.may p.letter M (lawful p.profile) w (different tab))) end;
        leads = subst (λ g. T (meets M.start (backward_of p w g))) (sym none) (found_live (subst T (sym f) tt));
        long = refl;
        there = refl;
      }

  module _ {before now : List ℕ} {n S j : ℕ} (r : Written before n now S j) where
    -- the buffer keeps its length
    pub written_length : n ≤ length before → length now ≡ length before
    written_length h = ap length r.there ∙ omega (arith, length-append (map p.letter r.events) (drop n before), length-map r.events p.letter, length-drop n before, r.long)

    -- what the next letter asks for
    pub written_some : n < length w → Some (automaton p.profile).step (used tab) j S p.profile.k
    written_some h = some_taken tab j r.inside S r.leads (level_unmarked p.may p.letter p.profile.k w n (prefix_at tab j) tab.log.letters r.of_n h)

    -- one letter more
    pub written_next : n < length w → length w ≤ length before → {x i R : ℕ} → Smallest (automaton p.profile).step (used tab) j S p.profile.k x i R
        → Written before (suc n) (set now n x) R i
    written_next h room {x} {i} {R} s = record {
      events = r.events ++ (a ∷ []);
      inside = q.1;
      of_n = subst (λ c. Mem c (of_total p w (suc n))) (sym q.2)
          (level_next p.may p.letter (different tab) p.profile.k w tab.log.letters n x (prefix_at tab j) r.of_n s.below q.0);
      chosen = greedy_append p.may p.letter M.step (λ S. meets S M.final) (live p.may p.letter M (lawful p.profile)) r.chosen q.4.2;
      leads = q.3;
      long = omega (arith, length-append r.events (a ∷ []), r.long);
      there =
          ap (λ l. set l n x) (r.there ∙ ap (◌++◌ letters) (drop-cons before n 0 (omega arith)))
          ∙ set_at letters (get_or before n 0) (drop (suc n) before) x n (length-map r.events p.letter ∙ r.long) ∙ sym (append_assoc letters (x ∷ []) (drop (suc n) before))
          ∙ ap (λ l. l ++ drop (suc n) before) (ap (λ y. letters ++ (y ∷ [])) (sym q.4.1) ∙ sym (map-append p.letter r.events (a ∷ [])));
    }
      where
        M : Automaton
        M = automaton p.profile

        q : T (addable? p.may p.letter w (at (prefix_at tab j)) x) × (i < length (in_order p w)) × (prefix_at tab i ≡ bump (prefix_at tab j) x)
            × T (meets R (backward_of p w (at (prefix_at tab i))))
            × ((a : ℕ) × (p.letter a ≡ x) × ChosenFrom p S (left_of p w (at (prefix_at tab j))) (a ∷ []) R (left_of p w (at (prefix_at tab i))))
        q = smallest_chosen tab j r.inside S s

        a : ℕ
        a = q.4.0

        letters : List ℕ
        letters = map p.letter r.events

  -- all of it
  pub written_all : {before now : List ℕ} {S j : ℕ} → found? (order_by p w) ≡ true → Written before (length w) now S j → now ≡ with_order (order_by p w) before
  written_all {before} {now} {S} {j} f r =
      let M = automaton p.profile in
      let may = p.may in
      let start = subst T (sym (live_start may p.letter M (lawful p.profile) (different tab) w)) (found_live (subst T (sym f) tt)) in
      let rest = left_of p w (at (prefix_at tab j)) in
      let whole : rest ≡ [] = drop_of_length-le rest {i = 0} (omega (arith, level_left may p.letter p.profile.k w (length w) (prefix_at tab j) tab.log.letters r.of_n)) in
      let all = accepted_order_some may p.letter M (lawful p.profile) (different tab) start (subst (ChosenFrom p M.start w r.events S) whole r.chosen) in
      let letters = map p.letter r.events in
      let long : length w ≡ length letters = sym (length-map r.events p.letter ∙ r.long) in
      r.there ∙ ap (λ n. letters ++ drop n before) long ∙ sym (ap (λ o. with_order o before) all)
