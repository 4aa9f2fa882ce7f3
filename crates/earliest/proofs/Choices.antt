-- One letter of the order: the smallest that leads from the states into the backward set of the record with one more of it.
use mathlib.Core.Path.{◌≡◌, sym, ◌∙◌, ap, subst, subst₂}
use mathlib.Core.Bool.{Bool, ◌&&◌, cond}
use mathlib.Core.Logic.{⊎_elim, ◌≢◌}
use mathlib.Core.List.{List, [], ◌∷◌}
use Prim.Native.Nat.{ℕ, suc, ◌+◌, ◌≤◌, ◌<◌}
use native.Mathlib.Omega.{arith}
use lib.Dec.{T, T_not, not_T, ltb, ltb→lt, lt→ltb}
use lib.ListN.{length}
use Rattle.profile.specs.Rules.{Rules}
use Rattle.profile.specs.Lists.{Mem}
use Rattle.profile.specs.Automata.{automaton, meets}
use Rattle.profile.specs.Prefixes.{addable?, at, more, ranked}
use Rattle.profile.specs.Tables.{layout, packed}
use Rattle.profile.specs.Traces.{bit}
use Rattle.profile.proofs.Lists.{both, equal_test, fst_of, is_false, is_true, lt_or_le, mem_getd, snd_of, test}
use Rattle.profile.proofs.Sets.{bit_none, meets_at}
use Rattle.theory.proofs.LetterOrder.{earlier_irrefl, earlier_test}
use Rattle.theory.proofs.Levels.{at_bump, bump}
use Rattle.theory.proofs.Judgement.{choice, some_choice}
use Rattle.theory.proofs.Profiles.{lawful}
use Rattle.counts.specs.Counts.{add_count, counts_in}
use Rattle.records.specs.Drafts.{in_order}
use Rattle.records.specs.Records.{counts_at, last_at, records_in}
use Rattle.search.specs.Search.{Ordered, found_in, has?, records_before, stands_before?}
use Rattle.search.proofs.Halves.{Between, before_record, between_end, found_record}
use Rattle.successors.specs.Successors.{Stands}
use Rattle.successors.proofs.Bounds.{behind, bound_later, later_before}
use Rattle.successors.proofs.More.{find_more, more_at, more_packed, prefix_of}
use Rattle.earliest.specs.Earliest.{Enclosed, Smallest, Some, Table, Takes, led}
use Rattle.earliest.proofs.Records.{ChosenFrom, backward_of, different, left_of, prefix_at, recorded, used, used_backward}

-- ---- the only record that can have the counts

module _ (t c : List ℕ) (o : Ordered t) where
  -- a record that has them does not stand before them
  not_before : (i : ℕ) → T (has? t c i) → T (stands_before? (counts_at t i) c) → ⊥
  not_before i h y =
      let d = ranked (counts_in layout c) in
      earlier_irrefl d ((earlier_test d d).0 (subst (λ v. T (stands_before? v c)) ((equal_test (counts_at t i) c).0 h) y))

  -- where one record stands between two bounds, it is that one
  pub only_between : (j e : ℕ) → Enclosed t c j e → e ≡ j + 2 → (i : ℕ) → i < records_in t → T (has? t c i) → i ≡ j + 1
  only_between j e s q i l h = ⊎_elim (λ lt. absurd (not_before i h (s.between.0 i lt)))
      (λ le. ⊎_elim (λ lt. omega arith) (λ ge. absurd (T_not (has? t c i) (s.barred i ge l) h)) (lt_or_le i e)) (lt_or_le i (suc j))

  -- where the counts belong before record a, it is record a
  pub only_place : (a : ℕ) → a ≤ records_in t → Between t c a a → (i : ℕ) → i < records_in t → T (has? t c i) → i ≡ a
  only_place a inside b i l h = sym (before_record t o i l) ∙ ap (records_before t) ((equal_test (counts_at t i) c).0 h) ∙ sym (between_end t c a inside b)

-- ---- the states led to

module _ (t c : List ℕ) (R a : ℕ) where
  led_at : led t c R a ≢ 0 → (a < records_in t) × T (has? t c a) × T (meets R (last_at t a)) × (led t c R a ≡ R)
  led_at n = ⊎_elim
      (λ y.
      let q = fst_of (ltb a (records_in t) && has? t c a) (meets R (last_at t a)) y in (
        ltb→lt a (records_in t) (fst_of (ltb a (records_in t)) (has? t c a) q),
        snd_of (ltb a (records_in t)) (has? t c a) q,
        snd_of (ltb a (records_in t) && has? t c a) (meets R (last_at t a)) y,
        ap (λ b. cond b R 0) (is_true ((ltb a (records_in t) && has? t c a) && meets R (last_at t a)) y),
      ))
      (λ y. absurd (n (ap (λ b. cond b R 0) (is_false ((ltb a (records_in t) && has? t c a) && meets R (last_at t a)) y))))
      (test ((ltb a (records_in t) && has? t c a) && meets R (last_at t a)))

  led_some : a < records_in t → T (has? t c a) → T (meets R (last_at t a)) → led t c R a ≢ 0
  led_some l h m z =
      let y = both (ltb a (records_in t) && has? t c a) (meets R (last_at t a)) (both (ltb a (records_in t)) (has? t c a) (lt→ltb a (records_in t) l) h) m in
      let e : R ≡ 0 = sym (ap (λ b. cond b R 0) (is_true ((ltb a (records_in t) && has? t c a) && meets R (last_at t a)) y)) ∙ z in
      let q = meets_at R (last_at t a) m in
      subst T (ap (λ n. bit n q.0) e ∙ bit_none q.0) q.1

-- ---- the letters tried so far, behind record j

module _ (step : ℕ → ℕ → ℕ) (t : List ℕ) (j S k : ℕ) where
  -- the records of the letters from x on stand behind record j and before record e; no letter below x can be taken
  abbrev pub Bounded : ℕ → ℕ → Type 0
  Bounded x e = (y : ℕ) → x ≤ y → y < k → Enclosed t (add_count layout (counts_at t j) y) j e

  abbrev pub Passed : ℕ → Type 0
  Passed x = (y r : ℕ) → y < x → Takes step t j S y r → ⊥

  module _ (s : Stands t k j) where
    pub bounded_first : (n : ℕ) → n ≡ records_in t → Bounded 0 n
    bounded_first n e y l h = record {
      behind = omega (arith, e, s.inside);
      inside = omega (arith, e);
      between = subst (Between t (add_count layout (counts_at t j) y) (suc j)) (sym e) (behind s y h);
      barred = λ i g m. absurd (omega (arith, e));
    }

    -- the counts c are those with one x more; record r is the only one that can have them, and none from e on stands before them; R are the states led to
    module _ (x R r e : ℕ) (c : List ℕ) (h : x < k) (own : c ≡ add_count layout (counts_at t j) x) (after : j < e) (inside : e ≤ records_in t) (bound : Between t c (suc j) e)
        (only : (i : ℕ) → i < records_in t → T (has? t c i) → i ≡ r) (told : R ≡ led t c (step S x) r) where
      pub bounded_next : Bounded (x + 1) e
      bounded_next y l g =
          let z = add_count layout (counts_at t j) x in
          let d = add_count layout (counts_at t j) y in
          let b = subst (λ v. Between t v (suc j) e) own bound in record {
            behind = after;
            inside = inside;
            between = bound_later s x y (suc j) (suc j) e (omega arith) g b (behind s y g);
            barred = λ i m n. not_T (has? t d i) (λ q.
                T_not (stands_before? (counts_at t i) z) (b.1 i m n)
                (subst (λ v. T (stands_before? v z)) (sym ((equal_test (counts_at t i) d).0 q)) (later_before s x y (omega arith) g)));
          }

      pub passed_next : Passed x → R ≡ 0 → Passed (x + 1)
      passed_next before n y i lt k = ⊎_elim (λ l. before y i l k)
          (λ l.
          let q : y ≡ x = omega arith in
          let now = subst (λ z. Takes step t j S z i) q k in
          let has : T (has? t c i) = subst (λ v. T (has? t v i)) (sym own) now.has in
          let same : i ≡ r = only i now.inside has in
          led_some t c (step S x) r (subst (λ m. m < records_in t) same now.inside) (subst (λ m. T (has? t c m)) same has)
          (subst (λ m. T (meets (step S x) (last_at t m))) same now.leads) (sym told ∙ n)) (lt_or_le y x)

      pub taken_here : R ≢ 0 → Takes step t j S x r × (R ≡ step S x)
      taken_here n =
          let q = led_at t c (step S x) r (λ z. n (told ∙ z)) in
          (record { inside = q.0; has = subst (λ v. T (has? t v r)) own q.1; leads = q.2 }, told ∙ q.3)

-- ---- the letter chosen, in the table of a log

module _ {p : Rules} {w t : List ℕ} (tab : Table p w t) (j : ℕ) (h : j < length (in_order p w)) (S : ℕ) where
  here : Mem (prefix_at tab j) (in_order p w)
  here = mem_getd (in_order p w) j [] h

  -- letter x leads from states of S into the backward set of the prefix with one x more
  abbrev leads_on : ℕ → Bool
  leads_on x = meets ((automaton p.profile).step S x) (backward_of p w (more (at (prefix_at tab j)) x))

  numbers : (x : ℕ) → add_count layout (counts_at (used tab) j) x ≡ add_count layout (packed layout (prefix_at tab j)) x
  numbers x = ap (λ c. add_count layout c x) ((recorded tab).records.counts j h)

  -- the backward set of the record with one x more
  backward_more : (x r : ℕ) → x < p.profile.k → r < length (in_order p w) → prefix_at tab r ≡ bump (prefix_at tab j) x
      → last_at (used tab) r ≡ backward_of p w (more (at (prefix_at tab j)) x)
  backward_more x r l i e = used_backward tab r i ∙ ap (backward_of p w) (ap at e ∙ at_bump (prefix_at tab j) x (omega (arith, l, (prefix_of (recorded tab) (prefix_at tab j) here).0)))

  takes_at : (x r : ℕ) → x < p.profile.k → Takes (automaton p.profile).step (used tab) j S x r
      → T (addable? p.may p.letter w (at (prefix_at tab j)) x) × (r < length (in_order p w)) × (prefix_at tab r ≡ bump (prefix_at tab j) x) × T (leads_on x)
  takes_at x r l k =
      let same = (equal_test (counts_at (used tab) r) (add_count layout (counts_at (used tab) j) x)).0 k.has in
      let q = more_at (recorded tab) (prefix_at tab j) here x l r
      (ap (found_in (used tab)) (sym (numbers x) ∙ sym same) ∙ found_record (used tab) (recorded tab).records.ordered r k.inside) in
      (q.0, q.1, q.2, subst (λ b. T (meets ((automaton p.profile).step S x) b)) (backward_more x r l q.1 q.2) k.leads)

  takes_of : (x : ℕ) → x < p.profile.k → T (addable? p.may p.letter w (at (prefix_at tab j)) x) → T (leads_on x)
      → (r : ℕ) × Takes (automaton p.profile).step (used tab) j S x r
  takes_of x l a y =
      let q = find_more (recorded tab) (prefix_at tab j) here x l a in (
        q.0,
        record {
          inside = subst (λ n. q.0 < n) (sym (recorded tab).records.many) q.1;
          has = (equal_test (counts_at (used tab) q.0) (add_count layout (counts_at (used tab) j) x)).1
              ((recorded tab).records.counts q.0 q.1 ∙ ap (packed layout) q.2 ∙ sym (more_packed (recorded tab) (prefix_at tab j) x l here) ∙ sym (numbers x));
          leads = subst (λ b. T (meets ((automaton p.profile).step S x) b)) (sym (backward_more x q.0 l q.1 q.2)) y;
        },
      )

  -- where S meets the backward set of the prefix, and an event is left, some letter can be taken
  pub some_taken : T (meets S (backward_of p w (at (prefix_at tab j)))) → (left_of p w (at (prefix_at tab j)) ≡ [] → ⊥) → Some (automaton p.profile).step (used tab) j S p.profile.k
  some_taken live left =
      let c = some_choice p.may p.letter (automaton p.profile) (lawful p.profile) (different tab) w p.profile.k tab.log.letters S
      (prefix_of (recorded tab) (prefix_at tab j) here).1 left live in
      let k = takes_of c.0 c.1 c.2 c.3 in
      (c.0, k.0, c.1, k.1)

  -- the smallest is that of the choice, and leads on
  pub smallest_chosen : {x r R : ℕ} → Smallest (automaton p.profile).step (used tab) j S p.profile.k x r R
      → T (addable? p.may p.letter w (at (prefix_at tab j)) x) × (r < length (in_order p w)) × (prefix_at tab r ≡ bump (prefix_at tab j) x)
      × T (meets R (backward_of p w (at (prefix_at tab r))))
      × ((a : ℕ) × (p.letter a ≡ x) × ChosenFrom p S (left_of p w (at (prefix_at tab j))) (a ∷ []) R (left_of p w (at (prefix_at tab r))))
  smallest_chosen {x} {r} {R} s =
      let k = takes_at x r s.below s.takes in
      let same : at (prefix_at tab r) ≡ more (at (prefix_at tab j)) x =
      ap at k.2 ∙ at_bump (prefix_at tab j) x (omega (arith, s.below, (prefix_of (recorded tab) (prefix_at tab j) here).0)) in
      let c = choice p.may p.letter (automaton p.profile) (lawful p.profile) (different tab) w S x (prefix_of (recorded tab) (prefix_at tab j) here).1 k.0 k.3
      (λ y lt a l. let q = takes_of y (omega (arith, lt, s.below)) a l in s.first y q.0 lt q.1) in (
        k.0,
        k.1,
        k.2,
        subst₂ (λ n f. T (meets n (backward_of p w f))) (sym s.states) (sym same) k.3,
        (c.0, c.1, subst₂ (λ n f. ChosenFrom p S (left_of p w (at (prefix_at tab j))) (c.0 ∷ []) n (left_of p w f)) (sym s.states) (sym same) c.2),
      )
