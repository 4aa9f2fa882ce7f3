-- The two ends: a mask of no letter, and one of all letters, which is the judge.
use mathlib.Core.Path.{◌≡◌, refl, sym, ◌∙◌, ap, ap₂, subst}
use mathlib.Core.Bool.{Bool, true}
use mathlib.Core.Logic.{◌↔◌}
use mathlib.Core.List.{List, [], ◌∷◌, ◌++◌, map}
use mathlib.Core.Option.{Option, none, some}
use Prim.Native.Nat.{ℕ, ◌*◌, ◌<◌}
use native.Mathlib.Omega.{arith}
use lib.Dec.{T, ltb, ltb→lt}
use lib.ListN.{drop, length}
use Rattle.profile.specs.Lists.{all, below, filter, flat_map}
use Rattle.profile.specs.Traces.{Reachable, bit, independent, itself, letters_below, orders}
use Rattle.profile.specs.Automata.{Accepted, PathOf, Profile, accepted?, automaton, goes, stop}
use Rattle.profile.specs.Orders.{accepted_order, earliest}
use Rattle.profile.specs.Prefixes.{at, backward, by_total, forward, marked, prefix_count, prefixes, unmarked, vectors}
use Rattle.profile.specs.Tables.{layout, packed, record_length, record_of, table_of}
use Rattle.profile.proofs.Lists.{filter_agree, filter_none, filter_yes, flat_map_agree, fst_of, snd_of}
use Rattle.profile.proofs.Sets.{t_eq, bit_below, bit_self, bit_single, not_in_none, sets_eq}
use Rattle.profile.proofs.Traces.{order_of_mem, order_of_reach, reach_of_order, takes_length}
use Rattle.theory.proofs.Automata.{backward_at, backward_of, forward_at, forward_of}
use Rattle.theory.proofs.Judgement.{accepted_at, accepted_of}
use Rattle.theory.proofs.Profiles.{lawful}
use Rattle.theory.proofs.Refusals.{GoodProfile}
use Rattle.views.specs.Views.{InBackward, InForward, seen, view, view_order, view_prefixes}
use Rattle.views.proofs.Paths.{behind_at, behind_of, move_inside, view_ends_at, view_lawful, view_move}
use Rattle.views.proofs.Said.{marked_all, reach_all, seen_visible, unmarked_all, view_backward, view_earliest, view_forward, view_none}

-- ---- no letter is visible

pub seen_none : (w : List ℕ) → seen 0 w ≡ []
seen_none w = filter_none (bit 0) w (λ a m t. not_in_none a t)

-- P is 1
pub none_prefixes : (p : Profile) (w : List ℕ) → view_prefixes p 0 w ≡ 1
none_prefixes p w = ap (λ u. length (prefixes (independent p.masks) (λ a. a) p.k u)) (seen_none w) ∙ empty-one (below p.k)
  where
    one-vector : (l : List ℕ) → vectors (map {B = ℕ} (λ (x : ℕ). 0) l) ≡ map (λ (x : ℕ). 0) l ∷ []
    one-vector [] = refl
    one-vector (a ∷ l) = ap (λ (v : List (List ℕ)). flat_map (λ i. map (◌∷◌ i) v) (below 1)) (one-vector l)

    empty-one : (l : List ℕ) → length (filter (λ c. true) (vectors (map {B = ℕ} (λ (x : ℕ). 0) l))) ≡ 1
    empty-one l = ap (λ (v : List (List ℕ)). length (filter (λ c. true) v)) (one-vector l)

-- verdict 1 exactly when some list of letters leads from the start to a final state; the order is empty
pub none_verdict : (p : Profile) → GoodProfile p → (w : List ℕ) → T (letters_below (λ a. a) p.k w)
    → (view_order p 0 w ≡ some []) ↔ ((l : List ℕ) × T (letters_below (λ a. a) p.k l) × Accepted (automaton p) (λ a. a) l)
none_verdict p good w k = (
  λ e. let b = (view_earliest p good 0 w k e).0.behind in (b.list, b.letters, b.accepted),
  λ n. go n.0 n.1 n.2 (view_order p 0 w) refl,
)
  where
    go : (l : List ℕ) → T (letters_below (λ a. a) p.k l) → Accepted (automaton p) (λ a. a) l → (o : Option (List ℕ)) → view_order p 0 w ≡ o → view_order p 0 w ≡ some []
    go l h a none e = absurd ((view_none p good 0 w k).0 e [] (record {
      reached = subst (λ u. Reachable (independent p.masks) u []) (sym (seen_none w)) itself;
      behind = record { list = l; letters = h; accepted = a; shows = seen_none l };
    }))
    go l h a (some []) e = e
    go l h a (some (x ∷ v)) e =
        let r = (view_earliest p good 0 w k e).0.reached in
        absurd (omega (arith, takes_length (independent p.masks) (order_of_reach (independent p.masks) r), ap length (seen_none w)))

-- ---- all letters are visible

pub seen_whole : (k visible : ℕ) → ((x : ℕ) → x < k → T (bit visible x)) → (w : List ℕ) → T (letters_below (λ a. a) k w) → seen visible w ≡ w
seen_whole k visible whole [] h = refl
seen_whole k visible whole (a ∷ w) h =
    filter_yes (bit visible) a w (whole a (ltb→lt a k (fst_of (ltb a k) (letters_below (λ a. a) k w) h))) ∙ ap (◌∷◌ a) (seen_whole k visible whole w (snd_of (ltb a k) (letters_below (λ a. a) k w) h))

module _ (p : Profile) (good : GoodProfile p) (visible : ℕ) (whole : (x : ℕ) → x < p.k → T (bit visible x)) where
  seen_all : (w : List ℕ) → T (letters_below (λ a. a) p.k w) → seen visible w ≡ w
  seen_all = seen_whole p.k visible whole

  module _ (w : List ℕ) (letters : T (letters_below (λ a. a) p.k w)) where
    abbrev may : ℕ → ℕ → Bool
    may = independent p.masks

    -- forward and backward are those of the judge
    pub all_forward : (c : ℕ → ℕ) → forward may (λ a. a) (view p visible) w c ≡ forward may (λ a. a) (automaton p) w c
    all_forward c = sets_eq (forward may (λ a. a) (view p visible) w c) (forward may (λ a. a) (automaton p) w c)
        (λ r t.
        let n = (view_forward p good visible w letters c r).0 (subst (λ u. T (bit (forward may (λ a. a) (view p visible) u c) r)) (sym (seen_all w letters)) t) in
        let o = subst (λ u. Reachable may (marked (λ a. a) u c) n.list) (seen_all w letters) (subst (Reachable may (marked (λ a. a) (seen visible w) c)) (seen_all n.list n.letters) n.reached) in
        forward_of may (λ a. a) (automaton p) (lawful p) w c (order_of_reach may o) (bit_self p.start) n.leads)
        (λ r t.
        let n = forward_at may (λ a. a) (automaton p) (lawful p) w c r t in
        let o = reach_of_order may n.2 in
        let k = reach_all (λ a. ltb a p.k) (marked_all (λ a. ltb a p.k) w c letters) o in
        let h : InForward p visible w c r = record {
          list = n.0;
          letters = k;
          leads = subst (λ q. PathOf (automaton p) (λ a. a) q n.0 r) (sym (bit_single p.start n.1 n.3)) n.4;
          reached = subst (λ u. Reachable may (marked (λ a. a) u c) (seen visible n.0)) (sym (seen_all w letters)) (subst (Reachable may (marked (λ a. a) w c)) (sym (seen_all n.0 k)) o);
        } in
        subst (λ u. T (bit (forward may (λ a. a) (view p visible) u c) r)) (seen_all w letters) ((view_forward p good visible w letters c r).1 h))

    from_inside : {q r : ℕ} {u : List ℕ} → PathOf (view p visible) (λ a. a) q u r → r < p.s → q < p.s
    from_inside stop h = h
    from_inside (goes {q = q} {a = a} {r = m} t l) h = ((view_move p good visible q a m).0 t).0

    path_from : {q r : ℕ} {u : List ℕ} → PathOf (automaton p) (λ a. a) q u r → r < p.s → q < p.s
    path_from stop h = h
    path_from (goes {q = q} {a = a} {r = m} t l) h = (move_inside p good visible q a m t).0

    pub all_backward : (c : ℕ → ℕ) → backward may (λ a. a) (view p visible) w c ≡ backward may (λ a. a) (automaton p) w c
    all_backward c = sets_eq (backward may (λ a. a) (view p visible) w c) (backward may (λ a. a) (automaton p) w c)
        (λ q t.
        let z = backward_at may (λ a. a) (view p visible) (view_lawful p good visible) w c q t in
        let lt = from_inside z.3 (view_ends_at p good visible z.1 z.4).0 in
        let n = (view_backward p good visible w letters c q lt).0 (subst (λ u. T (bit (backward may (λ a. a) (view p visible) u c) q)) (sym (seen_all w letters)) t) in
        let o = subst (λ u. Reachable may (unmarked (λ a. a) u c) n.list) (seen_all w letters) (subst (Reachable may (unmarked (λ a. a) (seen visible w) c)) (seen_all n.list n.letters) n.reached) in
        backward_of may (λ a. a) (automaton p) (lawful p) w c (order_of_reach may o) n.leads n.ends)
        (λ q t.
        let n = backward_at may (λ a. a) (automaton p) (lawful p) w c q t in
        let o = reach_of_order may n.2 in
        let k = reach_all (λ a. ltb a p.k) (unmarked_all (λ a. ltb a p.k) w c letters) o in
        let lt = path_from n.3 (bit_below p.s p.finals n.1 good.finals_inside n.4) in
        let h : InBackward p visible w c q = record {
          list = n.0;
          letters = k;
          to = n.1;
          leads = n.3;
          ends = n.4;
          reached = subst (λ u. Reachable may (unmarked (λ a. a) u c) (seen visible n.0)) (sym (seen_all w letters)) (subst (Reachable may (unmarked (λ a. a) w c)) (sym (seen_all n.0 k)) o);
        } in
        subst (λ u. T (bit (backward may (λ a. a) (view p visible) u c) q)) (seen_all w letters) ((view_backward p good visible w letters c q lt).1 h))

    -- the order is that of the judge
    pub all_order : view_order p visible w ≡ accepted_order may (λ a. a) (automaton p) w
    all_order = ap (accepted_order may (λ a. a) (view p visible)) (seen_all w letters)
        ∙ ap (λ l. earliest (map (map (λ a. a)) l)) (filter_agree (accepted? (view p visible) (λ a. a)) (accepted? (automaton p) (λ a. a)) (orders may w) (λ u m.
        let k = reach_all (λ a. ltb a p.k) letters (reach_of_order may (order_of_mem may w m)) in
        let v = subst (λ z. T (all (bit visible) z)) (seen_all u k) (seen_visible visible u) in
        t_eq (accepted? (view p visible) (λ a. a) u) (accepted? (automaton p) (λ a. a) u)
        (λ t.
        let b = behind_of p good visible k v (accepted_at (view p visible) (view_lawful p good visible) (λ a. a) u t) in
        accepted_of (automaton p) (lawful p) (λ a. a) (subst (Accepted (automaton p) (λ a. a)) (sym (seen_all b.list b.letters) ∙ b.shows) b.accepted))
        (λ t. accepted_of (view p visible) (view_lawful p good visible) (λ a. a) (behind_at p good visible (record { list = u; letters = k; accepted = accepted_at (automaton p) (lawful p) (λ a. a) u t; shows = seen_all u k })))))

    -- and so is the table
    pub all_table : (t : List ℕ) → table_of layout may (λ a. a) (view p visible) p.k w t ≡ table_of layout may (λ a. a) (automaton p) p.k w t
    all_table t = ap (λ l. l ++ drop (record_length layout * prefix_count may (λ a. a) p.k w) t)
        (flat_map_agree (record_of layout may (λ a. a) (view p visible) w) (record_of layout may (λ a. a) (automaton p) w) (by_total may (λ a. a) p.k w)
        (λ c m. ap₂ (λ x y. packed layout c ++ (x ∷ y ∷ [])) (all_forward (at c)) (all_backward (at c))))
