-- The automaton of a view: its paths are those of lists of letters with hidden ones anywhere.
use mathlib.Core.Path.{◌≡◌, sym, ◌∙◌, ap, subst}
use mathlib.Core.Bool.{true, not}
use mathlib.Core.Logic.{◌⊎◌, inl, inr, ⊎_elim, ◌↔◌}
use mathlib.Core.List.{List, [], ◌∷◌, ◌++◌, append-nil}
use Prim.Native.Nat.{ℕ, ◌+◌, ◌*◌, ◌^◌, ◌<◌}
use lib.Dec.{T, ltb, ltb→lt, lt→ltb}
use lib.ListN.{length, get_or-eq_default}
use Rattle.profile.specs.Lists.{all, below, filter}
use Rattle.profile.specs.Traces.{bit, letters_below}
use Rattle.profile.specs.Automata.{Accepted, PathOf, Profile, automaton, forward_step, goes, meets, row, stop}
use Rattle.profile.proofs.Lists.{all_append, below_at, below_of, both, filter_append, filter_at, filter_no, filter_of, filter_yes, fst_of, lt_or_le, mem_getd, snd_of, test}
use Rattle.profile.proofs.Sets.{bit_below, bit_self, bit_single, meets_at, meets_of, not_in_none, union_at, union_of}
use Rattle.theory.proofs.Automata.{Lawful, leads_append}
use Rattle.theory.proofs.Profiles.{lawful}
use Rattle.theory.proofs.Refusals.{GoodProfile}
use Rattle.views.specs.Views.{Behind, Hiding, hull, leads_late, reach, seen, view}
use Rattle.views.proofs.Hiding.{hiding_append, hiding_none, hull_at, hull_of, reach_exactly}

module _ (p : Profile) (good : GoodProfile p) (visible : ℕ) where
  -- moves lead to states
  pub row_inside : (q x r : ℕ) → T (bit (row p.k p.moves q x) r) → r < p.s
  row_inside q x r t = ⊎_elim
      (λ h. bit_below p.s (row p.k p.moves q x) r (good.moves_inside (row p.k p.moves q x) (mem_getd p.moves (q * p.k + x) 0 h)) t)
      (λ h. absurd (not_in_none r (subst (λ n. T (bit n r)) (get_or-eq_default p.moves 0 {n = q * p.k + x} h) t)))
      (lt_or_le (q * p.k + x) (length p.moves))

  pub move_inside : (q x r : ℕ) → T ((automaton p).move q x r) → (q < p.s) × (r < p.s)
  move_inside q x r m =
      (ltb→lt q p.s (fst_of (ltb q p.s) (bit (row p.k p.moves q x) r) m), row_inside q x r (snd_of (ltb q p.s) (bit (row p.k p.moves q x) r) m))

  pub path_inside : {q r : ℕ} {l : List ℕ} → q < p.s → PathOf (automaton p) (λ a. a) q l r → r < p.s
  path_inside lt stop = lt
  path_inside lt (goes {q = q} {a = a} {r = m} t l) = path_inside (move_inside q a m t).1 l

  pub hiding_inside : {q r : ℕ} → q < p.s → Hiding p visible q r → r < p.s
  hiding_inside lt h = path_inside lt h.leads

  -- a letter with hidden ones before and behind it
  pub record Reads (q x r : ℕ) : Type 0 where
    pub before : ℕ
    pub after : ℕ
    pub lead : Hiding p visible q before
    pub letter : T ((automaton p).move before x after)
    pub trail : Hiding p visible after r

  step_at : (S x r : ℕ) → T (bit (hull p visible (forward_step p.k p.s p.moves S x)) r)
      → (m n : ℕ) × T (bit S m) × T ((automaton p).move m x n) × Hiding p visible n r
  step_at S x r t =
      let a = hull_at p visible (forward_step p.k p.s p.moves S x) r t in
      let b = (lawful p).step_at S x a.0 a.2 in
      (b.0, a.0, b.1, b.2, a.3)

  step_of : (S x m : ℕ) {n r : ℕ} → T (bit S m) → T ((automaton p).move m x n) → Hiding p visible n r
      → T (bit (hull p visible (forward_step p.k p.s p.moves S x)) r)
  step_of S x m {n} {r} h t z = hull_of p visible (forward_step p.k p.s p.moves S x) (move_inside m x n t).1 ((lawful p).step_of S x m n h t) z

  pub late_at : (q x r : ℕ) → q < p.s → T (bit (hull p visible (leads_late p visible q x)) r) → Reads q x r
  late_at q x r lt t =
      let n = step_at (reach p visible q) x r t in
      record { before = n.0; after = n.1; lead = (reach_exactly p visible q n.0 lt).0 n.2; letter = n.3; trail = n.4 }

  pub late_of : (q x r : ℕ) → q < p.s → Reads q x r → T (bit (hull p visible (leads_late p visible q x)) r)
  late_of q x r lt h = step_of (reach p visible q) x h.before ((reach_exactly p visible q h.before lt).1 h.lead) h.letter h.trail

  -- the moves of the view
  pub view_move : (q x r : ℕ) → T ((view p visible).move q x r) ↔ ((q < p.s) × Reads q x r)
  view_move q x r = (
    λ t. let lt = ltb→lt q p.s (fst_of (ltb q p.s) (bit (hull p visible (leads_late p visible q x)) r) t) in
        (lt, late_at q x r lt (snd_of (ltb q p.s) (bit (hull p visible (leads_late p visible q x)) r) t)),
    λ h. both (ltb q p.s) (bit (hull p visible (leads_late p visible q x)) r) (lt→ltb q p.s h.0) (late_of q x r h.0 h.1),
  )

  -- its steps are what its moves say
  pub view_lawful : Lawful (view p visible)
  view_lawful = record {
    step_of = λ S x q r h t.
        let m = (view_move q x r).0 t in
        step_of (hull p visible S) x m.1.before (hull_of p visible S m.0 h m.1.lead) m.1.letter m.1.trail;
    step_at = λ S x r t.
        let n = step_at (hull p visible S) x r t in
        let m = hull_at p visible S n.0 n.2 in
        (m.0, m.2, (view_move m.0 x r).1 (m.1, record { before = n.0; after = n.1; lead = m.3; letter = n.3; trail = n.4 }));
    back_of = λ R x q r h t.
        let b = hull p visible (leads_late p visible q x) in
        union_of (λ q. 2 ^ q) q
        (filter_of (λ q. meets (hull p visible (leads_late p visible q x)) R) (below_of p.s q ((view_move q x r).0 t).0)
        (meets_of b R r (snd_of (ltb q p.s) (bit b r) t) h))
        (bit_self q);
    back_at = λ R x q t.
        let n = union_at (λ q. 2 ^ q) (filter (λ q. meets (hull p visible (leads_late p visible q x)) R) (below p.s)) q t in
        let m = filter_at (λ q. meets (hull p visible (leads_late p visible q x)) R) (below p.s) n.1 in
        let e = bit_single n.0 q n.2 in
        let r = meets_at (hull p visible (leads_late p visible q x)) R (subst (λ y. T (meets (hull p visible (leads_late p visible y x)) R)) e m.1) in
        (r.0, r.2, both (ltb q p.s) (bit (hull p visible (leads_late p visible q x)) r.0) (lt→ltb q p.s (subst (λ y. y < p.s) e (below_at p.s n.0 m.0))) r.1);
  }

  -- ---- lists of letters

  -- a list of letters leads from q to r, and u is its visible part
  pub record Leading (q : ℕ) (u : List ℕ) (r : ℕ) : Type 0 where
    pub list : List ℕ
    pub letters : T (letters_below (λ a. a) p.k list)
    pub leads : PathOf (automaton p) (λ a. a) q list r
    pub shows : seen visible list ≡ u

  leading_append : {q m r : ℕ} {u v : List ℕ} → Leading q u m → Leading m v r → Leading q (u ++ v) r
  leading_append {u = u} a b = record {
    list = a.list ++ b.list;
    letters = all_append (λ x. ltb x p.k) a.list b.list a.letters b.letters;
    leads = leads_append (automaton p) (lawful p) (λ a. a) a.leads b.leads;
    shows = filter_append (bit visible) a.list b.list ∙ ap (λ l. l ++ seen visible b.list) a.shows ∙ ap (λ l. u ++ l) b.shows;
  }

  leading_hidden : {q r : ℕ} → Hiding p visible q r → Leading q [] r
  leading_hidden h = record { list = h.list; letters = h.letters; leads = h.leads; shows = h.hides }

  leading_letter : {q r : ℕ} (x : ℕ) → x < p.k → T (bit visible x) → T ((automaton p).move q x r) → Leading q (x ∷ []) r
  leading_letter x lt t m = record { list = x ∷ []; letters = both (ltb x p.k) true (lt→ltb x p.k lt) tt; leads = goes m stop; shows = filter_yes (bit visible) x [] t }

  -- a path of the view is a list of letters with hidden ones between
  pub view_path_at : {q r : ℕ} {u : List ℕ} → T (letters_below (λ a. a) p.k u) → T (all (bit visible) u) → PathOf (view p visible) (λ a. a) q u r → Leading q u r
  view_path_at k v (stop {q = q}) = leading_hidden (hiding_none p visible q)
  view_path_at k v (goes {q = q} {a = a} {r = r} {u = u} t l) =
      let m = ((view_move q a r).0 t).1 in
      leading_append (leading_hidden m.lead)
      (leading_append (leading_letter a (ltb→lt a p.k (fst_of (ltb a p.k) (letters_below (λ a. a) p.k u) k)) (fst_of (bit visible a) (all (bit visible) u) v) m.letter)
      (leading_append (leading_hidden m.trail) (view_path_at (snd_of (ltb a p.k) (letters_below (λ a. a) p.k u) k) (snd_of (bit visible a) (all (bit visible) u) v) l)))

  -- a list of letters: hidden ones, a path of the view over the visible ones, hidden ones
  pub view_path_of : (l : List ℕ) {q r : ℕ} → q < p.s → T (letters_below (λ a. a) p.k l) → PathOf (automaton p) (λ a. a) q l r
      → (b c : ℕ) × Hiding p visible q b × PathOf (view p visible) (λ a. a) b (seen visible l) c × Hiding p visible c r
  view_path_of [] {q} lt k stop = (q, q, hiding_none p visible q, stop, hiding_none p visible q)
  view_path_of (a ∷ u) {q} {r = e} lt k (goes {r = m} t l) =
      go (test (bit visible a)) (view_path_of u (move_inside q a m t).1 (snd_of (ltb a p.k) (letters_below (λ a. a) p.k u) k) l)
    where
      go : T (bit visible a) ⊎ T (not (bit visible a)) → (b c : ℕ) × Hiding p visible m b × PathOf (view p visible) (λ a. a) b (seen visible u) c × Hiding p visible c e
          → (b c : ℕ) × Hiding p visible q b × PathOf (view p visible) (λ a. a) b (seen visible (a ∷ u)) c × Hiding p visible c e
      go (inl v) n = (
        q,
        n.1,
        hiding_none p visible q,
        subst (λ z. PathOf (view p visible) (λ a. a) q z n.1) (sym (filter_yes (bit visible) a u v))
            (goes ((view_move q a n.0).1 (lt, record { before = q; after = m; lead = hiding_none p visible q; letter = t; trail = n.2 })) n.3),
        n.4,
      )
      go (inr v) n = (
        n.0,
        n.1,
        hiding_append p visible (record { list = a ∷ []; letters = both (ltb a p.k) true (fst_of (ltb a p.k) (letters_below (λ a. a) p.k u) k) tt; hides = filter_no (bit visible) a [] v; leads = goes t stop }) n.2,
        subst (λ z. PathOf (view p visible) (λ a. a) n.0 z n.1) (sym (filter_no (bit visible) a u v)) n.3,
        n.4,
      )

  pub view_path_inside : {q r : ℕ} {u : List ℕ} → q < p.s → PathOf (view p visible) (λ a. a) q u r → r < p.s
  view_path_inside lt stop = lt
  view_path_inside lt (goes {q = q} {a = a} {r = m} t l) =
      let n = ((view_move q a m).0 t).1 in
      view_path_inside (hiding_inside (move_inside n.before a n.after n.letter).1 n.trail) l

  -- ---- its start and its final states

  pub view_starts : (q : ℕ) → T (bit (view p visible).start q) ↔ Hiding p visible p.start q
  view_starts q = (
    λ t. let n = hull_at p visible (2 ^ p.start) q t in subst (λ z. Hiding p visible z q) (sym (bit_single p.start n.0 n.2)) n.3,
    λ h. hull_of p visible (2 ^ p.start) good.starts (bit_self p.start) h,
  )

  pub view_ends_at : (q : ℕ) → T (bit (view p visible).final q) → (q < p.s) × ((r : ℕ) × Hiding p visible q r × T (bit p.finals r))
  view_ends_at q t =
      let n = union_at (λ q. 2 ^ q) (filter (λ q. meets (reach p visible q) p.finals) (below p.s)) q t in
      let m = filter_at (λ q. meets (reach p visible q) p.finals) (below p.s) n.1 in
      let e = bit_single n.0 q n.2 in
      let lt = subst (λ y. y < p.s) e (below_at p.s n.0 m.0) in
      let r = meets_at (reach p visible q) p.finals (subst (λ y. T (meets (reach p visible y) p.finals)) e m.1) in
      (lt, (r.0, (reach_exactly p visible q r.0 lt).0 r.1, r.2))

  pub view_ends_of : {q r : ℕ} → q < p.s → Hiding p visible q r → T (bit p.finals r) → T (bit (view p visible).final q)
  view_ends_of {q} {r} lt h t =
      union_of (λ q. 2 ^ q) q (filter_of (λ q. meets (reach p visible q) p.finals) (below_of p.s q lt) (meets_of (reach p visible q) p.finals r ((reach_exactly p visible q r lt).1 h) t)) (bit_self q)

  -- ---- with the hidden letters at either end

  -- from the start
  pub from_start_at : {q r : ℕ} {u : List ℕ} → T (letters_below (λ a. a) p.k u) → T (all (bit visible) u) → T (bit (view p visible).start q) → PathOf (view p visible) (λ a. a) q u r → Leading p.start u r
  from_start_at {q} k v t l = leading_append (leading_hidden ((view_starts q).0 t)) (view_path_at k v l)

  pub from_start_of : {r : ℕ} (l : List ℕ) → T (letters_below (λ a. a) p.k l) → PathOf (automaton p) (λ a. a) p.start l r
      → (b : ℕ) × T (bit (view p visible).start b) × ((c : ℕ) × PathOf (view p visible) (λ a. a) b (seen visible l) c × Hiding p visible c r)
  from_start_of l k path =
      let n = view_path_of l good.starts k path in
      (n.0, (view_starts n.0).1 n.2, (n.1, n.3, n.4))

  -- to a final state
  pub to_final_at : {q c : ℕ} {u : List ℕ} → T (letters_below (λ a. a) p.k u) → T (all (bit visible) u) → PathOf (view p visible) (λ a. a) q u c → T (bit (view p visible).final c)
      → (r : ℕ) × Leading q u r × T (bit p.finals r)
  to_final_at {q} {c} {u} k v l t =
      let n = (view_ends_at c t).1 in
      (n.0, subst (λ z. Leading q z n.0) (append-nil u) (leading_append (view_path_at k v l) (leading_hidden n.1)), n.2)

  -- hidden letters behind the last visible one, and before the first
  pub trail_on : (a : ℕ) (u : List ℕ) {b c r : ℕ} → PathOf (view p visible) (λ a. a) b (a ∷ u) c → Hiding p visible c r → PathOf (view p visible) (λ a. a) b (a ∷ u) r
  trail_on a [] {b} {c} {r} (goes t stop) h =
      let m = (view_move b a c).0 t in
      goes ((view_move b a r).1 (m.0, record { before = m.1.before; after = m.1.after; lead = m.1.lead; letter = m.1.letter; trail = hiding_append p visible m.1.trail h })) stop
  trail_on a (x ∷ u) (goes t l) h = goes t (trail_on x u l h)

  pub lead_on : (a : ℕ) (u : List ℕ) {q b c : ℕ} → q < p.s → Hiding p visible q b → PathOf (view p visible) (λ a. a) b (a ∷ u) c → PathOf (view p visible) (λ a. a) q (a ∷ u) c
  lead_on a u {q} {b} lt h (goes {r = m} t l) =
      let n = ((view_move b a m).0 t).1 in
      goes ((view_move q a m).1 (lt, record { before = n.before; after = n.after; lead = hiding_append p visible h n.lead; letter = n.letter; trail = n.trail })) l

  -- ---- accepted lists

  pub behind_of : {u : List ℕ} → T (letters_below (λ a. a) p.k u) → T (all (bit visible) u) → Accepted (view p visible) (λ a. a) u → Behind p visible u
  behind_of {u} k v a =
      let n = to_final_at k v a.leads a.ends in
      let l = leading_append (leading_hidden ((view_starts a.from).0 a.starts)) n.1 in
      record { list = l.list; letters = l.letters; accepted = record { from = p.start; to = n.0; starts = bit_self p.start; leads = l.leads; ends = n.2 }; shows = l.shows }

  pub behind_at : {u : List ℕ} → Behind p visible u → Accepted (view p visible) (λ a. a) u
  behind_at {u} b =
      let a = b.accepted in
      let path = subst (λ z. PathOf (automaton p) (λ a. a) z b.list a.to) (sym (bit_single p.start a.from a.starts)) a.leads in
      let n = view_path_of b.list good.starts b.letters path in
      let lt = view_path_inside (hiding_inside good.starts n.2) n.3 in
      record { from = n.0; to = n.1; starts = (view_starts n.0).1 n.2; leads = subst (λ z. PathOf (view p visible) (λ a. a) n.0 z n.1) b.shows n.3; ends = view_ends_of lt n.4 a.ends }
