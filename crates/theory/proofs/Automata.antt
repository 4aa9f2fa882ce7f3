-- An automaton read along a log, and the states before and after a prefix.
use mathlib.Core.Path.{◌≡◌, refl, sym, ◌∙◌, ap, subst, fun_ext}
use mathlib.Core.Bool.{Bool}
use mathlib.Core.Logic.{◌⊎◌, inl, inr, ⊎_elim, ◌↔◌, ◌≢◌}
use mathlib.Core.List.{List, [], ◌∷◌, ◌++◌}
use Prim.Native.Nat.{ℕ}
use native.Mathlib.Omega.{arith}
use lib.Dec.{T, ltb, ltb→lt}
use lib.Bits.{or_zero_r}
use Rattle.profile.specs.Automata.{Accepted, Automaton, PathOf, goes, meets, run, run_back, stop, union}
use Rattle.profile.specs.Lists.{below, filter}
use Rattle.profile.specs.Prefixes.{IsPrefix, addable?, backward, count, forward, less, marked, more, unmarked}
use Rattle.profile.specs.Traces.{Reachable, bit, letters_below, orders}
use Rattle.profile.proofs.Lists.{below_of, filter_at, filter_of}
use Rattle.theory.proofs.Prefixes.{addable_at, addable_of, all_of_pick, count_append, count_of_prefix, count_order, front_all, front_marked, front_none, more_of_pick, prefix_of_front, prefix_of_takes, removable_at, removable_of, removable?, takes_of_prefix}
pub use Rattle.profile.proofs.Paths.{Lawful, run_at, run_of}
use Rattle.profile.proofs.Sets.{meets_at, meets_of, sets_eq, union_at, union_of}
use Rattle.profile.proofs.Traces.{Order, Pick, done, mem_of_order, next, order_of_mem, order_of_reach, reach_of_order, takes_last, takes_trans}

module _ (M : Automaton) (L : Lawful M) (letter : ℕ → ℕ) where
  pub back_of_leads : (R : ℕ) {q r : ℕ} {u : List ℕ} → PathOf M letter q u r → T (bit R r) → T (bit (run_back M letter R u) q)
  back_of_leads R stop h = h
  back_of_leads R (goes {q = q} {a = a} {r = r} {u = u} m l) h = L.back_of (run_back M letter R u) (letter a) q r (back_of_leads R l h) m

  pub back_at_leads : (R : ℕ) (u : List ℕ) (q : ℕ) → T (bit (run_back M letter R u) q) → (r : ℕ) × PathOf M letter q u r × T (bit R r)
  back_at_leads R [] q h = (q, stop, h)
  back_at_leads R (a ∷ u) q h =
      let k = L.back_at (run_back M letter R u) (letter a) q h in
      let n = back_at_leads R u k.0 k.1 in
      (n.0, goes k.2 n.1, n.2)

  pub leads_append : {q r s : ℕ} {u v : List ℕ} → PathOf M letter q u r → PathOf M letter r v s → PathOf M letter q (u ++ v) s
  leads_append stop l = l
  leads_append (goes m k) l = goes m (leads_append k l)

  pub leads_split : (u : List ℕ) {q s : ℕ} {v : List ℕ} → PathOf M letter q (u ++ v) s → (r : ℕ) × PathOf M letter q u r × PathOf M letter r v s
  leads_split [] l = (_, stop, l)
  leads_split (a ∷ u) (goes m l) = let n = leads_split u l in (n.0, goes m n.1, n.2)

  leads_one : {q a r : ℕ} → PathOf M letter q (a ∷ []) r → T (M.move q (letter a) r)
  leads_one (goes m stop) = m

module _ (may : ℕ → ℕ → Bool) (letter : ℕ → ℕ) (M : Automaton) (L : Lawful M) (w : List ℕ) where
  pub forward_of : (c : ℕ → ℕ) {u : List ℕ} {q r : ℕ} → Order may (marked letter w c) u → T (bit M.start q) → PathOf M letter q u r → T (bit (forward may letter M w c) r)
  forward_of c {r = r} o h l = union_of (run M letter M.start) r (mem_of_order may (marked letter w c) o) (run_of M L letter M.start h l)

  pub forward_at : (c : ℕ → ℕ) (r : ℕ) → T (bit (forward may letter M w c) r)
      → (u : List ℕ) × (q : ℕ) × Order may (marked letter w c) u × T (bit M.start q) × PathOf M letter q u r
  forward_at c r h =
      let n = union_at (run M letter M.start) (orders may (marked letter w c)) r h in
      let k = run_at M L letter M.start n.0 r n.2 in
      (n.0, k.0, order_of_mem may (marked letter w c) n.1, k.1, k.2)

  pub backward_of : (c : ℕ → ℕ) {u : List ℕ} {q r : ℕ} → Order may (unmarked letter w c) u → PathOf M letter q u r → T (bit M.final r) → T (bit (backward may letter M w c) q)
  backward_of c {q = q} o l h = union_of (run_back M letter M.final) q (mem_of_order may (unmarked letter w c) o) (back_of_leads M L letter M.final l h)

  pub backward_at : (c : ℕ → ℕ) (q : ℕ) → T (bit (backward may letter M w c) q)
      → (u : List ℕ) × (r : ℕ) × Order may (unmarked letter w c) u × PathOf M letter q u r × T (bit M.final r)
  backward_at c q h =
      let n = union_at (run_back M letter M.final) (orders may (unmarked letter w c)) q h in
      let k = back_at_leads M L letter M.final n.0 q n.2 in
      (n.0, k.0, order_of_mem may (unmarked letter w c) n.1, k.1, k.2)

  module _ (distinct : (a b : ℕ) → T (may a b) → letter a ≢ letter b) where
    -- ---- forward, from the prefixes with one letter less

    -- what is taken, then one event more
    pub forward_next : {d : ℕ → ℕ} {a : ℕ} {r : List ℕ} (s : ℕ) → IsPrefix may letter w d → Pick may (unmarked letter w d) a r
        → T (bit (M.step (forward may letter M w d) (letter a)) s) → T (bit (forward may letter M w (more d (letter a))) s)
    forward_next {d} {a} {r} s p k h =
        let n = L.step_at (forward may letter M w d) (letter a) s h in
        let f = forward_at d n.0 n.1 in
        let t = takes_trans may (takes_of_prefix may letter p f.2) (next k done) in
        let o = (prefix_of_takes may letter distinct t).2 in
        let e : count letter (f.0 ++ (a ∷ [])) ≡ more d (letter a) = fun_ext (λ y. omega (
          arith,
          count_append may letter f.0 (a ∷ []) y,
          ap (λ g. g y) (sym (count_order may letter f.2) ∙ count_of_prefix may letter p),
        )) in
        forward_of (more d (letter a)) {u = f.0 ++ (a ∷ [])} (rw e at o) f.3 (leads_append M L letter f.4 (goes n.2 stop))

    pub forward_last : {c : ℕ → ℕ} (s : ℕ) → IsPrefix may letter w c → T (bit (forward may letter M w c) s)
        → ((c ≡ (λ x. 0)) × T (bit M.start s))
        ⊎ ((d : ℕ → ℕ) × (a : ℕ) × IsPrefix may letter w d × (c ≡ more d (letter a)) × Pick may (unmarked letter w d) a (unmarked letter w c)
        × T (bit (M.step (forward may letter M w d) (letter a)) s))
    forward_last {c} s p h = let f = forward_at c s h in go f.0 f.1 f.2 f.3 f.4
      where
        go : (u : List ℕ) (q : ℕ) → Order may (marked letter w c) u → T (bit M.start q) → PathOf M letter q u s
            → ((c ≡ (λ x. 0)) × T (bit M.start s))
            ⊎ ((d : ℕ → ℕ) × (a : ℕ) × IsPrefix may letter w d × (c ≡ more d (letter a)) × Pick may (unmarked letter w d) a (unmarked letter w c)
            × T (bit (M.step (forward may letter M w d) (letter a)) s))
        go [] q o h stop = inl (sym (count_of_prefix may letter p) ∙ count_order may letter o, h)
        go (b ∷ u) q o h l =
            let n = takes_last may (takes_of_prefix may letter p o) in
            let k = prefix_of_takes may letter distinct n.4 in
            let m = leads_split M L letter n.0 (rw n.3 at l) in
            let e : c ≡ more (count letter n.0) (letter n.2) = fun_ext (λ y. omega (
              arith,
              count_append may letter n.0 (n.2 ∷ []) y,
              ap (λ g. g y) (sym (count_of_prefix may letter p) ∙ count_order may letter o),
              ap (λ g. count letter g y) n.3,
            )) in
            inr (
              count letter n.0,
              n.2,
              k.0,
              e,
              rw k.1 n.5,
              L.step_of (forward may letter M w (count letter n.0)) (letter n.2) m.0 s
                  (forward_of (count letter n.0) {u = n.0} k.2 h m.1) (leads_one M L letter m.2),
            )

    -- ---- backward, from the prefixes with one letter more

    pub backward_next : {c : ℕ → ℕ} {a : ℕ} {r : List ℕ} (q : ℕ) → IsPrefix may letter w c → Pick may (unmarked letter w c) a r
        → T (bit (M.back (backward may letter M w (more c (letter a))) (letter a)) q) → T (bit (backward may letter M w c) q)
    backward_next {c} {a} {r} q p k h =
        let n = L.back_at (backward may letter M w (more c (letter a))) (letter a) q h in
        let b = backward_at (more c (letter a)) n.0 n.1 in
        let e = (more_of_pick may letter distinct p k).1 in
        backward_of c (next k (subst (λ l. Order may l b.0) e b.2)) (goes n.2 b.3) b.4

    pub backward_first : {c : ℕ → ℕ} (q : ℕ) → IsPrefix may letter w c → T (bit (backward may letter M w c) q)
        → ((unmarked letter w c ≡ []) × T (bit M.final q))
        ⊎ ((a : ℕ) × IsPrefix may letter w (more c (letter a)) × Pick may (unmarked letter w c) a (unmarked letter w (more c (letter a)))
        × T (bit (M.back (backward may letter M w (more c (letter a))) (letter a)) q))
    backward_first {c} q p h = let b = backward_at c q h in go (unmarked letter w c) refl b.1 b.0 b.2 b.3 b.4
      where
        go : (r : List ℕ) → unmarked letter w c ≡ r → (f : ℕ) (u : List ℕ) → Order may r u → PathOf M letter q u f → T (bit M.final f)
            → ((unmarked letter w c ≡ []) × T (bit M.final q))
            ⊎ ((a : ℕ) × IsPrefix may letter w (more c (letter a)) × Pick may (unmarked letter w c) a (unmarked letter w (more c (letter a)))
            × T (bit (M.back (backward may letter M w (more c (letter a))) (letter a)) q))
        go r e f [] done stop h = inl (e, h)
        go r e f (a ∷ u) (next {r = r'} k o) (goes {r = s} m l) h =
            let k' : Pick may (unmarked letter w c) a r' = rw e k in
            let n = more_of_pick may letter distinct p k' in
            inr (
              a,
              n.0,
              rw n.1 k',
              L.back_of (backward may letter M w (more c (letter a))) (letter a) q s (backward_of (more c (letter a)) (rw n.1 o) l h) m,
            )

    -- ---- the verdict

    pub unmarked_none : unmarked letter w (λ x. 0) ≡ w
    unmarked_none = (front_marked may letter distinct (front_none may w)).1

    pub prefix_none : IsPrefix may letter w (λ x. 0)
    prefix_none = prefix_of_front may letter distinct (front_none may w)

    -- some reachable log is accepted exactly when the backward set of the empty prefix has a start state
    pub verdict_at : T (meets M.start (backward may letter M w (λ x. 0))) → (v : List ℕ) × Reachable may w v × Accepted M letter v
    verdict_at h =
        let n = meets_at M.start (backward may letter M w (λ x. 0)) h in
        let b = backward_at (λ x. 0) n.0 n.2 in
        (b.0, reach_of_order may (subst (λ l. Order may l b.0) unmarked_none b.2), record { from = n.0; to = b.1; starts = n.1; leads = b.3; ends = b.4 })

    pub verdict_of : {v : List ℕ} → Reachable may w v → Accepted M letter v → T (meets M.start (backward may letter M w (λ x. 0)))
    verdict_of {v} r a =
        let o : Order may (unmarked letter w (λ x. 0)) v = rw unmarked_none (order_of_reach may r) in
        meets_of M.start (backward may letter M w (λ x. 0)) a.from a.starts (backward_of (λ x. 0) o a.leads a.ends)

    -- or when the forward set of the whole log has a final state
    pub verdict_forward : T (meets (forward may letter M w (count letter w)) M.final) ↔ ((v : List ℕ) × Reachable may w v × Accepted M letter v)
    verdict_forward = (
      λ h.
          let n = meets_at (forward may letter M w (count letter w)) M.final h in
          let f = forward_at (count letter w) n.0 n.1 in
          (f.0, reach_of_order may (subst (λ l. Order may l f.0) marked_all f.2), record { from = f.1; to = n.0; starts = f.3; leads = f.4; ends = n.2 }),
      λ v.
          let a = v.2 in
          meets_of (forward may letter M w (count letter w)) M.final a.to
          (forward_of (count letter w) (subst (λ l. Order may l v.0) (sym marked_all) (order_of_reach may v.1)) a.starts a.leads) a.ends,
    )
      where
        marked_all : marked letter w (count letter w) ≡ w
        marked_all = (front_marked may letter distinct (front_all may w)).0

    -- ---- as equations between sets

    pub forward_none : forward may letter M w (λ x. 0) ≡ M.start
    forward_none = ap (λ l. union (run M letter M.start) (orders may l)) (front_marked may letter distinct (front_none may w)).0 ∙ or_zero_r M.start

    pub backward_all : (c : ℕ → ℕ) → unmarked letter w c ≡ [] → backward may letter M w c ≡ M.final
    backward_all c e = ap (λ l. union (run_back M letter M.final) (orders may l)) e ∙ or_zero_r M.final

    -- the letters of w are below k
    module _ (k : ℕ) (letters : T (letters_below letter k w)) where
      pub forward_eq : (c : ℕ → ℕ) → IsPrefix may letter w c → (c ≡ (λ x. 0) → ⊥)
          → forward may letter M w c ≡ union (λ x. M.step (forward may letter M w (less c x)) x) (filter (removable? may letter w c) (below k))
      forward_eq c p ne = sets_eq (forward may letter M w c) (union itself (filter (removable? may letter w c) (below k))) into from
        where
          itself : ℕ → ℕ
          itself x = M.step (forward may letter M w (less c x)) x

          into : (s : ℕ) → T (bit (forward may letter M w c) s) → T (bit (union itself (filter (removable? may letter w c) (below k))) s)
          into s h = ⊎_elim (λ z. absurd (ne z.0))
              (λ n.
              let x = letter n.1 in
              let t = removable_of may letter distinct c x n.2 n.3 in
              let lt = ltb→lt x k (all_of_pick may letter distinct (λ a. ltb (letter a) k) n.2 n.4 letters) in
              union_of itself s (filter_of (removable? may letter w c) (below_of k x lt) t.0)
              (subst (λ d. T (bit (M.step (forward may letter M w d) x) s)) (sym t.1) n.5))
              (forward_last s p h)

          from : (s : ℕ) → T (bit (union itself (filter (removable? may letter w c) (below k))) s) → T (bit (forward may letter M w c) s)
          from s h =
              let n = union_at itself (filter (removable? may letter w c) (below k)) s h in
              let t = removable_at may letter distinct p (filter_at (removable? may letter w c) (below k) n.1).1 in
              subst (λ d. T (bit (forward may letter M w d) s)) (ap (more (less c n.0)) t.2 ∙ t.4)
              (forward_next s t.0 t.3 (subst (λ x. T (bit (M.step (forward may letter M w (less c n.0)) x) s)) (sym t.2) n.2))

      pub backward_eq : (c : ℕ → ℕ) → IsPrefix may letter w c → (unmarked letter w c ≡ [] → ⊥)
          → backward may letter M w c ≡ union (λ x. M.back (backward may letter M w (more c x)) x) (filter (addable? may letter w c) (below k))
      backward_eq c p ne = sets_eq (backward may letter M w c) (union itself (filter (addable? may letter w c) (below k))) into from
        where
          itself : ℕ → ℕ
          itself x = M.back (backward may letter M w (more c x)) x

          into : (s : ℕ) → T (bit (backward may letter M w c) s) → T (bit (union itself (filter (addable? may letter w c) (below k))) s)
          into s h = ⊎_elim (λ z. absurd (ne z.0))
              (λ n.
              let x = letter n.0 in
              let lt = ltb→lt x k (all_of_pick may letter distinct (λ a. ltb (letter a) k) p n.2 letters) in
              union_of itself s (filter_of (addable? may letter w c) (below_of k x lt) (addable_of may letter distinct c x n.1)) n.3)
              (backward_first s p h)

          from : (s : ℕ) → T (bit (union itself (filter (addable? may letter w c) (below k))) s) → T (bit (backward may letter M w c) s)
          from s h =
              let n = union_at itself (filter (addable? may letter w c) (below k)) s h in
              let t = addable_at may letter distinct p (filter_at (addable? may letter w c) (below k) n.1).1 in
              backward_next s p t.3 (subst (λ x. T (bit (M.back (backward may letter M w (more c x)) x) s)) (sym t.2) n.2)
