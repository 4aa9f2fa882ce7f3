-- The view's automaton by a profile for the visible letters alone: hidden letters before each letter are in its moves, those behind the last in its final
-- states. Backward sets and orders are the same; the view's forward sets are the hulls.
use mathlib.Core.Path.{◌≡◌, refl, sym, ◌∙◌, ap, ap₂, subst}
use mathlib.Core.Bool.{Bool}
use mathlib.Core.List.Memᴰ
use mathlib.Core.List.{List, [], ◌∷◌, map}
use Prim.Native.Nat.{ℕ, ◌+◌, ◌*◌, ◌/◌, ◌%◌, ◌^◌, ◌<◌}
use native.Mathlib.Nat.{zero-add}
use lib.Arith.{digits_div, digits_lt, digits_mod}
use lib.Bits.{bit_or}
use lib.Dec.{T, ltb, ltb→lt}
use Rattle.profile.specs.Lists.{Mem, below, filter}
use Rattle.profile.specs.Traces.{bit, independent, letters_below, orders}
use Rattle.profile.specs.Automata.{Profile, accepted?, automaton, forward_step, meets, row, run, run_back, union}
use Rattle.profile.specs.Prefixes.{backward, forward, marked, unmarked}
use Rattle.profile.specs.Orders.{accepted_order, earliest}
use Rattle.profile.proofs.Lists.{below_at, below_of, filter_agree, filter_at, filter_of, fst_of, snd_of}
use Rattle.profile.proofs.Sets.{t_eq, bit_self, meets_at, meets_of, sets_eq, union_at, union_of}
use Rattle.profile.proofs.Traces.{order_of_mem, reach_of_order}
use Rattle.theory.proofs.Counting.{at_map}
use Rattle.theory.proofs.Profiles.{lawful}
use Rattle.theory.proofs.Refusals.{GoodProfile}
use Rattle.views.specs.Views.{Hiding, finals_late, hull, late, leads_late, reach, view}
use Rattle.views.proofs.Hiding.{hiding_append, hiding_none, hull_at, hull_of, reach_exactly}
use Rattle.views.proofs.Paths.{move_inside, view_ends_at, view_ends_of}
use Rattle.views.proofs.Said.{marked_all, reach_all, unmarked_all}

module _ (p : Profile) (good : GoodProfile p) (visible : ℕ) where
  -- the moves of the profile
  late_row : (q x : ℕ) → q < p.s → x < p.k → row p.k (late p visible).moves q x ≡ leads_late p visible q x
  late_row q x h l =
      at_map (λ j. leads_late p visible (j / p.k) (j % p.k)) (p.s * p.k) 0 (q * p.k + x) (digits_lt h l)
      ∙ ap (λ j. leads_late p visible (j / p.k) (j % p.k)) (zero-add (q * p.k + x)) ∙ ap₂ (λ a b. leads_late p visible a b) (digits_div q l) (digits_mod q l)

  late_step_at : (S x n : ℕ) → x < p.k → T (bit ((automaton (late p visible)).step S x) n)
      → (q m : ℕ) × (q < p.s) × T (bit S q) × Hiding p visible q m × T ((automaton p).move m x n)
  late_step_at S x n l t =
      let a = union_at (λ q. row p.k (late p visible).moves q x) (filter (bit S) (below p.s)) n t in
      let b = filter_at (bit S) (below p.s) a.1 in
      let lt = below_at p.s a.0 b.0 in
      let d = (lawful p).step_at (reach p visible a.0) x n (subst (λ z. T (bit z n)) (late_row a.0 x lt l) a.2) in
      (a.0, d.0, lt, b.1, (reach_exactly p visible a.0 d.0 lt).0 d.1, d.2)

  late_step_of : (S x n q m : ℕ) → x < p.k → q < p.s → T (bit S q) → Hiding p visible q m → T ((automaton p).move m x n) → T (bit ((automaton (late p visible)).step S x) n)
  late_step_of S x n q m l lt h z t =
      union_of (λ q. row p.k (late p visible).moves q x) n (filter_of (bit S) (below_of p.s q lt) h)
      (subst (λ y. T (bit y n)) (sym (late_row q x lt l)) ((lawful p).step_of (reach p visible q) x m n ((reach_exactly p visible q m lt).1 z) t))

  -- ---- forward

  -- a step of the view from a hull is the hull of the profile's step
  late_step : (S x : ℕ) → x < p.k → (view p visible).step (hull p visible S) x ≡ hull p visible ((automaton (late p visible)).step S x)
  late_step S x l = ap (hull p visible) (sets_eq (forward_step p.k p.s p.moves (hull p visible (hull p visible S)) x) ((automaton (late p visible)).step S x)
      (λ n t.
      let a = (lawful p).step_at (hull p visible (hull p visible S)) x n t in
      let b = hull_at p visible (hull p visible S) a.0 a.1 in
      let d = hull_at p visible S b.0 b.2 in
      late_step_of S x n d.0 a.0 l d.1 d.2 (hiding_append p visible d.3 b.3) a.2)
      (λ n t.
      let a = late_step_at S x n l t in
      let lt = (move_inside p good visible a.1 x n a.5).0 in
      (lawful p).step_of (hull p visible (hull p visible S)) x a.1 n (hull_of p visible (hull p visible S) lt (hull_of p visible S a.2 a.3 a.4) (hiding_none p visible a.1)) a.5))

  late_run : (S : ℕ) (u : List ℕ) → T (letters_below (λ a. a) p.k u) → run (view p visible) (λ a. a) (hull p visible S) u ≡ hull p visible (run (automaton (late p visible)) (λ a. a) S u)
  late_run S [] k = refl
  late_run S (a ∷ u) k =
      ap (λ R. run (view p visible) (λ a. a) R u) (late_step S a (ltb→lt a p.k (fst_of (ltb a p.k) (letters_below (λ a. a) p.k u) k)))
      ∙ late_run ((automaton (late p visible)).step S a) u (snd_of (ltb a p.k) (letters_below (λ a. a) p.k u) k)

  -- ---- backward

  -- what hidden letters lead into the set is in it
  Backed : ℕ → Type 0
  Backed R = (m r : ℕ) → m < p.s → Hiding p visible m r → T (bit R r) → T (bit R m)

  late_finals : Backed (finals_late p visible)
  unfolding Backed
  late_finals m r lt h t = let n = (view_ends_at p good visible r t).1 in view_ends_of p good visible lt (hiding_append p visible h n.1) n.2

  -- such a set meets a set of states where it meets its hull
  backed_meets : (X R : ℕ) → ((q : ℕ) → T (bit X q) → T (bit R q) → q < p.s) → Backed R → meets (hull p visible X) R ≡ meets X R
  unfolding Backed
  backed_meets X R inside b = t_eq (meets (hull p visible X) R) (meets X R)
      (λ t.
      let n = meets_at (hull p visible X) R t in
      let m = hull_at p visible X n.0 n.1 in
      meets_of X R m.0 m.2 (b m.0 n.0 m.1 m.3 n.2))
      (λ t.
      let n = meets_at X R t in
      meets_of (hull p visible X) R n.0 (hull_of p visible X (inside n.0 n.1 n.2) n.1 (hiding_none p visible n.0)) n.2)

  pub leads_inside : (q x r : ℕ) → T (bit (leads_late p visible q x) r) → r < p.s
  leads_inside q x r t = let a = (lawful p).step_at (reach p visible q) x r t in (move_inside p good visible a.0 x r a.2).1

  late_back : (R x : ℕ) → x < p.k → Backed R → (view p visible).back R x ≡ (automaton (late p visible)).back R x
  unfolding Backed
  late_back R x l b = ap (union (λ q. 2 ^ q)) (filter_agree (λ q. meets (hull p visible (leads_late p visible q x)) R) (λ q. meets (row p.k (late p visible).moves q x) R) (below p.s)
      (λ q m. backed_meets (leads_late p visible q x) R (λ r t h. leads_inside q x r t) b ∙ ap (λ z. meets z R) (sym (late_row q x (below_at p.s q m) l))))

  late_backed : (R x : ℕ) → x < p.k → Backed ((automaton (late p visible)).back R x)
  unfolding Backed
  late_backed R x l m r lt h t =
      let a = (lawful (late p visible)).back_at R x r t in
      let hr = ltb→lt r p.s (fst_of (ltb r p.s) (bit (row p.k (late p visible).moves r x) a.0) a.2) in
      let c = subst (λ z. T (bit z a.0)) (late_row r x hr l) (snd_of (ltb r p.s) (bit (row p.k (late p visible).moves r x) a.0) a.2) in
      let d = (lawful p).step_at (reach p visible r) x a.0 c in
      let e = (lawful p).step_of (reach p visible m) x d.0 a.0 ((reach_exactly p visible m d.0 lt).1 (hiding_append p visible h ((reach_exactly p visible r d.0 hr).0 d.1))) d.2 in
      union_of (λ q. 2 ^ q) m (filter_of (λ q. meets (row p.k (late p visible).moves q x) R) (below_of p.s m lt)
      (meets_of (row p.k (late p visible).moves m x) R a.0 (subst (λ z. T (bit z a.0)) (sym (late_row m x lt l)) e) a.1)) (bit_self m)

  late_run_back : (u : List ℕ) → T (letters_below (λ a. a) p.k u)
      → (run_back (view p visible) (λ a. a) (finals_late p visible) u ≡ run_back (automaton (late p visible)) (λ a. a) (finals_late p visible) u)
      × Backed (run_back (automaton (late p visible)) (λ a. a) (finals_late p visible) u)
  late_run_back [] k = (refl, late_finals)
  late_run_back (a ∷ u) k =
      let n = late_run_back u (snd_of (ltb a p.k) (letters_below (λ a. a) p.k u) k) in
      let l = ltb→lt a p.k (fst_of (ltb a p.k) (letters_below (λ a. a) p.k u) k) in
      let R = run_back (automaton (late p visible)) (λ a. a) (finals_late p visible) u in
      (ap (λ z. (view p visible).back z a) n.0 ∙ late_back R a l n.1, late_backed R a l)

  -- ---- the records and the order of a list of letters u

  module _ (u : List ℕ) (letters : T (letters_below (λ a. a) p.k u)) where
    abbrev may : ℕ → ℕ → Bool
    may = independent p.masks

    order_below : (v x : List ℕ) → T (letters_below (λ a. a) p.k v) → Mem x (orders may v) → T (letters_below (λ a. a) p.k x)
    order_below v x h m = reach_all (λ a. ltb a p.k) h (reach_of_order may (order_of_mem may v m))

    -- "forward … allow hidden letters anywhere, at either end too"
    pub late_forward : (c : ℕ → ℕ) → forward may (λ a. a) (view p visible) u c ≡ hull p visible (forward may (λ a. a) (automaton (late p visible)) u c)
    late_forward c = sets_eq (union runs (orders may l)) (hull p visible (union runs' (orders may l)))
        (λ r t.
        let n = union_at runs (orders may l) r t in
        let m = hull_at p visible (runs' n.0) r (subst (λ z. T (bit z r)) (late_run (2 ^ p.start) n.0 (order_below l n.0 low n.1)) n.2) in
        hull_of p visible (union runs' (orders may l)) m.1 (union_of runs' m.0 n.1 m.2) m.3)
        (λ r t.
        let m = hull_at p visible (union runs' (orders may l)) r t in
        let n = union_at runs' (orders may l) m.0 m.2 in
        union_of runs r n.1 (subst (λ z. T (bit z r)) (sym (late_run (2 ^ p.start) n.0 (order_below l n.0 low n.1))) (hull_of p visible (runs' n.0) m.1 n.2 m.3)))
      where
        l : List ℕ
        l = marked (λ a. a) u c

        low : T (letters_below (λ a. a) p.k (marked (λ a. a) u c))
        low = marked_all (λ a. ltb a p.k) u c letters

        runs : List ℕ → ℕ
        runs = run (view p visible) (λ a. a) (hull p visible (2 ^ p.start))

        runs' : List ℕ → ℕ
        runs' = run (automaton (late p visible)) (λ a. a) (2 ^ p.start)

    union_same : {A : Type 0} (f g : A → ℕ) (l : List A) → ((x : A) → Mem x l → f x ≡ g x) → union f l ≡ union g l
    union_same f g [] h = refl
    union_same f g (a ∷ l) h = ap₂ (λ x y. bit_or x y) (h a (Memᴰ.head refl)) (union_same f g l (λ x m. h x (Memᴰ.tail m)))

    pub late_backward : (c : ℕ → ℕ) → backward may (λ a. a) (view p visible) u c ≡ backward may (λ a. a) (automaton (late p visible)) u c
    late_backward c = union_same (run_back (view p visible) (λ a. a) (finals_late p visible)) (run_back (automaton (late p visible)) (λ a. a) (finals_late p visible)) (orders may (unmarked (λ a. a) u c))
        (λ x m. (late_run_back x (order_below (unmarked (λ a. a) u c) x (unmarked_all (λ a. ltb a p.k) u c letters) m)).0)

    pub late_order : accepted_order may (λ a. a) (view p visible) u ≡ accepted_order may (λ a. a) (automaton (late p visible)) u
    late_order = ap (λ l. earliest (map (map (λ a. a)) l)) (filter_agree (accepted? (view p visible) (λ a. a)) (accepted? (automaton (late p visible)) (λ a. a)) (orders may u)
        (λ x m. ap (λ S. meets S (finals_late p visible)) (late_run (2 ^ p.start) x (order_below u x letters m))
        ∙ backed_meets (run (automaton (late p visible)) (λ a. a) (2 ^ p.start) x) (finals_late p visible) (λ q t h. (view_ends_at p good visible q h).0) late_finals))
