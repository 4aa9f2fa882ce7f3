-- The walk that finds the earliest accepted order of the fewest swaps: letter by letter the smallest with which such an order goes on.
use mathlib.Core.Path.{◌≡◌, refl, sym, ◌∙◌, ap, subst, fun_ext}
use mathlib.Core.Bool.{Bool, ◌&&◌}
use mathlib.Core.Logic.{◌⊎◌, ⊎_elim, ◌≢◌}
use mathlib.Core.List.{List, [], ◌∷◌, ◌++◌, map, map-append}
use mathlib.Core.Option.{none, some}
use Prim.Native.Nat.{ℕ, ◌+◌, ◌≤◌, ◌<◌}
use native.Mathlib.Omega.{arith}
use lib.Dec.{T, eqb, eqb→eq, eqb_refl, ltb, ltb→lt}
use Rattle.profile.specs.Automata.{Accepted, Automaton, accepted?, meets, run}
use Rattle.profile.specs.Lists.{Mem, any, filter}
use Rattle.profile.specs.Orders.{earliest}
use Rattle.profile.specs.Prefixes.{IsPrefix, addable?, count, more, unmarked}
use Rattle.profile.specs.Traces.{bit, letters_below, orders}
use Rattle.profile.proofs.Lists.{any_at, any_of, both, filter_agree, fst_of, lt_or_le, snd_of}
use Rattle.profile.proofs.Sets.{meets_at, meets_of}
use Rattle.profile.proofs.Traces.{Order, Pick, Takes, done, mem_of_order, next, order_of_mem, order_of_reach, reach_of_order, takes_trans}
use Rattle.theory.proofs.Automata.{Lawful, leads_append, run_at, run_of, unmarked_none}
use Rattle.theory.proofs.Earliest.{Greedy, end, good, greedy_first, take}
use Rattle.theory.proofs.Prefixes.{addable_at, addable_of, all_of_pick, count_append, more_of_pick}
use Rattle.swaps.specs.Swaps.{step_cost, swaps, taking}
use Rattle.swaps.specs.Closest.{fewest_swaps, order_with, rest_swaps}
use Rattle.swaps.proofs.Floors.{fewest_swaps_at, fewest_swaps_le}
use Rattle.swaps.proofs.Pairs.{count_letters, taking_append}
use Rattle.swaps.proofs.Rests.{order_swaps, rest_at, rest_of}

module _ (may : ℕ → ℕ → Bool) (letter : ℕ → ℕ) (M : Automaton) (L : Lawful M) (w : List ℕ) (distinct : (a b : ℕ) → T (may a b) → letter a ≢ letter b) (n : ℕ) where
  -- what is read so far: the counts of the letters taken, their cost, the states reached
  abbrev pub Read : Type 0
  Read = (ℕ → ℕ) × ℕ × ℕ

  abbrev pub read_on : Read → ℕ → Read
  read_on s x = (more s.0 x, s.1 + step_cost letter w s.0 x, M.step s.2 x)

  abbrev pub read_all : Read → Bool
  read_all s = meets s.2 M.final && eqb s.1 n

  abbrev pub unread : Read
  unread = (λ x. 0, 0, M.start)

  abbrev fine : Read → List ℕ → Bool
  fine = good may letter read_on read_all

  -- some order of the rest may follow
  abbrev pub goes_on : Read → List ℕ → Bool
  goes_on s r = any (fine s) (orders may r)

  abbrev pub Walk : Read → List ℕ → List ℕ → Read → List ℕ → Type 0
  Walk = Greedy may letter read_on read_all goes_on

  fine_is : (v : List ℕ) (s : Read) → fine s v ≡ (meets (run M letter s.2 v) M.final && eqb (s.1 + taking letter w s.0 (map letter v)) n)
  fine_is [] s = ap (λ m. meets s.2 M.final && eqb m n) (omega arith)
  fine_is (a ∷ v) s =
      fine_is v (read_on s (letter a))
      ∙ ap (λ m. meets (run M letter s.2 (a ∷ v)) M.final && eqb m n) (omega arith)

  goes_of : (s : Read) (r v : List ℕ) → Order may r v → T (fine s v) → T (goes_on s r)
  goes_of s r v o h = any_of (fine s) (mem_of_order may r o) h

  goes_at : (s : Read) (r : List ℕ) → T (goes_on s r) → (v : List ℕ) × Order may r v × T (fine s v)
  goes_at s r h = let m = any_at (fine s) (orders may r) h in (m.0, order_of_mem may r m.1, m.2)

  -- a walk to the end is the earliest accepted order of n swaps
  pub walk_order : {v : List ℕ} {t : Read} → T (goes_on unread w) → Walk unread w v t [] → order_with may letter M w n ≡ some (map letter v)
  walk_order {v} h g =
      ap (λ l. earliest (map (map letter) l)) (filter_agree (λ u. accepted? M letter u && eqb (swaps letter w (map letter u)) n) (fine unread) (orders may w) same)
      ∙ greedy_first may letter read_on read_all goes_on distinct goes_of goes_at h g
    where
      same : (u : List ℕ) → Mem u (orders may w) → (accepted? M letter u && eqb (swaps letter w (map letter u)) n) ≡ fine unread u
      same u m =
          let o = order_of_mem may w m in
          sym (fine_is u unread ∙ ap (λ i. accepted? M letter u && eqb i n) (omega (arith, order_swaps may letter M L w distinct o)))

  -- ---- where n are the fewest swaps, an order goes on where the cost of what is left fits

  -- u was taken to read so far
  pub record ReadBy (u : List ℕ) (s : Read) : Type 0 where
    pub taken : Takes may w u (unmarked letter w s.0)
    pub counts : count letter u ≡ s.0
    pub cost : taking letter w (λ x. 0) (map letter u) ≡ s.1
    pub states : run M letter M.start u ≡ s.2

  module _ (few : fewest_swaps may letter M w ≡ some n) where
    pub goes_rest : (s : Read) → T (goes_on s (unmarked letter w s.0)) → (q m : ℕ) × T (bit s.2 q) × (rest_swaps may letter M w s.0 q ≡ some m) × (s.1 + m ≤ n)
    goes_rest s h =
        let g = goes_at s (unmarked letter w s.0) h in
        let v = g.0 in
        let f = subst T (fine_is v s) g.2 in
        let k = meets_at (run M letter s.2 v) M.final (fst_of (meets (run M letter s.2 v) M.final) (eqb (s.1 + taking letter w s.0 (map letter v)) n) f) in
        let e = eqb→eq (s.1 + taking letter w s.0 (map letter v)) n (snd_of (meets (run M letter s.2 v) M.final) (eqb (s.1 + taking letter w s.0 (map letter v)) n) f) in
        let b = run_at M L letter s.2 v k.0 k.1 in
        let r = rest_of may letter M L w distinct s.0 g.1 b.2 k.2 in
        (b.0, r.0, b.1, r.1, omega (arith, r.2, e))

    pub rest_goes : {u : List ℕ} (s : Read) (q m : ℕ) → ReadBy u s → T (bit s.2 q) → rest_swaps may letter M w s.0 q ≡ some m → s.1 + m ≤ n
        → T (goes_on s (unmarked letter w s.0))
    rest_goes {u} s q m by h e le =
        let g = rest_at may letter M L w distinct s.0 q e in
        let v = g.0 in
        let o : Order may w (u ++ v) = takes_trans may by.taken g.2 in
        let b = run_at M L letter M.start u q (subst (λ S. T (bit S q)) (sym by.states) h) in
        let a : Accepted M letter (u ++ v) = record { from = b.0; to = g.1; starts = b.1; leads = leads_append M L letter b.2 g.3; ends = g.4 } in
        let f : ℕ → ℕ = λ y. count (λ a. a) (map letter u) y + 0 in
        let d : f ≡ s.0 = fun_ext (λ y. omega (arith, count_letters letter u y, ap (λ i. i y) by.counts)) in
        let t : s.1 + taking letter w s.0 (map letter v) ≡ n = omega (
          arith,
          fewest_swaps_le may letter M L w few (reach_of_order may o) a,
          order_swaps may letter M L w distinct o,
          ap (taking letter w (λ x. 0)) (map-append letter u v),
          taking_append letter w (λ x. 0) (map letter u) (map letter v),
          ap (λ i. taking letter w i (map letter v)) d,
          by.cost,
          g.5,
          le,
        ) in
        goes_of s (unmarked letter w s.0) v g.2
        (subst T (sym (fine_is v s)) (both (meets (run M letter s.2 v) M.final) (eqb (s.1 + taking letter w s.0 (map letter v)) n)
        (meets_of (run M letter s.2 v) M.final g.1 (run_of M L letter s.2 h g.3) g.4)
        (subst (λ i. T (eqb i n)) (sym t) (eqb_refl n))))

    -- ---- one step of the walk

    -- with the letter x, which can be added, an order of n swaps goes on: some state reached then is at a cost that fits
    abbrev pub Fits : Read → ℕ → Type 0
    Fits s x = (q m : ℕ) × T (bit (M.step s.2 x) q) × (rest_swaps may letter M w (more s.0 x) q ≡ some m) × (s.1 + step_cost letter w s.0 x + m ≤ n)

    read_more : {u : List ℕ} {a : ℕ} (s : Read) → IsPrefix may letter w s.0 → ReadBy u s → Pick may (unmarked letter w s.0) a (unmarked letter w (more s.0 (letter a)))
        → ReadBy (u ++ (a ∷ [])) (read_on s (letter a))
    read_more {u} {a} s p by k =
        let f : ℕ → ℕ = λ y. count (λ a. a) (map letter u) y + 0 in
        let d : f ≡ s.0 = fun_ext (λ y. omega (arith, count_letters letter u y, ap (λ i. i y) by.counts)) in
        record {
          taken = takes_trans may by.taken (next k done);
          counts = fun_ext (λ y. omega (arith, count_append may letter u (a ∷ []) y, ap (λ i. i y) by.counts));
          cost = omega (
            arith,
            ap (taking letter w (λ x. 0)) (map-append letter u (a ∷ [])),
            taking_append letter w (λ x. 0) (map letter u) (letter a ∷ []),
            ap (λ i. step_cost letter w i (letter a)) d,
            by.cost,
          );
          states = run-append u M.start ∙ ap (λ S. M.step S (letter a)) by.states;
        }
      where
        run-append : (u : List ℕ) (S : ℕ) → run M letter S (u ++ (a ∷ [])) ≡ M.step (run M letter S u) (letter a)
        run-append [] S = refl
        run-append (b ∷ u) S = run-append u (M.step S (letter b))

    -- the smallest letter that fits is the next of the walk
    pub walk_step : {u : List ℕ} (s : Read) (x : ℕ) → IsPrefix may letter w s.0 → ReadBy u s → T (addable? may letter w s.0 x) → Fits s x
        → ((y : ℕ) → y < x → T (addable? may letter w s.0 y) → Fits s y → ⊥)
        → (a : ℕ) × (letter a ≡ x) × Walk s (unmarked letter w s.0) (a ∷ []) (read_on s x) (unmarked letter w (more s.0 x)) × ReadBy (u ++ (a ∷ [])) (read_on s x)
        × IsPrefix may letter w (more s.0 x)
    walk_step {u} s x p by t fits least =
        let k = addable_at may letter distinct p t in
        let a = k.1 in
        let i : Pick may (unmarked letter w s.0) a (unmarked letter w (more s.0 (letter a))) =
        subst (λ y. Pick may (unmarked letter w s.0) a (unmarked letter w (more s.0 y))) (sym k.2) k.3 in
        let by' = read_more s p by i in
        let on = subst (λ y. Fits s y) (sym k.2) fits in
        let l = rest_goes (read_on s (letter a)) on.0 on.1 by' on.2 on.3 on.4 in (
          a,
          k.2,
          subst (λ y. Walk s (unmarked letter w s.0) (a ∷ []) (read_on s y) (unmarked letter w (more s.0 y))) k.2 (take i l smallest end),
          subst (λ y. ReadBy (u ++ (a ∷ [])) (read_on s y)) k.2 by',
          k.0,
        )
      where
        smallest : (b : ℕ) (y : List ℕ) → Pick may (unmarked letter w s.0) b y → T (goes_on (read_on s (letter b)) y) → letter (addable_at may letter distinct p t).1 ≤ letter b
        smallest b y j l = ⊎_elim
            (λ lt.
            let m = more_of_pick may letter distinct p j in
            let f = goes_rest (read_on s (letter b)) (subst (λ z. T (goes_on (read_on s (letter b)) z)) (sym m.1) l) in
            absurd (least (letter b) lt (addable_of may letter distinct s.0 (letter b) m.0) f))
            (λ le. subst (λ z. z ≤ letter b) (sym (addable_at may letter distinct p t).2) le) (lt_or_le (letter b) x)

    -- some letter fits as long as something is left
    pub walk_some : (k : ℕ) → T (letters_below letter k w) → (s : Read) → IsPrefix may letter w s.0 → (unmarked letter w s.0 ≡ [] → ⊥)
        → T (goes_on s (unmarked letter w s.0)) → (x : ℕ) × (x < k) × T (addable? may letter w s.0 x) × Fits s x
    walk_some k letters s p ne h = go g.0 g.1 g.2
      where
        g : (v : List ℕ) × Order may (unmarked letter w s.0) v × T (fine s v)
        g = goes_at s (unmarked letter w s.0) h

        go : (v : List ℕ) → Order may (unmarked letter w s.0) v → T (fine s v) → (x : ℕ) × (x < k) × T (addable? may letter w s.0 x) × Fits s x
        go v o f = first_of (unmarked letter w s.0) refl v o f
          where
            first_of : (r : List ℕ) → unmarked letter w s.0 ≡ r → (v : List ℕ) → Order may r v → T (fine s v) → (x : ℕ) × (x < k) × T (addable? may letter w s.0 x) × Fits s x
            first_of r e [] done f = absurd (ne e)
            first_of r e (a ∷ v) (next {r = r'} i o) f =
                let i' : Pick may (unmarked letter w s.0) a r' = rw e i in
                let m = more_of_pick may letter distinct p i' in
                let l = goes_of (read_on s (letter a)) (unmarked letter w (more s.0 (letter a))) v (subst (λ z. Order may z v) (sym m.1) o) f in (
                  letter a,
                  ltb→lt (letter a) k (all_of_pick may letter distinct (λ a. ltb (letter a) k) p i' letters),
                  addable_of may letter distinct s.0 (letter a) m.0,
                  goes_rest (read_on s (letter a)) l,
                )

    -- the walk begins
    pub walk_starts : T (goes_on unread w) × ReadBy [] unread
    walk_starts =
        let u = fewest_swaps_at may letter M L w few in
        let o = order_of_reach may u.1 in
        let v = u.0 in
        let b = (meets_of (run M letter M.start v) M.final u.2.to (run_of M L letter M.start u.2.starts u.2.leads) u.2.ends) in
        let t : 0 + taking letter w (λ x. 0) (map letter v) ≡ n = omega (arith, u.3, order_swaps may letter M L w distinct o) in (
          goes_of unread w v o (subst T (sym (fine_is v unread)) (both (meets (run M letter M.start v) M.final) (eqb (0 + taking letter w (λ x. 0) (map letter v)) n) b
              (subst (λ i. T (eqb i n)) (sym t) (eqb_refl n)))),
          record { taken = subst (λ r. Takes may w [] r) (sym (unmarked_none may letter M L w distinct)) done; counts = refl; cost = refl; states = refl },
        )
