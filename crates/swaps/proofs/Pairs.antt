-- The fewest swaps of a pair: its orders, taken one by one; from the pairs with one letter less, and to an accepted end from those with one letter more.
use mathlib.Core.Path.{◌≡◌, refl, sym, ◌∙◌, ap, subst, fun_ext}
use mathlib.Core.Bool.{Bool, true}
use mathlib.Core.Logic.{◌⊎◌, inl, inr, ◌≢◌}
use mathlib.Core.List.Memᴰ
use mathlib.Core.List.{List, [], ◌∷◌, ◌++◌, map, map-append}
use mathlib.Core.Option.{Option, none, some, some-injective}
use Prim.Native.Nat.{ℕ, ◌+◌, ◌≤◌}
use native.Mathlib.Omega.{arith}
use lib.Dec.{T, eqb, eqb_refl}
use Rattle.profile.specs.Automata.{Automaton, PathOf, goes, run, stop}
use Rattle.profile.specs.Lists.{Mem, filter, first_place}
use Rattle.profile.specs.Prefixes.{IsPrefix, count, marked, more, unmarked}
use Rattle.profile.specs.Traces.{bit, orders}
use Rattle.profile.proofs.Lists.{filter_at, filter_of, is_true}
use Rattle.profile.proofs.Traces.{Order, Pick, Takes, done, first, mem_of_order, next, order_of_mem, takes_last, takes_trans}
use Rattle.theory.proofs.Automata.{Lawful, leads_append, leads_split, run_at, run_of}
use Rattle.theory.proofs.Prefixes.{count_append, count_of_prefix, count_order, count_takes, more_of_pick, prefix_of_takes, takes_of_prefix}
use Rattle.swaps.specs.Swaps.{step_cost, swaps, taking}
use Rattle.swaps.specs.Closest.{fewest, pair_swaps}
use Rattle.swaps.proofs.Costs.{swaps_taking}
use Rattle.swaps.proofs.Fewest.{fewest_mem, fewest_some}

pub count_letters : (letter : ℕ → ℕ) (u : List ℕ) (x : ℕ) → count (λ a. a) (map letter u) x ≡ count letter u x
count_letters letter [] x = refl
count_letters letter (a ∷ u) x = omega (arith, count_letters letter u x)

pub taking_append : (letter : ℕ → ℕ) (w : List ℕ) (c : ℕ → ℕ) (u v : List ℕ)
    → taking letter w c (u ++ v) ≡ taking letter w c u + taking letter w (λ y. count (λ a. a) u y + c y) v
taking_append letter w c [] v = omega (arith, ap (λ d. taking letter w d v) (fun_ext {f = c} {g = λ y. 0 + c y} (λ y. omega arith)))
taking_append letter w c (x ∷ u) v =
    let f : ℕ → ℕ = λ y. count (λ a. a) u y + more c x y in
    let g : ℕ → ℕ = λ y. count (λ a. a) (x ∷ u) y + c y in
    let e : f ≡ g = fun_ext (λ y. omega arith) in
    omega (arith, taking_append letter w (more c x) u v, ap (λ d. taking letter w d v) e)

module _ (may : ℕ → ℕ → Bool) (letter : ℕ → ℕ) (M : Automaton) (L : Lawful M) (w : List ℕ) (distinct : (a b : ℕ) → T (may a b) → letter a ≢ letter b) where
  one_step : {q a r : ℕ} → PathOf M letter q (a ∷ []) r → T (M.move q (letter a) r)
  one_step (goes m stop) = m

  -- ---- a prefix brought to the front

  -- the events that are left cost nothing as they stand
  taking_rest : (l : List ℕ) {c : ℕ → ℕ} → IsPrefix may letter w c → unmarked letter w c ≡ l → taking letter w c (map letter l) ≡ 0
  taking_rest [] p e = refl
  taking_rest (a ∷ l) {c} p e =
      let k : Pick may (unmarked letter w c) a l = rw e first in
      let m = more_of_pick may letter distinct p k in
      let z : step_cost letter w c (letter a) ≡ 0 = rw (e, is_true (eqb (letter a) (letter a)) (eqb_refl (letter a)), first_place) in
      omega (arith, z, taking_rest l m.0 m.1)

  -- so the swaps of the prefix, brought to the front, are the cost of taking its events
  pub front_swaps : {c : ℕ → ℕ} {u : List ℕ} → IsPrefix may letter w c → Order may (marked letter w c) u
      → swaps letter w (map letter (u ++ unmarked letter w c)) ≡ taking letter w (λ x. 0) (map letter u)
  front_swaps {c} {u} p o =
      let r = unmarked letter w c in
      let t = takes_of_prefix may letter p o in
      let n : (x : ℕ) → count (λ a. a) (map letter (u ++ r)) x ≡ count letter w x = λ x. omega (
        arith,
        count_letters letter (u ++ r) x,
        count_append may letter u r x,
        count_takes may letter t x,
      ) in
      let f : ℕ → ℕ = λ y. count (λ a. a) (map letter u) y + 0 in
      let d : f ≡ c = fun_ext (λ y. omega (
        arith,
        count_letters letter u y,
        ap (λ g. g y) (sym (count_order may letter o) ∙ count_of_prefix may letter p),
      )) in
      omega (
        arith,
        swaps_taking may letter w (map letter (u ++ r)) n,
        ap (taking letter w (λ x. 0)) (map-append letter u r),
        taking_append letter w (λ x. 0) (map letter u) (map letter r),
        ap (λ g. taking letter w g (map letter r)) d,
        taking_rest r p refl,
      )

  pub pair_of : {c : ℕ → ℕ} {u : List ℕ} (q : ℕ) → IsPrefix may letter w c → Order may (marked letter w c) u → T (bit (run M letter M.start u) q)
      → (n : ℕ) × (pair_swaps may letter M w c q ≡ some n) × (n ≤ taking letter w (λ x. 0) (map letter u))
  pair_of {c} {u} q p o h =
      let f : List ℕ → ℕ = λ u. swaps letter w (map letter (u ++ unmarked letter w c)) in
      let good : List ℕ → Bool = λ u. bit (run M letter M.start u) q in
      let m = filter_of good (mem_of_order may (marked letter w c) o) h in
      let k = fewest_some (map f (filter good (orders may (marked letter w c)))) (f u) (Memᴰ.map f m) in
      (k.0, k.1, omega (arith, k.2, front_swaps p o))

  pub pair_at : {c : ℕ → ℕ} {n : ℕ} (q : ℕ) → IsPrefix may letter w c → pair_swaps may letter M w c q ≡ some n
      → (u : List ℕ) × Order may (marked letter w c) u × T (bit (run M letter M.start u) q) × (taking letter w (λ x. 0) (map letter u) ≡ n)
  pair_at {c} {n} q p e =
      let f : List ℕ → ℕ = λ u. swaps letter w (map letter (u ++ unmarked letter w c)) in
      let good : List ℕ → Bool = λ u. bit (run M letter M.start u) q in
      let l = filter good (orders may (marked letter w c)) in
      let m = Memᴰ.of_map f l (fewest_mem (map f l) n e) in
      let k = filter_at good (orders may (marked letter w c)) m.1 in
      let o = order_of_mem may (marked letter w c) k.0 in
      (m.0, o, k.1, sym (front_swaps p o) ∙ m.2)

  -- ---- one letter more

  -- the cost of the order u of a prefix, and one event a more
  taking_more : (d : ℕ → ℕ) (u : List ℕ) (a : ℕ) → count letter u ≡ d
      → taking letter w (λ x. 0) (map letter (u ++ (a ∷ []))) ≡ taking letter w (λ x. 0) (map letter u) + step_cost letter w d (letter a)
  taking_more d u a e =
      let f : ℕ → ℕ = λ y. count (λ a. a) (map letter u) y + 0 in
      let g : f ≡ d = fun_ext (λ y. omega (arith, count_letters letter u y, ap (λ h. h y) e)) in
      omega (
        arith,
        ap (taking letter w (λ x. 0)) (map-append letter u (a ∷ [])),
        taking_append letter w (λ x. 0) (map letter u) (letter a ∷ []),
        ap (λ h. step_cost letter w h (letter a)) g,
      )

  -- no prefix costs more than one with one letter less, and that letter
  pub pair_next : {d : ℕ → ℕ} {a m : ℕ} {r : List ℕ} (p q : ℕ) → IsPrefix may letter w d → Pick may (unmarked letter w d) a r
      → pair_swaps may letter M w d p ≡ some m → T (M.move p (letter a) q)
      → (n : ℕ) × (pair_swaps may letter M w (more d (letter a)) q ≡ some n) × (n ≤ m + step_cost letter w d (letter a))
  pair_next {d} {a} {m} p q h k e go =
      let f = pair_at p h e in
      let u = f.0 in
      let t = takes_trans may (takes_of_prefix may letter h f.1) (next k done) in
      let o = prefix_of_takes may letter distinct t in
      let c : count letter u ≡ d = sym (count_order may letter f.1) ∙ count_of_prefix may letter h in
      let g : count letter (u ++ (a ∷ [])) ≡ more d (letter a) = fun_ext (λ y. omega (arith, count_append may letter u (a ∷ []) y, ap (λ g. g y) c)) in
      let b = run_at M L letter M.start u p f.2 in
      let z = run_of M L letter M.start b.1 (leads_append M L letter b.2 (goes go stop)) in
      let y = pair_of {c = more d (letter a)} {u = u ++ (a ∷ [])} q (rw g at o.0) (rw g at o.2) z in
      (y.0, y.1, omega (arith, y.2, taking_more d u a c, f.3))

  -- and each costs as much as one of these, or nothing where it is empty
  pub pair_last : {c : ℕ → ℕ} {n : ℕ} (q : ℕ) → IsPrefix may letter w c → pair_swaps may letter M w c q ≡ some n
      → ((c ≡ (λ x. 0)) × (n ≡ 0) × T (bit M.start q))
      ⊎ ((d : ℕ → ℕ) × (a p m : ℕ) × IsPrefix may letter w d × (c ≡ more d (letter a)) × Pick may (unmarked letter w d) a (unmarked letter w c)
      × (pair_swaps may letter M w d p ≡ some m) × T (M.move p (letter a) q) × (n ≡ m + step_cost letter w d (letter a)))
  pair_last {c} {n} q p e = let f = pair_at q p e in go f.0 f.1 f.2 f.3
    where
      go : (u : List ℕ) → Order may (marked letter w c) u → T (bit (run M letter M.start u) q) → taking letter w (λ x. 0) (map letter u) ≡ n
          → ((c ≡ (λ x. 0)) × (n ≡ 0) × T (bit M.start q))
          ⊎ ((d : ℕ → ℕ) × (a p m : ℕ) × IsPrefix may letter w d × (c ≡ more d (letter a)) × Pick may (unmarked letter w d) a (unmarked letter w c)
          × (pair_swaps may letter M w d p ≡ some m) × T (M.move p (letter a) q) × (n ≡ m + step_cost letter w d (letter a)))
      go [] o h t = inl (sym (count_of_prefix may letter p) ∙ count_order may letter o, sym t, h)
      go (b ∷ u) o h t =
          let z = takes_last may (takes_of_prefix may letter p o) in
          let v = z.0 in
          let a = z.2 in
          let k = prefix_of_takes may letter distinct z.4 in
          let y = run_at M L letter M.start (b ∷ u) q h in
          let m = leads_split M L letter v (subst (λ l. PathOf M letter y.0 l q) z.3 y.2) in
          let x = pair_of {c = count letter v} {u = v} m.0 k.0 k.2 (run_of M L letter M.start y.1 m.1) in
          let g : c ≡ more (count letter v) (letter a) = fun_ext (λ y. omega (
            arith,
            count_append may letter v (a ∷ []) y,
            ap (λ g. g y) (sym (count_of_prefix may letter p) ∙ count_order may letter o),
            ap (λ g. count letter g y) z.3,
          )) in
          let s = one_step m.2 in
          let i : Pick may (unmarked letter w (count letter v)) a (unmarked letter w c) = rw k.1 z.5 in
          let j = pair_next m.0 q k.0 i x.1 s in
          let w' = taking_more (count letter v) v a refl in
          let same : j.0 ≡ n = fewest-one (subst (λ f. pair_swaps may letter M w f q ≡ some j.0) (sym g) j.1) in
          inr (
            count letter v,
            a,
            m.0,
            x.0,
            k.0,
            g,
            i,
            x.1,
            s,
            omega (arith, same, j.2, x.2, w', t, ap (λ l. taking letter w (λ x. 0) (map letter l)) z.3),
          )
        where
          fewest-one : {m : ℕ} → pair_swaps may letter M w c q ≡ some m → m ≡ n
          fewest-one h = some-injective _ _ (sym h ∙ e)

  -- the empty prefix costs nothing
  pub pair_none : (q : ℕ) → T (bit M.start q) → pair_swaps may letter M w (λ x. 0) q ≡ some 0
  pair_none q h =
      let t : Takes may w [] w = done in
      let k = prefix_of_takes may letter distinct t in
      let x = pair_of {c = λ x. 0} {u = []} q k.0 k.2 h in
      x.1 ∙ ap some (omega (arith, x.2))
