-- The cost of what is left, from the pairs with one letter more; the fewest swaps of any accepted order, by either pass.
use mathlib.Core.Path.{◌≡◌, refl, sym, ◌∙◌, ap, subst}
use mathlib.Core.Bool.{Bool}
use mathlib.Core.Logic.{◌⊎◌, inl, inr, ◌≢◌}
use mathlib.Core.List.Memᴰ
use mathlib.Core.List.{List, [], ◌∷◌, map}
use mathlib.Core.Option.{Option, some, some-injective}
use Prim.Native.Nat.{ℕ, ◌+◌, ◌≤◌}
use native.Mathlib.Omega.{arith}
use lib.Dec.{T}
use Rattle.profile.specs.Automata.{Accepted, Automaton, PathOf, goes, run, run_back, stop}
use Rattle.profile.specs.Lists.{Mem, filter}
use Rattle.profile.specs.Prefixes.{IsPrefix, count, marked, more, unmarked}
use Rattle.profile.specs.Traces.{bit, orders}
use Rattle.profile.proofs.Lists.{filter_at, filter_of}
use Rattle.profile.proofs.Traces.{Order, Pick, done, mem_of_order, next, order_of_mem, order_of_reach, reach_of_order, takes_refl}
use Rattle.theory.proofs.Automata.{Lawful, back_at_leads, back_of_leads, run_at, run_of}
use Rattle.theory.proofs.Prefixes.{count_order, front_all, front_marked, more_of_pick, prefix_of_takes}
use Rattle.swaps.specs.Swaps.{step_cost, swaps, taking}
use Rattle.swaps.specs.Closest.{fewest, fewest_swaps, pair_swaps, rest_swaps}
use Rattle.swaps.proofs.Costs.{swaps_taking}
use Rattle.swaps.proofs.Fewest.{fewest_mem, fewest_some}
use Rattle.swaps.proofs.Floors.{fewest_swaps_at, fewest_swaps_le, fewest_swaps_some}
use Rattle.swaps.proofs.Pairs.{count_letters, pair_at, pair_of}

module _ (may : ℕ → ℕ → Bool) (letter : ℕ → ℕ) (M : Automaton) (L : Lawful M) (w : List ℕ) (distinct : (a b : ℕ) → T (may a b) → letter a ≢ letter b) where
  -- ---- orders of what is left

  pub rest_of : (c : ℕ → ℕ) {v : List ℕ} {q r : ℕ} → Order may (unmarked letter w c) v → PathOf M letter q v r → T (bit M.final r)
      → (n : ℕ) × (rest_swaps may letter M w c q ≡ some n) × (n ≤ taking letter w c (map letter v))
  rest_of c {v} {q} o l h =
      let f : List ℕ → ℕ = λ v. taking letter w c (map letter v) in
      let good : List ℕ → Bool = λ v. bit (run_back M letter M.final v) q in
      let m = filter_of good (mem_of_order may (unmarked letter w c) o) (back_of_leads M L letter M.final l h) in
      fewest_some (map f (filter good (orders may (unmarked letter w c)))) (f v) (Memᴰ.map f m)

  pub rest_at : (c : ℕ → ℕ) {n : ℕ} (q : ℕ) → rest_swaps may letter M w c q ≡ some n
      → (v : List ℕ) × (r : ℕ) × Order may (unmarked letter w c) v × PathOf M letter q v r × T (bit M.final r) × (taking letter w c (map letter v) ≡ n)
  rest_at c {n} q e =
      let f : List ℕ → ℕ = λ v. taking letter w c (map letter v) in
      let good : List ℕ → Bool = λ v. bit (run_back M letter M.final v) q in
      let l = filter good (orders may (unmarked letter w c)) in
      let m = Memᴰ.of_map f l (fewest_mem (map f l) n e) in
      let k = filter_at good (orders may (unmarked letter w c)) m.1 in
      let b = back_at_leads M L letter M.final m.0 q k.1 in
      (m.0, b.0, order_of_mem may (unmarked letter w c) k.0, b.1, b.2, m.2)

  -- ---- one letter more

  pub rest_next : {c : ℕ → ℕ} {a m : ℕ} {r : List ℕ} (p q : ℕ) → IsPrefix may letter w c → Pick may (unmarked letter w c) a r
      → rest_swaps may letter M w (more c (letter a)) p ≡ some m → T (M.move q (letter a) p)
      → (n : ℕ) × (rest_swaps may letter M w c q ≡ some n) × (n ≤ step_cost letter w c (letter a) + m)
  rest_next {c} {a} {m} p q h k e go =
      let f = rest_at (more c (letter a)) p e in
      let i = (more_of_pick may letter distinct h k).1 in
      let y = rest_of c (next k (subst (λ l. Order may l f.0) i f.2)) (goes go f.3) f.4 in
      (y.0, y.1, omega (arith, y.2, f.5))

  pub rest_first : {c : ℕ → ℕ} {n : ℕ} (q : ℕ) → IsPrefix may letter w c → rest_swaps may letter M w c q ≡ some n
      → ((unmarked letter w c ≡ []) × (n ≡ 0) × T (bit M.final q))
      ⊎ ((a p m : ℕ) × IsPrefix may letter w (more c (letter a)) × Pick may (unmarked letter w c) a (unmarked letter w (more c (letter a)))
      × (rest_swaps may letter M w (more c (letter a)) p ≡ some m) × T (M.move q (letter a) p) × (n ≡ step_cost letter w c (letter a) + m))
  rest_first {c} {n} q h e = let f = rest_at c q e in go (unmarked letter w c) refl f.1 f.0 f.2 f.3 f.4 f.5
    where
      go : (r : List ℕ) → unmarked letter w c ≡ r → (g : ℕ) (v : List ℕ) → Order may r v → PathOf M letter q v g → T (bit M.final g) → taking letter w c (map letter v) ≡ n
          → ((unmarked letter w c ≡ []) × (n ≡ 0) × T (bit M.final q))
          ⊎ ((a p m : ℕ) × IsPrefix may letter w (more c (letter a)) × Pick may (unmarked letter w c) a (unmarked letter w (more c (letter a)))
          × (rest_swaps may letter M w (more c (letter a)) p ≡ some m) × T (M.move q (letter a) p) × (n ≡ step_cost letter w c (letter a) + m))
      go r i g [] done stop z t = inl (i, sym t, z)
      go r i g (a ∷ v) (next {r = r'} k o) (goes {r = p} move l) z t =
          let k' : Pick may (unmarked letter w c) a r' = rw i k in
          let m = more_of_pick may letter distinct h k' in
          let y = rest_of (more c (letter a)) (rw m.1 o) l z in
          let j = rest_next p q h k' y.1 move in
          let same : j.0 ≡ n = some-injective _ _ (sym j.1 ∙ e) in
          inr (a, p, y.0, m.0, rw m.1 k', y.1, move, omega (arith, same, j.2, y.2, t))

  -- where nothing is left it costs nothing
  pub rest_all : (c : ℕ → ℕ) (q : ℕ) → unmarked letter w c ≡ [] → T (bit M.final q) → rest_swaps may letter M w c q ≡ some 0
  rest_all c q e h =
      let o : Order may (unmarked letter w c) [] = rw e done in
      let y = rest_of c o stop h in
      y.1 ∙ ap some (omega (arith, y.2))

  -- ---- the fewest swaps of any accepted order

  pub order_swaps : {v : List ℕ} → Order may w v → swaps letter w (map letter v) ≡ taking letter w (λ x. 0) (map letter v)
  order_swaps {v} o = swaps_taking may letter w (map letter v) (λ x. omega (arith, count_letters letter v x, ap (λ g. g x) (count_order may letter o)))

  whole : (marked letter w (count letter w) ≡ w) × (unmarked letter w (count letter w) ≡ [])
  whole = front_marked may letter distinct (front_all may w)

  pub whole_prefix : IsPrefix may letter w (count letter w)
  whole_prefix = (prefix_of_takes may letter distinct (takes_refl may w)).0

  -- it is the least cost of a final state where all events are taken
  pub whole_of : {m : ℕ} (q : ℕ) → T (bit M.final q) → pair_swaps may letter M w (count letter w) q ≡ some m
      → (n : ℕ) × (fewest_swaps may letter M w ≡ some n) × (n ≤ m)
  whole_of {m} q h e =
      let f = pair_at may letter M L w distinct q whole_prefix e in
      let o : Order may w f.0 = subst (λ l. Order may l f.0) whole.0 f.1 in
      let b = run_at M L letter M.start f.0 q f.2 in
      let r = reach_of_order may o in
      let a : Accepted M letter f.0 = record { from = b.0; to = q; starts = b.1; leads = b.2; ends = h } in
      let n = fewest_swaps_some may letter M L w r a in
      (n.0, n.1, omega (arith, fewest_swaps_le may letter M L w n.1 r a, order_swaps o, f.3))

  pub whole_at : {n : ℕ} → fewest_swaps may letter M w ≡ some n → (q : ℕ) × T (bit M.final q) × (pair_swaps may letter M w (count letter w) q ≡ some n)
  whole_at {n} e =
      let u = fewest_swaps_at may letter M L w e in
      let o = order_of_reach may u.1 in
      let a = u.2 in
      let z = pair_of may letter M L w distinct {c = count letter w} {u = u.0} a.to whole_prefix (subst (λ l. Order may l u.0) (sym whole.0) o)
      (run_of M L letter M.start a.starts a.leads) in
      let m = whole_of a.to a.ends z.1 in
      let same : m.0 ≡ n = some-injective _ _ (sym m.1 ∙ e) in
      (a.to, a.ends, z.1 ∙ ap some (omega (arith, same, m.2, z.2, order_swaps o, u.3)))
