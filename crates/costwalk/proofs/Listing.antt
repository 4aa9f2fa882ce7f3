-- The cells of a table of costs, row by row, are the swaps of all pairs of a prefix and a state.
use mathlib.Core.Path.{◌≡◌, refl, sym, ◌∙◌, ap, ap₂}
use mathlib.Core.Bool.{Bool}
use mathlib.Core.Logic.{⊎_elim}
use mathlib.Core.List.Memᴰ
use mathlib.Core.List.{List, [], ◌∷◌, ◌++◌, map}
use mathlib.Core.Option.{Option, none, some}
use Prim.Native.Nat.{ℕ, suc, ◌+◌, ◌*◌, ◌≤◌, ◌<◌}
use native.Mathlib.Nat.{suc-mul}
use native.Mathlib.Omega.{arith}
use lib.Dec.{T, lt→ltb, ltb, ltb→lt, not_T}
use lib.ListN.{length, get_or, take, drop, length-drop}
use lib.Seq.{ext_get_or, get_or-drop, get_or-take, length-take-le, take-add}
use Rattle.profile.specs.Automata.{Profile, automaton, run}
use Rattle.profile.specs.Lists.{Mem, below, filter, flat_map}
use Rattle.profile.specs.Prefixes.{at, by_total, forward, marked}
use Rattle.profile.specs.Traces.{bit}
use Rattle.profile.proofs.Lists.{filter_no, filter_yes, test}
use Rattle.profile.proofs.Sets.{union_of}
use Rattle.profile.proofs.Traces.{mem_of_order}
use Rattle.theory.proofs.Counting.{at_map, length_range}
use Rattle.theory.proofs.Profiles.{lawful}
use Rattle.swaps.specs.Closest.{listed, pair_swaps, pairs}
use Rattle.swaps.proofs.Bounds.{pair_small}
use Rattle.swaps.proofs.Pairs.{pair_at}
use Rattle.costcells.specs.Cells.{cell, cost_in, none_cost, pair_costs}
use Rattle.costcells.proofs.Cells.{inside}
use Rattle.costtable.specs.Costs.{Lent}
use Rattle.costwalk.specs.Walk.{RowsThere}
use Rattle.successors.proofs.More.{prefix_of}
use Rattle.costwalk.proofs.Rows.{few_events, recorded}

-- ---- rows of s cells, one behind the other

module _ (s : ℕ) (g : List ℕ → ℕ → ℕ) where
  one_row : (costs : List ℕ) (c : List ℕ) → s ≤ length costs → ((q : ℕ) → q < s → cost_in costs q ≡ g c q) → take s costs ≡ map (g c) (below s)
  one_row costs c h e =
      let l = length-take-le s costs h in
      ext_get_or 0 (take s costs) (map (g c) (below s)) (l ∙ sym (length_range (g c) s 0)) (λ q k.
      let lt : q < s = omega (arith, k, l) in
      let z : 0 + q ≡ q = omega arith in
      get_or-take s costs q 0 lt ∙ inside costs q 0 none_cost (omega (arith, lt, h)) ∙ e q lt ∙ sym (at_map (g c) s 0 q lt ∙ ap (g c) z))

  all_rows : (l : List (List ℕ)) (costs : List ℕ) → length l * s ≤ length costs
      → ((i q : ℕ) → i < length l → q < s → cost_in costs (i * s + q) ≡ g (get_or l i []) q) → take (length l * s) costs ≡ flat_map (λ c. map (g c) (below s)) l
  all_rows [] costs h e = let z : 0 * s ≡ 0 = omega arith in ap (λ n. take n costs) z
  all_rows (c ∷ l) costs h e =
      let n = length l in
      let m : suc n * s ≡ s + n * s = omega (arith, suc-mul n s) in
      let first = one_row costs c (omega (arith, h, m)) (λ q k. let z : 0 * s + q ≡ q = omega arith in ap (cost_in costs) (sym z) ∙ e 0 q (omega arith) k) in
      let others = all_rows l (drop s costs) (omega (arith, h, m, length-drop s costs)) (λ i q k j.
      let z : s + (i * s + q) ≡ suc i * s + q = omega (arith, suc-mul i s) in
      get_or-drop s costs (i * s + q) none_cost ∙ ap (cost_in costs) z ∙ e (suc i) q (omega (arith, k)) j) in
      ap (λ i. take i costs) m ∙ take-add s (n * s) costs ∙ ap₂ ◌++◌ first others

-- ---- the pairs

module _ (p : ℕ → Bool) where
  filter_append : (u v : List ℕ) → filter p (u ++ v) ≡ filter p u ++ filter p v
  filter_append [] v = refl
  filter_append (a ∷ u) v = ⊎_elim
      (λ t. filter_yes p a (u ++ v) t ∙ ap (◌∷◌ a) (filter_append u v) ∙ sym (ap (λ z. z ++ filter p v) (filter_yes p a u t)))
      (λ t. filter_no p a (u ++ v) t ∙ filter_append u v ∙ sym (ap (λ z. z ++ filter p v) (filter_no p a u t))) (test (p a))

  filter_flat : (f g : List ℕ → List ℕ) (l : List (List ℕ)) → ((c : List ℕ) → Mem c l → filter p (f c) ≡ g c) → filter p (flat_map f l) ≡ flat_map g l
  filter_flat f g [] h = refl
  filter_flat f g (c ∷ l) h = filter_append (f c) (flat_map f l) ∙ ap₂ ◌++◌ (h c (Memᴰ.head refl)) (filter_flat f g l (λ d m. h d (Memᴰ.tail m)))

-- the costs of the states in ql, none left out, are those of the states that pass, which all have one
row_pairs : (o : ℕ → Option ℕ) (f : ℕ → Bool) → ((q n : ℕ) → o q ≡ some n → (n < none_cost) × T (f q)) → (l : List ℕ)
    → pair_costs (map (λ q. cell (o q)) l) ≡ flat_map (λ q. listed (o q)) (filter f l)
row_pairs o f h [] = refl
row_pairs o f h (q ∷ l) = go (o q) refl (row_pairs o f h l)
  where
    go : (z : Option ℕ) → o q ≡ z → pair_costs (map (λ q. cell (o q)) l) ≡ flat_map (λ q. listed (o q)) (filter f l)
        → pair_costs (cell (o q) ∷ map (λ q. cell (o q)) l) ≡ flat_map (λ q. listed (o q)) (filter f (q ∷ l))
    go none e ih = filter_no (λ n. ltb n none_cost) (cell (o q)) (map (λ q. cell (o q)) l) (not_T (ltb (cell (o q)) none_cost) (λ t. omega (arith, ltb→lt (cell (o q)) none_cost t, ap cell e)))
        ∙ ih ∙ ⊎_elim
        (λ t. sym (ap (flat_map (λ q. listed (o q))) (filter_yes f q l t) ∙ ap (λ z. listed z ++ flat_map (λ q. listed (o q)) (filter f l)) e))
        (λ t. sym (ap (flat_map (λ q. listed (o q))) (filter_no f q l t))) (test (f q))
    go (some n) e ih =
        let k = h q n e in
        filter_yes (λ n. ltb n none_cost) (cell (o q)) (map (λ q. cell (o q)) l) (lt→ltb (cell (o q)) none_cost (omega (arith, k.0, ap cell e)))
        ∙ ap₂ ◌∷◌ (ap cell e) ih
        ∙ sym (ap (flat_map (λ q. listed (o q))) (filter_yes f q l k.1) ∙ ap (λ z. listed z ++ flat_map (λ q. listed (o q)) (filter f l)) e)

module _ {p : Profile} {may : ℕ → ℕ → Bool} {letter : ℕ → ℕ} {w t log starts places costs : List ℕ} (g : Lent p may letter w t log starts places)
    (r : RowsThere p may letter w costs) where
  pub pairs_listed : pair_costs (take (length (by_total may letter p.k w) * p.s) costs) ≡ pairs may letter (automaton p) p.k p.s w
  pairs_listed =
      let M = automaton p in
      let l = by_total may letter p.k w in
      let o : List ℕ → ℕ → Option ℕ = λ c q. pair_swaps may letter M w (at c) q in
      ap pair_costs (all_rows p.s (λ c q. cell (o c q)) l costs r.room r.cells)
      ∙ filter_flat (λ n. ltb n none_cost) (λ c. map (λ q. cell (o c q)) (below p.s))
      (λ c. flat_map (λ q. listed (o c q)) (filter (bit (forward may letter M w (at c))) (below p.s))) l
      (λ c m. row_pairs (o c) (bit (forward may letter M w (at c))) (λ q n e.
      let i = (prefix_of (recorded g) c m).1 in
      let u = pair_at may letter M (lawful p) w g.apart q i e in (
        omega (arith, pair_small may letter M (lawful p) w g.apart (few_events g) (at c) q n i e),
        union_of (run M letter M.start) q (mem_of_order may (marked letter w (at c)) u.1) u.2,
      )) (below p.s))
