-- A relation that allows more, of any events and letters (so with terms or without): what is reachable stays reachable, a prefix stays a prefix, a letter
-- that can be added still can, and forward and backward sets lose no state. `reach_more`, `prefix_more`, `accepted_order_grows` and `prefix_count_grows`
-- of `theory` are the other half.
use mathlib.Core.Path.{◌≡◌}
use mathlib.Core.Bool.{Bool, true, false, not, ◌&&◌}
use mathlib.Core.List.{List, [], ◌∷◌, map}
use Prim.Native.Nat.{ℕ, zero, suc, ◌≤◌}
use native.Mathlib.Omega.{arith}
use lib.Dec.{T, ltb}
use lib.ListN.{length, length-append}
use Rattle.profile.specs.Lists.{Mem, all, below, filter, flat_map}
use Rattle.profile.specs.Traces.{bit, letters_below, orders}
use Rattle.profile.specs.Automata.{Automaton, run, run_back}
use Rattle.profile.specs.Prefixes.{addable?, additions, at, backward, by_total, closed?, count, forward, less, looks, marked, more, prefixes, unmarked, vectors}
use Rattle.profile.proofs.Lists.{all_at, all_of, both, filter_at, filter_nodup, filter_of, fst_of, nodup_length, range_nodup, snd_of}
use Rattle.profile.proofs.Sets.{union_at, union_of}
use Rattle.profile.proofs.Traces.{mem_of_order, order_of_mem, order_of_reach, reach_of_order}
use Rattle.theory.proofs.Comparison.{reach_more}
use Rattle.theory.proofs.Levels.{by_total_at, by_total_of}

-- lists one after the other: no fewer where no element is lost and no list is shorter
module _ {A B : Type 0} (p q : A → Bool) (f g : A → List B) where
  longer : (l : List A) → ((a : A) → T (p a) → T (q a) × (length (f a) ≤ length (g a))) → length (flat_map f (filter p l)) ≤ length (flat_map g (filter q l))
  longer [] h = omega arith
  longer (a ∷ l) h = go (p a) (q a) (h a) (longer l h)
    where
      go : (s t : Bool) → (T s → T t × (length (f a) ≤ length (g a))) → length (flat_map f (filter p l)) ≤ length (flat_map g (filter q l))
          → length (flat_map f (elim s [ true ↦ a ∷ filter p l | false ↦ filter p l ])) ≤ length (flat_map g (elim t [ true ↦ a ∷ filter q l | false ↦ filter q l ]))
      go false false k ih = ih
      go false true k ih = omega (arith, ih, length-append (g a) (flat_map g (filter q l)))
      go true false k ih = absurd (k tt).0
      go true true k ih = omega (arith, ih, (k tt).1, length-append (f a) (flat_map f (filter p l)), length-append (g a) (flat_map g (filter q l)))

module _ (may may' : ℕ → ℕ → Bool) (sub : (a b : ℕ) → T (may a b) → T (may' a b)) (letter : ℕ → ℕ) where
  -- what is marked behind an unmarked event may pass it still
  closed_more : (w : List ℕ) (c : ℕ → ℕ) → T (closed? may letter w c) → T (closed? may' letter w c)
  closed_more [] c t = tt
  closed_more (a ∷ w) c t = go (c (letter a)) (closed_more w) t
    where
      go : (n : ℕ) → ((d : ℕ → ℕ) → T (closed? may letter w d) → T (closed? may' letter w d))
          → T (elim n [ zero ↦ all (may a) (marked letter w c) && closed? may letter w c | suc m ↦ closed? may letter w (less c (letter a)) ])
          → T (elim n [ zero ↦ all (may' a) (marked letter w c) && closed? may' letter w c | suc m ↦ closed? may' letter w (less c (letter a)) ])
      go zero ih t = both (all (may' a) (marked letter w c)) (closed? may' letter w c)
          (all_of (may' a) (marked letter w c) (λ b m. sub a b (all_at (may a) (fst_of (all (may a) (marked letter w c)) (closed? may letter w c) t) m)))
          (ih c (snd_of (all (may a) (marked letter w c)) (closed? may letter w c) t))
      go (suc m) ih t = ih (less c (letter a)) t

  -- every prefix is one still, and so every record of the table has one with the same counts
  pub prefixes_more : (k : ℕ) (w c : List ℕ) → Mem c (prefixes may letter k w) → Mem c (prefixes may' letter k w)
  prefixes_more k w c m =
      let n = filter_at (λ c. closed? may letter w (at c)) (vectors (map (count letter w) (below k))) m in
      filter_of (λ c. closed? may' letter w (at c)) n.0 (closed_more w (at c) n.1)

  pub records_more : (k : ℕ) (w c : List ℕ) → T (letters_below letter k w) → Mem c (by_total may letter k w) → Mem c (by_total may' letter k w)
  records_more k w c h m = by_total_of may' letter k w c h (prefixes_more k w c (by_total_at may letter k w c m))

  -- a letter of which one can be added stays one
  addable_more : (w : List ℕ) (c : ℕ → ℕ) (x : ℕ) → T (addable? may letter w c x) → T (addable? may' letter w c x)
  addable_more w c x t = both (ltb (c x) (count letter w x)) (closed? may' letter w (more c x))
      (fst_of (ltb (c x) (count letter w x)) (closed? may letter w (more c x)) t)
      (closed_more w (more c x) (snd_of (ltb (c x) (count letter w x)) (closed? may letter w (more c x)) t))

  additions_more : (k : ℕ) (w c : List ℕ) → length (additions may letter k w c) ≤ length (additions may' letter k w c)
  additions_more k w c = nodup_length (additions may letter k w c) (additions may' letter k w c) (filter_nodup (addable? may letter w (at c)) (below k) (range_nodup k 0))
      (λ x m. let n = filter_at (addable? may letter w (at c)) (below k) m in filter_of (addable? may' letter w (at c)) n.0 (addable_more w (at c) x n.1))

  -- looks does not shrink
  pub looks_grow : (k : ℕ) (w : List ℕ) → looks may letter k w ≤ looks may' letter k w
  looks_grow k w = longer (λ c. closed? may letter w (at c)) (λ c. closed? may' letter w (at c)) (additions may letter k w) (additions may' letter k w)
      (vectors (map (count letter w) (below k))) (λ c t. (closed_more w (at c) t, additions_more k w c))

  module _ (M : Automaton) where
    -- every order of w is one still
    pub orders_more : (w : List ℕ) {v : List ℕ} → Mem v (orders may w) → Mem v (orders may' w)
    orders_more w m = mem_of_order may' w (order_of_reach may' (reach_more letter M may may' sub (reach_of_order may (order_of_mem may w m))))

    -- forward and backward of any counts lose no state
    pub forward_more : (w : List ℕ) (c : ℕ → ℕ) (q : ℕ) → T (bit (forward may letter M w c) q) → T (bit (forward may' letter M w c) q)
    forward_more w c q t =
        let n = union_at (run M letter M.start) (orders may (marked letter w c)) q t in
        union_of (run M letter M.start) q (orders_more (marked letter w c) n.1) n.2

    pub backward_more : (w : List ℕ) (c : ℕ → ℕ) (q : ℕ) → T (bit (backward may letter M w c) q) → T (bit (backward may' letter M w c) q)
    backward_more w c q t =
        let n = union_at (run_back M letter M.final) (orders may (unmarked letter w c)) q t in
        union_of (run_back M letter M.final) q (orders_more (unmarked letter w c) n.1) n.2
