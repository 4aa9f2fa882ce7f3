-- Two logs under one relation, and one log under two relations.
use mathlib.Core.Path.{◌≡◌, refl, sym, ◌∙◌, ap, ap₂, subst}
use mathlib.Core.Bool.{Bool}
use mathlib.Core.Logic.{◌≢◌}
use mathlib.Core.List.Memᴰ
use mathlib.Core.List.{List, ◌∷◌, map}
use mathlib.Core.Option.{Option, none, some, none-ne-some, some-injective}
use Prim.Native.Nat.{ℕ, suc, ◌≤◌}
use native.Mathlib.Omega.{arith}
use lib.Dec.{T, T_not, not_T, eqb}
use lib.ListN.{length}
use Rattle.profile.specs.Automata.{Automaton, accepted?}
use Rattle.profile.specs.Lists.{Mem, below, filter, flat_map}
use Rattle.profile.specs.Orders.{NoLater, accepted_order, earliest, least}
use Rattle.profile.specs.Prefixes.{IsPrefix, at, by_total, closed?, count, prefix_count, prefixes, total, vectors}
use Rattle.profile.specs.Traces.{Reachable, exchange, itself, letters_below, orders}
use Rattle.theory.proofs.Counting.{prefix_count_reach, prefixes_at, prefixes_nodup, prefixes_of}
use Rattle.theory.proofs.Earliest.{earliest_at, least_le, no_later_antisym}
use Rattle.profile.proofs.Lists.{filter_agree, filter_at, filter_of, nodup_length}
use Rattle.theory.proofs.Prefixes.{count_order, prefix_of_order, prefix_test}
use Rattle.profile.proofs.Sets.{t_eq}
use Rattle.profile.proofs.Traces.{Order, mem_of_order, order_of_mem, order_of_reach, order_trans, reach_of_order, takes_length}

-- the earliest of more lists is no later
earliest_more : (l r : List (List ℕ)) {u : List ℕ} → ((x : List ℕ) → Mem x l → Mem x r) → earliest l ≡ some u → (v : List ℕ) × (earliest r ≡ some v) × NoLater v u
earliest_more l r {u} f e = go r (f u (earliest_at l e).0)
  where
    go : (r : List (List ℕ)) → Mem u r → (v : List ℕ) × (earliest r ≡ some v) × NoLater v u
    go (x ∷ r) m = (least x r, refl, least_le x r m)
    go mathlib.Core.List.[] m = elim m [ ]

module _ (letter : ℕ → ℕ) (M : Automaton) where
  -- more orders to choose from: still accepted, by an order that is no later
  accepted_order_more : (may may' : ℕ → ℕ → Bool) (w v : List ℕ) {u : List ℕ} → ((x : List ℕ) → Order may v x → Order may' w x) → accepted_order may letter M v ≡ some u
      → (x : List ℕ) × (accepted_order may' letter M w ≡ some x) × NoLater x u
  accepted_order_more may may' w v f e =
      earliest_more (map (map letter) (filter (accepted? M letter) (orders may v))) (map (map letter) (filter (accepted? M letter) (orders may' w)))
      (λ x m.
      let n = Memᴰ.of_map (map letter) (filter (accepted? M letter) (orders may v)) m in
      let k = filter_at (accepted? M letter) (orders may v) n.1 in
      subst (λ z. Mem z (map (map letter) (filter (accepted? M letter) (orders may' w)))) n.2
      (Memᴰ.map (map letter) (filter_of (accepted? M letter) (mem_of_order may' w (f n.0 (order_of_mem may v k.0))) k.1))) e

  -- if v is reachable from w and has an accepted order, w has one that is no later
  pub accepted_order_reach : (may : ℕ → ℕ → Bool) (w v : List ℕ) {u : List ℕ} → Reachable may w v → accepted_order may letter M v ≡ some u
      → (x : List ℕ) × (accepted_order may letter M w ≡ some x) × NoLater x u
  accepted_order_reach may w v r e = accepted_order_more may may w v (λ x o. order_trans may (order_of_reach may r) o) e

  -- ---- a relation that allows more

  module _ (may may' : ℕ → ℕ → Bool) (sub : (a b : ℕ) → T (may a b) → T (may' a b)) where
    pub reach_more : {w v : List ℕ} → Reachable may w v → Reachable may' w v
    reach_more itself = itself
    reach_more (exchange u a b v ok r) = exchange u a b v (sub a b ok) (reach_more r)

    pub accepted_order_grows : (w : List ℕ) {u : List ℕ} → accepted_order may letter M w ≡ some u → (x : List ℕ) × (accepted_order may' letter M w ≡ some x) × NoLater x u
    accepted_order_grows w e = accepted_order_more may may' w w (λ x o. order_of_reach may' (reach_more (reach_of_order may o))) e

    pub prefix_more : {w : List ℕ} {c : ℕ → ℕ} → IsPrefix may letter w c → IsPrefix may' letter w c
    prefix_more p = record { fits = p.fits; closed = λ u v x a b e k bad. p.closed u v x a b e k (not_T (may a b) (λ ok. T_not (may' a b) bad (sub a b ok))) }

    pub prefix_count_grows : (k : ℕ) (w : List ℕ) → T (letters_below letter k w) → prefix_count may letter k w ≤ prefix_count may' letter k w
    prefix_count_grows k w h = nodup_length (prefixes may letter k w) (prefixes may' letter k w) (prefixes_nodup may letter k w)
        (λ c m. let n = prefixes_at may letter k w c h m in prefixes_of may' letter k w c n.0 (prefix_more n.1))

  -- ---- logs reachable from each other

  module _ (may : ℕ → ℕ → Bool) {w v : List ℕ} (p : Reachable may w v) (q : Reachable may v w) where
    pub accepted_order_same : accepted_order may letter M w ≡ accepted_order may letter M v
    accepted_order_same = go (accepted_order may letter M w) refl (accepted_order may letter M v) refl
      where
        go : (a : Option (List ℕ)) → accepted_order may letter M w ≡ a → (b : Option (List ℕ)) → accepted_order may letter M v ≡ b → accepted_order may letter M w ≡ accepted_order may letter M v
        go none d none e = d ∙ sym e
        go none d (some y) e = let n = accepted_order_reach may w v p e in absurd (none-ne-some _ (sym d ∙ n.1))
        go (some x) d none e = let n = accepted_order_reach may v w q d in absurd (none-ne-some _ (sym e ∙ n.1))
        go (some x) d (some y) e =
            let n = accepted_order_reach may w v p e in
            let m = accepted_order_reach may v w q d in
            let a : NoLater x y = subst (λ z. NoLater z y) (some-injective _ _ (sym n.1 ∙ d)) n.2 in
            let b : NoLater y x = subst (λ z. NoLater z x) (some-injective _ _ (sym m.1 ∙ e)) m.2 in
            d ∙ ap some (no_later_antisym a b) ∙ sym e

    pub prefix_count_same : ((a b : ℕ) → T (may a b) → letter a ≢ letter b) → (k : ℕ) → T (letters_below letter k w) → T (letters_below letter k v)
        → prefix_count may letter k w ≡ prefix_count may letter k v
    prefix_count_same distinct k h g = omega (arith, prefix_count_reach may letter k distinct w v g p, prefix_count_reach may letter k distinct v w h q)

    module _ (distinct : (a b : ℕ) → T (may a b) → letter a ≢ letter b) (k : ℕ) (h : T (letters_below letter k w)) (g : T (letters_below letter k v)) where
      -- each prefix of one is a prefix of the other
      pub over : {c : ℕ → ℕ} → IsPrefix may letter w c → IsPrefix may letter v c
      over n = (prefix_of_order may letter distinct (order_of_reach may q) n).0

      pub back_over : {c : ℕ → ℕ} → IsPrefix may letter v c → IsPrefix may letter w c
      back_over n = (prefix_of_order may letter distinct (order_of_reach may p) n).0

      -- the same prefixes, in the same order
      pub prefixes_same : prefixes may letter k w ≡ prefixes may letter k v
      prefixes_same = filter_agree (λ c. closed? may letter w (at c)) (λ c. closed? may letter v (at c)) (vectors (map (count letter w) (below k)))
          (λ c m. t_eq (closed? may letter w (at c)) (closed? may letter v (at c))
          (λ t. ((prefix_test may letter v (at c)).0 (over (prefixes_at may letter k w c h (filter_of (λ d. closed? may letter w (at d)) m t)).1)).1)
          (λ t. ((prefix_test may letter w (at c)).0 (back_over (prefixes_at may letter k v c g
          (filter_of (λ d. closed? may letter v (at d)) (subst (λ f. Mem c (vectors (map f (below k)))) e m) t)).1)).1))
          ∙ ap (λ f. filter (λ c. closed? may letter v (at c)) (vectors (map f (below k)))) e
        where
          e : count letter w ≡ count letter v
          e = count_order may letter (order_of_reach may p)

      -- so also the same order by total
      pub by_total_same : by_total may letter k w ≡ by_total may letter k v
      by_total_same = ap₂ (λ l n. flat_map (λ m. filter (λ c. eqb (total c) m) l) (below (suc n))) prefixes_same len
        where
          len : length w ≡ length v
          len = omega (arith, takes_length may (order_of_reach may p))
