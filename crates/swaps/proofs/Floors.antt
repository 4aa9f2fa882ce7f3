-- What Paper 10 asks, over the definitions: the floor, the order where the budget covers all pairs, and the judge's order elsewhere.
use mathlib.Core.Path.{◌≡◌, refl, sym, ◌∙◌, ap, subst}
use mathlib.Core.Bool.{Bool, true, false, not, ◌&&◌}
use mathlib.Core.Logic.{◌↔◌}
use mathlib.Core.List.Memᴰ
use mathlib.Core.List.{List, [], ◌∷◌, map}
use mathlib.Core.Option.{Option, none, some, some-ne-none, none-ne-some, some-injective}
use Prim.Native.Nat.{ℕ, ◌≤◌}
use native.Mathlib.Omega.{arith}
use lib.Dec.{T, eqb, eqb→eq, eqb_refl, leb, leb→le}
use lib.ListN.{length}
use Rattle.profile.specs.Automata.{Accepted, Automaton, accepted?}
use Rattle.profile.specs.Lists.{Mem, filter}
use Rattle.profile.specs.Orders.{NoLater, accepted_order, earliest}
use Rattle.profile.specs.Traces.{Reachable, orders}
use Rattle.profile.proofs.Lists.{both, filter_at, filter_of, fst_of, is_false, is_true, snd_of}
use Rattle.profile.proofs.Traces.{mem_of_order, order_of_mem, order_of_reach, reach_of_order}
use Rattle.theory.proofs.Automata.{Lawful}
use Rattle.theory.proofs.Earliest.{earliest_at}
use Rattle.theory.proofs.Judgement.{accepted_at, accepted_of, accepted_order_at, accepted_order_not, Earliest}
use Rattle.swaps.specs.Swaps.{swaps}
use Rattle.swaps.specs.Closest.{closest_order, covers, fewest, fewest_swaps, floor, next_pair, order_with, pairs, smaller}
use Rattle.swaps.proofs.Fewest.{fewest_le, fewest_mem, fewest_some, ranked_none, smaller_le}

-- v is the letters of an accepted order of w with n swaps; of these orders none is earlier
pub record EarliestWith (may : ℕ → ℕ → Bool) (letter : ℕ → ℕ) (M : Automaton) (w : List ℕ) (n : ℕ) (v : List ℕ) : Type 0 where
  pub order : List ℕ
  pub letters : map letter order ≡ v
  pub reached : Reachable may w order
  pub accepted : Accepted M letter order
  pub with_swaps : swaps letter w v ≡ n
  pub least : (u : List ℕ) → Reachable may w u → Accepted M letter u → swaps letter w (map letter u) ≡ n → NoLater v (map letter u)

module _ (may : ℕ → ℕ → Bool) (letter : ℕ → ℕ) (M : Automaton) (L : Lawful M) (w : List ℕ) where
  abbrev swaps_of : List ℕ → ℕ
  swaps_of u = swaps letter w (map letter u)

  abbrev all_accepted : List (List ℕ)
  all_accepted = filter (accepted? M letter) (orders may w)

  listed_of : {u : List ℕ} → Reachable may w u → Accepted M letter u → Mem u all_accepted
  listed_of r a = filter_of (accepted? M letter) (mem_of_order may w (order_of_reach may r)) (accepted_of M L letter a)

  listed_at : {u : List ℕ} → Mem u all_accepted → Reachable may w u × Accepted M letter u
  listed_at {u} m =
      let k = filter_at (accepted? M letter) (orders may w) m in (reach_of_order may (order_of_mem may w k.0), accepted_at M L letter u k.1)

  -- ---- the fewest swaps of any accepted order

  pub fewest_swaps_at : {n : ℕ} → fewest_swaps may letter M w ≡ some n → (u : List ℕ) × Reachable may w u × Accepted M letter u × (swaps_of u ≡ n)
  fewest_swaps_at {n} e =
      let m = Memᴰ.of_map swaps_of all_accepted (fewest_mem (map swaps_of all_accepted) n e) in
      let k = listed_at m.1 in
      (m.0, k.0, k.1, m.2)

  pub fewest_swaps_le : {n : ℕ} {u : List ℕ} → fewest_swaps may letter M w ≡ some n → Reachable may w u → Accepted M letter u → n ≤ swaps_of u
  fewest_swaps_le {n} {u} e r a = fewest_le (map swaps_of all_accepted) n (swaps_of u) e (Memᴰ.map swaps_of (listed_of r a))

  pub fewest_swaps_some : {u : List ℕ} → Reachable may w u → Accepted M letter u → (n : ℕ) × (fewest_swaps may letter M w ≡ some n)
  fewest_swaps_some {u} r a =
      let k = fewest_some (map swaps_of all_accepted) (swaps_of u) (Memᴰ.map swaps_of (listed_of r a)) in (k.0, k.1)

  -- ---- the earliest accepted order of n swaps

  with_of : (n : ℕ) {u : List ℕ} → Reachable may w u → Accepted M letter u → swaps_of u ≡ n
      → Mem (map letter u) (map (map letter) (filter (λ u. accepted? M letter u && eqb (swaps letter w (map letter u)) n) (orders may w)))
  with_of n {u} r a e =
      Memᴰ.map (map letter) (filter_of (λ u. accepted? M letter u && eqb (swaps letter w (map letter u)) n) (mem_of_order may w (order_of_reach may r))
      (both (accepted? M letter u) (eqb (swaps_of u) n) (accepted_of M L letter a) (subst (λ z. T (eqb (swaps_of u) z)) e (eqb_refl (swaps_of u)))))

  pub order_with_at : {n : ℕ} {v : List ℕ} → order_with may letter M w n ≡ some v → EarliestWith may letter M w n v
  order_with_at {n} {v} e =
      let good : List ℕ → Bool = λ u. accepted? M letter u && eqb (swaps letter w (map letter u)) n in
      let k = earliest_at (map (map letter) (filter good (orders may w))) e in
      let m = Memᴰ.of_map (map letter) (filter good (orders may w)) k.0 in
      let f = filter_at good (orders may w) m.1 in
      let u = m.0 in
      record {
        order = u;
        letters = m.2;
        reached = reach_of_order may (order_of_mem may w f.0);
        accepted = accepted_at M L letter u (fst_of (accepted? M letter u) (eqb (swaps_of u) n) f.1);
        with_swaps = sym (ap (swaps letter w) m.2) ∙ eqb→eq (swaps_of u) n (snd_of (accepted? M letter u) (eqb (swaps_of u) n) f.1);
        least = λ x r a s. k.1 (map letter x) (with_of n r a s);
      }

  pub order_with_some : {n : ℕ} {u : List ℕ} → Reachable may w u → Accepted M letter u → swaps_of u ≡ n → (v : List ℕ) × (order_with may letter M w n ≡ some v)
  order_with_some {n} {u} r a e = go (map (map letter) (filter (λ u. accepted? M letter u && eqb (swaps letter w (map letter u)) n) (orders may w))) (with_of n r a e)
    where
      go : (l : List (List ℕ)) → Mem (map letter u) l → (v : List ℕ) × (earliest l ≡ some v)
      go [] m = absurd (Memᴰ.not-nil m)
      go (x ∷ l) m = (_, refl)

  -- ---- with a budget of B pairs; w has letters below k, M has states below s

  module _ (k s B : ℕ) where
    pub floor_is : {n : ℕ} → fewest_swaps may letter M w ≡ some n → floor may letter M k s w B ≡ some (smaller n (next_pair may letter M k s w B))
    floor_is e = rw (e, floor)

    pub covered_order : {n : ℕ} → T (covers may letter M k s w B) → fewest_swaps may letter M w ≡ some n → closest_order may letter M k s w B ≡ order_with may letter M w n
    covered_order h e = rw (is_true (covers may letter M k s w B) h, e, closest_order)

    -- "otherwise it is the judge's"
    pub not_covered : T (not (covers may letter M k s w B)) → closest_order may letter M k s w B ≡ accepted_order may letter M w
    not_covered h = rw (is_false (covers may letter M k s w B) h, closest_order)

    -- there is a floor exactly where there is an accepted order, and it is no more than the fewest swaps
    floor_le : {n f : ℕ} → fewest_swaps may letter M w ≡ some n → floor may letter M k s w B ≡ some f → f ≤ n
    floor_le {n} e q =
        let h = some-injective _ _ (sym (floor_is e) ∙ q) in omega (arith, h, smaller_le n (next_pair may letter M k s w B))

    -- "No accepted order has fewer than f swaps"
    pub floor_below : {f : ℕ} {u : List ℕ} → floor may letter M k s w B ≡ some f → Reachable may w u → Accepted M letter u → f ≤ swaps_of u
    floor_below {f} {u} e r a = let n = fewest_swaps_some r a in omega (arith, floor_le n.1 e, fewest_swaps_le n.1 r a)

    -- "If B covers all pairs, the order has c = f and is the earliest such in letter order"
    pub covered : {v : List ℕ} → T (covers may letter M k s w B) → closest_order may letter M k s w B ≡ some v
        → (floor may letter M k s w B ≡ some (swaps letter w v)) × EarliestWith may letter M w (swaps letter w v) v
    covered {v} h e = go (fewest_swaps may letter M w) refl
      where
        nothing : next_pair may letter M k s w B ≡ none
        nothing = ranked_none B (pairs may letter M k s w) (leb→le (length (pairs may letter M k s w)) B h)

        go : (o : Option ℕ) → fewest_swaps may letter M w ≡ o
            → (floor may letter M k s w B ≡ some (swaps letter w v)) × EarliestWith may letter M w (swaps letter w v) v
        go none q = absurd (none-ne-some v (sym (rw (is_true (covers may letter M k s w B) h, q, closest_order)) ∙ e))
        go (some n) q =
            let z = order_with_at (sym (covered_order h q) ∙ e) in
            let c : swaps letter w v ≡ n = z.with_swaps in
            (floor_is q ∙ ap some (ap (smaller n) nothing ∙ sym c), subst (λ m. EarliestWith may letter M w m v) (sym c) z)

    -- the order is always reachable and accepted
    pub closest_at : {v : List ℕ} → closest_order may letter M k s w B ≡ some v
        → (u : List ℕ) × (map letter u ≡ v) × Reachable may w u × Accepted M letter u
    closest_at {v} e = go (covers may letter M k s w B) refl
      where
        go : (b : Bool) → covers may letter M k s w B ≡ b → (u : List ℕ) × (map letter u ≡ v) × Reachable may w u × Accepted M letter u
        go true q = let z = (covered (rw q tt) e).1 in (z.order, z.letters, z.reached, z.accepted)
        go false q =
            let z = accepted_order_at may letter M L (sym (not_covered (rw q tt)) ∙ e) in (z.order, z.letters, z.reached, z.accepted)

    -- f, the fewest swaps, and c, the swaps of the order given, in this order
    pub floor_fewest_told : {n f : ℕ} {v : List ℕ} → fewest_swaps may letter M w ≡ some n → floor may letter M k s w B ≡ some f
        → closest_order may letter M k s w B ≡ some v → (f ≤ n) × (n ≤ swaps letter w v)
    floor_fewest_told {n} {v = v} e q o =
        let z = closest_at o in (floor_le e q, subst (λ y. n ≤ swaps letter w y) z.1 (fewest_swaps_le e z.2 z.3))

    -- "Verdict 0 remains as it is": an order is given exactly where the judge gives one
    pub same_verdict : (closest_order may letter M k s w B ≡ none) ↔ (accepted_order may letter M w ≡ none)
    same_verdict = (λ e. go (accepted_order may letter M w) refl e, λ e. back (closest_order may letter M k s w B) refl e)
      where
        go : (o : Option (List ℕ)) → accepted_order may letter M w ≡ o → closest_order may letter M k s w B ≡ none → accepted_order may letter M w ≡ none
        go none q e = q
        go (some v) q e = absurd (split (covers may letter M k s w B) refl)
          where
            z : Earliest may letter M w v
            z = accepted_order_at may letter M L q

            split : (b : Bool) → covers may letter M k s w B ≡ b → ⊥
            split true h =
                let n = fewest_swaps_some z.reached z.accepted in
                let u = fewest_swaps_at n.1 in
                let y = order_with_some u.1 u.2 u.3 in
                some-ne-none y.0 (sym y.1 ∙ sym (covered_order (rw h tt) n.1) ∙ e)
            split false h = some-ne-none v (sym q ∙ sym (not_covered (rw h tt)) ∙ e)

        back : (o : Option (List ℕ)) → closest_order may letter M k s w B ≡ o → accepted_order may letter M w ≡ none → closest_order may letter M k s w B ≡ none
        back none q e = q
        back (some v) q e = let z = closest_at q in absurd (accepted_order_not may letter M L e z.2 z.3)

    -- and a floor too
    pub floor_some : {v : List ℕ} → closest_order may letter M k s w B ≡ some v → (f : ℕ) × (floor may letter M k s w B ≡ some f)
    floor_some e = let z = closest_at e in let n = fewest_swaps_some z.2 z.3 in (_, floor_is n.1)
