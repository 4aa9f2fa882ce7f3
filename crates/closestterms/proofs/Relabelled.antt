-- Events under other names: where f gives each event another number with the same letter, and the same events may be exchanged, swaps, pairs, the floor and
-- the closest order are the same.
use mathlib.Core.Path.{◌≡◌, refl, sym, ◌∙◌, ap, ap₂, fun_ext}
use mathlib.Core.Bool.{Bool, true, false, ◌&&◌}
use mathlib.Core.List.{List, [], ◌∷◌, ◌++◌, map, map-append}
use mathlib.Core.Option.{Option, none, some}
use Prim.Native.Nat.{ℕ}
use lib.Dec.{T, eqb, leb}
use lib.ListN.{length}
use Rattle.profile.specs.Lists.{all, below, filter, flat_map}
use Rattle.profile.specs.Traces.{bit, orders}
use Rattle.profile.specs.Automata.{Automaton, accepted?, meets, run}
use Rattle.profile.specs.Prefixes.{at, marked, unmarked}
use Rattle.profile.specs.Orders.{accepted_order, earliest}
use Rattle.profile.proofs.Lists.{all_of, filter_agree}
use Rattle.terms.proofs.Relabelling.{accepted_order_named, by_total_named, filter_map, forward_named, map_on, map_twice, marked_named, orders_named, run_named, unmarked_named}
use Rattle.swaps.specs.Closest.{after, closest_order, fewest, fewest_swaps, floor, listed, order_with, pair_swaps, pairs, smaller, sorted}
use Rattle.swaps.specs.Swaps.{swaps}
use Rattle.swaps.proofs.Letters.{swaps_letters}

module _ (may may' : ℕ → ℕ → Bool) (letter letter' : ℕ → ℕ) (f : ℕ → ℕ)
    (same_may : (a b : ℕ) → may' (f a) (f b) ≡ may a b) (same_letter : (a : ℕ) → letter' (f a) ≡ letter a) where
  all_true : (l : List ℕ) → T (all (λ e. true) l)
  all_true l = all_of (λ e. true) l (λ e m. tt)

  letters_named : (v : List ℕ) → map letter' (map f v) ≡ map letter v
  letters_named [] = refl
  letters_named (a ∷ v) = ap₂ ◌∷◌ (same_letter a) (letters_named v)

  pub swaps_named : (w v : List ℕ) → swaps letter' (map f w) v ≡ swaps letter w v
  swaps_named w v = swaps_letters letter' (map f w) v ∙ ap (λ l. swaps (λ a. a) l v) (letters_named w) ∙ sym (swaps_letters letter w v)

  -- what is listed of the orders that pass a test
  listed_named : {A : Type 0} (w : List ℕ) (t' t : List ℕ → Bool) (g' g : List ℕ → A) → ((v : List ℕ) → t' (map f v) ≡ t v) → ((v : List ℕ) → g' (map f v) ≡ g v)
      → map g' (filter t' (orders may' (map f w))) ≡ map g (filter t (orders may w))
  listed_named w t' t g' g ht hg =
      ap (λ l. map g' (filter t' l)) (orders_named may may' letter letter' f (λ e. true) (λ a b s r. same_may a b) (λ a s. same_letter a) w (all_true w))
      ∙ ap (map g') (filter_map t' (map f) (orders may w) ∙ ap (map (map f)) (filter_agree (λ v. t' (map f v)) t (orders may w) (λ v m. ht v)))
      ∙ map_twice g' (map f) (filter t (orders may w)) ∙ map_on (λ v. g' (map f v)) g (filter t (orders may w)) (λ v m. hg v)

  module _ (M : Automaton) (w : List ℕ) where
    swaps_of_order : (v : List ℕ) → swaps letter' (map f w) (map letter' (map f v)) ≡ swaps letter w (map letter v)
    swaps_of_order v = ap (swaps letter' (map f w)) (letters_named v) ∙ swaps_named w (map letter v)

    accepted_named : (v : List ℕ) → accepted? M letter' (map f v) ≡ accepted? M letter v
    accepted_named v = ap (λ S. meets S M.final) (run_named may may' letter letter' f (λ e. true) (λ a b s r. same_may a b) (λ a s. same_letter a) M v (all_true v) M.start)

    fewest_named : fewest_swaps may' letter' M (map f w) ≡ fewest_swaps may letter M w
    fewest_named = ap fewest (listed_named w (accepted? M letter') (accepted? M letter) (λ u. swaps letter' (map f w) (map letter' u)) (λ u. swaps letter w (map letter u)) accepted_named swaps_of_order)

    order_with_named : (n : ℕ) → order_with may' letter' M (map f w) n ≡ order_with may letter M w n
    order_with_named n = ap earliest (listed_named w
        (λ u. accepted? M letter' u && eqb (swaps letter' (map f w) (map letter' u)) n) (λ u. accepted? M letter u && eqb (swaps letter w (map letter u)) n)
        (map letter') (map letter) (λ v. ap₂ (λ b m. b && eqb m n) (accepted_named v) (swaps_of_order v)) letters_named)

    pair_named : (c : ℕ → ℕ) (q : ℕ) → pair_swaps may' letter' M (map f w) c q ≡ pair_swaps may letter M w c q
    pair_named c q =
        ap (λ m. fewest (map (λ u. swaps letter' (map f w) (map letter' (u ++ unmarked letter' (map f w) c))) (filter (λ u. bit (run M letter' M.start u) q) (orders may' m))))
        (marked_named may may' letter letter' f (λ e. true) (λ a b s r. same_may a b) (λ a s. same_letter a) w (all_true w) c)
        ∙ ap fewest (listed_named (marked letter w c) (λ u. bit (run M letter' M.start u) q) (λ u. bit (run M letter M.start u) q)
        (λ u. swaps letter' (map f w) (map letter' (u ++ unmarked letter' (map f w) c))) (λ u. swaps letter w (map letter (u ++ unmarked letter w c)))
        (λ v. ap (λ S. bit S q) (run_named may may' letter letter' f (λ e. true) (λ a b s r. same_may a b) (λ a s. same_letter a) M v (all_true v) M.start)) front-named)
      where
        front-named : (v : List ℕ) → swaps letter' (map f w) (map letter' (map f v ++ unmarked letter' (map f w) c)) ≡ swaps letter w (map letter (v ++ unmarked letter w c))
        front-named v =
            ap (λ x. swaps letter' (map f w) (map letter' (map f v ++ x))) (unmarked_named may may' letter letter' f (λ e. true) (λ a b s r. same_may a b) (λ a s. same_letter a) w (all_true w) c)
            ∙ ap (λ x. swaps letter' (map f w) (map letter' x)) (sym (map-append f v (unmarked letter w c))) ∙ swaps_of_order (v ++ unmarked letter w c)

    module _ (k s B : ℕ) where
      pairs_named : pairs may' letter' M k s (map f w) ≡ pairs may letter M k s w
      pairs_named = ap₂ (λ g l. flat_map g l)
          (fun_ext (λ c. ap₂ (λ h S. flat_map (λ q. listed (h q)) (filter (bit S) (below s))) (fun_ext (λ q. pair_named (at c) q))
          (forward_named may may' letter letter' f (λ e. true) (λ a b s r. same_may a b) (λ a s. same_letter a) M w (all_true w) (at c))))
          (by_total_named may may' letter letter' f (λ e. true) (λ a b s r. same_may a b) (λ a s. same_letter a) k w (all_true w))

      pub floor_named : floor may' letter' M k s (map f w) B ≡ floor may letter M k s w B
      floor_named =
          let F : Option ℕ → List ℕ → Option ℕ = λ o P. elim o [ none ↦ none | some n ↦ some (smaller n (after B (sorted P))) ] in
          ap₂ F fewest_named pairs_named

      pub closest_named : closest_order may' letter' M k s (map f w) B ≡ closest_order may letter M k s w B
      closest_named =
          let G : Option ℕ → (ℕ → Option (List ℕ)) → Option (List ℕ) = λ o g. elim o [ none ↦ none | some n ↦ g n ] in
          let F : List ℕ → Option (List ℕ) → Option (List ℕ) → Option (List ℕ) = λ P x y. elim (leb (length P) B) [ true ↦ x | false ↦ y ] in
          ap (λ P. F P (G (fewest_swaps may' letter' M (map f w)) (order_with may' letter' M (map f w))) (accepted_order may' letter' M (map f w))) pairs_named
          ∙ ap₂ (F (pairs may letter M k s w)) (ap₂ G fewest_named (fun_ext order_with_named))
          (accepted_order_named may may' letter letter' f (λ e. true) (λ a b s r. same_may a b) (λ a s. same_letter a) M w (all_true w))
