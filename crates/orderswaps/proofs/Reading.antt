-- An order read letter by letter: counts, packed, and costs.
use mathlib.Core.Path.{◌≡◌, refl, sym, ◌∙◌, ap, subst}
use mathlib.Core.Bool.{Bool, false}
use mathlib.Core.Logic.{⊎_elim, ◌≢◌}
use mathlib.Core.List.{List, [], ◌∷◌, ◌++◌, map}
use Prim.Native.Nat.{ℕ, zero, suc, ◌+◌, ◌^◌, ◌≤◌, ◌<◌, min}
use native.Mathlib.Omega.{arith}
use lib.Dec.{T, eqb, ltb, ltb→lt, lt→ltb}
use lib.ListN.{length, get_or, take, length-set}
use lib.Seq.{ext_get_or, get_or-set_other, get_or-set_same, take-suc}
use Rattle.profile.specs.Lists.{all, below, first_place}
use Rattle.profile.specs.Prefixes.{at, count, less, one, unmarked}
use Rattle.profile.specs.Tables.{count_field, layout, packed}
use Rattle.profile.specs.Traces.{letters_below}
use Rattle.profile.proofs.Lists.{both, fst_of, lt_or_le, snd_of}
use Rattle.theory.proofs.Counting.{at_map, count_above, length_range}
use Rattle.theory.proofs.Levels.{bump}
use Rattle.theory.proofs.Packing.{field_packed}
use Rattle.theory.proofs.Prefixes.{count_append, count_le, one_cases, one_same, unmarked_suc, unmarked_zero}
use Rattle.counts.specs.Counts.{add_count}
use Rattle.counts.proofs.Packed.{Small, add_packed}
use Rattle.swaps.specs.Swaps.{step_cost, taking}
use Rattle.swaps.proofs.Bounds.{taking_le}
use Rattle.swaps.proofs.Pairs.{taking_append}
use Rattle.orderswaps.specs.Arranged.{Arranged}

pub never : ℕ → ℕ → Bool
never a b = false

-- a sum that stays below none
pub least_sum : {u v s : ℕ} (m n : ℕ) → m ≡ u → n ≡ s → v ≡ u + s → v ≤ 16000000 → min (m + n) 4294967295 ≡ v
least_sum m n p q e h = omega (arith, p, q, e, h)

-- the counts of u, as a list
abbrev pub counted : ℕ → List ℕ → List ℕ
counted k u = map (count (λ a. a) u) (below k)

-- ---- only the counts of letters below k matter

unmarked_agree : (k : ℕ) (w : List ℕ) (f g : ℕ → ℕ) → T (letters_below (λ a. a) k w) → ((y : ℕ) → y < k → f y ≡ g y) → unmarked (λ a. a) w f ≡ unmarked (λ a. a) w g
unmarked_agree k [] f g h e = refl
unmarked_agree k (a ∷ w) f g h e =
    go (f a) refl (λ f g e. unmarked_agree k w f g (snd_of (ltb a k) (letters_below (λ a. a) k w) h) e)
  where
    lt : a < k
    lt = ltb→lt a k (fst_of (ltb a k) (letters_below (λ a. a) k w) h)

    go : (n : ℕ) → f a ≡ n → ((f g : ℕ → ℕ) → ((y : ℕ) → y < k → f y ≡ g y) → unmarked (λ a. a) w f ≡ unmarked (λ a. a) w g)
        → unmarked (λ a. a) (a ∷ w) f ≡ unmarked (λ a. a) (a ∷ w) g
    go zero q ih = unmarked_zero never (λ a. a) a w f q ∙ ap (◌∷◌ a) (ih f g e) ∙ sym (unmarked_zero never (λ a. a) a w g (sym (e a lt) ∙ q))
    go (suc n) q ih = unmarked_suc never (λ a. a) a w f q ∙ ih (less f a) (less g a) (λ y l. omega (arith, e y l)) ∙ sym (unmarked_suc never (λ a. a) a w g (sym (e a lt) ∙ q))

pub step_agree : (k : ℕ) (w : List ℕ) (f g : ℕ → ℕ) (x : ℕ) → T (letters_below (λ a. a) k w) → ((y : ℕ) → y < k → f y ≡ g y)
    → step_cost (λ a. a) w f x ≡ step_cost (λ a. a) w g x
step_agree k w f g x h e = ap (first_place (λ a. eqb a x)) (unmarked_agree k w f g h e)

-- ---- packed counts

module _ (k : ℕ) (most : k ≤ 16) where
  counted_at : (u : List ℕ) (y : ℕ) → y < k → at (counted k u) y ≡ count (λ a. a) u y
  counted_at u y h = let z : 0 + y ≡ y = omega arith in at_map (count (λ a. a) u) k 0 y h ∙ ap (count (λ a. a) u) z

  counted_small : (u : List ℕ) → ((y : ℕ) → count (λ a. a) u y ≤ 4000) → Small layout (counted k u)
  counted_small u h = go (below k)
    where
      go : (l : List ℕ) → T (all (λ n. ltb n (2 ^ 16)) (map (count (λ a. a) u) l))
      go [] = tt
      go (y ∷ l) = both (ltb (count (λ a. a) u y) (2 ^ 16)) (all (λ n. ltb n (2 ^ 16)) (map (count (λ a. a) u) l)) (lt→ltb (count (λ a. a) u y) (2 ^ 16) (omega (arith, h y))) (go l)

  pub field_counted : (u : List ℕ) (y : ℕ) → ((y : ℕ) → count (λ a. a) u y ≤ 4000) → y < k → count_field layout (packed layout (counted k u)) y ≡ count (λ a. a) u y
  field_counted u y h l = field_packed layout (counted k u) y (counted_small u h) (omega (arith, l, most)) ∙ counted_at u y l

  bump_counted : (u : List ℕ) (x : ℕ) → x < k → bump (counted k u) x ≡ counted k (u ++ (x ∷ []))
  bump_counted u x l =
      let long : length (counted k u) ≡ k = length_range (count (λ a. a) u) k 0 in
      ext_get_or 0 (bump (counted k u) x) (counted k (u ++ (x ∷ [])))
      (length-set (counted k u) x (suc (at (counted k u) x)) ∙ long ∙ sym (length_range (count (λ a. a) (u ++ (x ∷ []))) k 0))
      (λ y h.
      let ly : y < k = omega (arith, h, length-set (counted k u) x (suc (at (counted k u) x)), long) in
      let c = count_append never (λ a. a) u (x ∷ []) y in
      ⊎_elim
      (λ e.
      let z : at (bump (counted k u) x) y ≡ suc (at (counted k u) x) = ap (at (bump (counted k u) x)) (sym e) ∙ get_or-set_same (counted k u) x (suc (at (counted k u) x)) 0 (omega (arith, l, long)) in
      omega (arith, z, counted_at u x l, counted_at (u ++ (x ∷ [])) y ly, c, subst (λ i. one x i ≡ 1) e (one_same x), ap (count (λ a. a) u) e))
      (λ o.
      let ne : y ≢ x = λ q. omega (arith, o, ap (one x) q, one_same x) in
      omega (arith, get_or-set_other (counted k u) x y (suc (at (counted k u) x)) 0 ne, counted_at u y ly, counted_at (u ++ (x ∷ [])) y ly, c, o)) (one_cases x y))

  pub add_counted : (u : List ℕ) (x : ℕ) → x < k → ((y : ℕ) → count (λ a. a) (u ++ (x ∷ [])) y ≤ 4000)
      → add_count layout (packed layout (counted k u)) x ≡ packed layout (counted k (u ++ (x ∷ [])))
  add_counted u x l h =
      let long : length (counted k u) ≡ k = length_range (count (λ a. a) u) k 0 in
      add_packed layout (counted k u) x refl (omega (arith, l, long)) (omega (arith, most, long)) (subst (Small layout) (sym (bump_counted u x l)) (counted_small (u ++ (x ∷ [])) h))
      ∙ ap (packed layout) (bump_counted u x l)

-- ---- one letter more

take_count : (l : List ℕ) (i n y : ℕ) → i ≤ n → count (λ a. a) (take i l) y ≤ count (λ a. a) (take n l) y
take_count [] zero zero y h = omega arith
take_count [] zero (suc n) y h = omega arith
take_count [] (suc i) zero y h = absurd (omega (arith, h))
take_count [] (suc i) (suc n) y h = omega arith
take_count (a ∷ l) zero n y h = omega arith
take_count (a ∷ l) (suc i) zero y h = absurd (omega (arith, h))
take_count (a ∷ l) (suc i) (suc n) y h = omega (arith, take_count l i n y (omega (arith, h)))

module _ (k : ℕ) (w whole order : List ℕ) (most : k ≤ 16) (few : length w ≤ 4000) (letters : T (letters_below (λ a. a) k w)) (arranged : Arranged k w whole order) where
  -- what is read has no more of a letter than the log
  pub read_le : (i y : ℕ) → i ≤ length w → count (λ a. a) (take i order) y ≤ count (λ a. a) w y
  read_le i y h = omega (arith, take_count order i (length w) y h, arranged.same y)

  pub read_few : (i : ℕ) → i ≤ length w → (y : ℕ) → count (λ a. a) (take i order) y ≤ 4000
  read_few i h y = omega (arith, read_le i y h, count_le never (λ a. a) w y, few)

  -- the next letter
  pub next_left : (i : ℕ) → i < length w → count (λ a. a) (take i order) (get_or order i 0) < count (λ a. a) w (get_or order i 0)
  next_left i h =
      let x = get_or order i 0 in
      let e = ap (λ l. count (λ a. a) l x) (take-suc order i 0 (omega (arith, h, arranged.long))) ∙ count_append never (λ a. a) (take i order) (x ∷ []) x in
      omega (arith, e, one_same x, read_le (suc i) x h)

  pub next_below : (i : ℕ) → i < length w → get_or order i 0 < k
  next_below i h = ⊎_elim (λ l. l) (λ l. absurd (omega (arith, next_left i h, count_above (λ a. a) k w (get_or order i 0) letters l))) (lt_or_le (get_or order i 0) k)

  pub next_counted : (i : ℕ) → i < length w → add_count layout (packed layout (counted k (take i order))) (get_or order i 0) ≡ packed layout (counted k (take (suc i) order))
  next_counted i h =
      let x = get_or order i 0 in
      let e = take-suc order i 0 (omega (arith, h, arranged.long)) in
      add_counted k most (take i order) x (next_below i h) (λ y. subst (λ l. count (λ a. a) l y ≤ 4000) e (read_few (suc i) h y)) ∙ ap (λ l. packed layout (counted k l)) (sym e)

  pub next_taking : (i : ℕ) → i < length w
      → taking (λ a. a) w (λ x. 0) (take (suc i) order) ≡ taking (λ a. a) w (λ x. 0) (take i order) + step_cost (λ a. a) w (count_field layout (packed layout (counted k (take i order)))) (get_or order i 0)
  next_taking i h =
      let x = get_or order i 0 in
      let u = take i order in
      let e = take-suc order i 0 (omega (arith, h, arranged.long)) in
      let f : ℕ → ℕ = λ y. count (λ a. a) u y + 0 in
      omega (
        arith,
        ap (taking (λ a. a) w (λ x. 0)) e,
        taking_append (λ a. a) w (λ x. 0) u (x ∷ []),
        step_agree k w f (count_field layout (packed layout (counted k u))) x letters (λ y l. (let z : count (λ a. a) u y + 0 ≡ count (λ a. a) u y = omega arith in z) ∙ sym (field_counted k most u y (read_few i (omega (arith, h))) l)),
      )

  pub taking_small : (i : ℕ) → i ≤ length w → taking (λ a. a) w (λ x. 0) (take i order) ≤ 16000000
  taking_small i h = omega (arith, taking_le (λ a. a) w (λ x. 0) (take i order) few, length-take-le order i, few, h)
    where
      length-take-le : (l : List ℕ) (i : ℕ) → length (take i l) ≤ i
      length-take-le [] zero = omega arith
      length-take-le [] (suc i) = omega arith
      length-take-le (a ∷ l) zero = omega arith
      length-take-le (a ∷ l) (suc i) = omega (arith, length-take-le l i)
