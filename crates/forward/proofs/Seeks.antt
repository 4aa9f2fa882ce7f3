-- The first place of a list from a place on, where a loop stands, and the way back from one total's prefixes to those of the total before.
use mathlib.Core.Path.{◌≡◌, refl, sym, ◌∙◌, ap, subst}
use mathlib.Core.Bool.{Bool, true, false, not}
use mathlib.Core.Logic.{⊎_elim}
use mathlib.Core.List.Memᴰ
use mathlib.Core.List.{List, [], ◌∷◌, ◌++◌}
use Prim.Native.Nat.{ℕ, suc, ◌+◌, ◌≤◌, ◌<◌}
use native.Mathlib.Omega.{arith}
use lib.Dec.{T}
use lib.ListN.{length, get_or, drop, drop_of_length-le}
use lib.Seq.{drop-cons}
use Rattle.profile.specs.Lists.{Mem, equal?, first_place}
use Rattle.profile.specs.Orders.{Earlier}
use Rattle.profile.proofs.Lists.{equal_test, is_false, is_true, lt_or_le, mem_place}
use Rattle.theory.proofs.LetterOrder.{earlier_trans}
use Rattle.theory.proofs.FirstPlaces.{first_no, first_yes}
use Rattle.theory.proofs.Levels.{bump}
use Rattle.theory.proofs.Merge.{Grown, Sorted, bump_earlier, seek, seek_first, seek_passes, sorted_getd}

module _ (p : ℕ → Bool) where
  -- in what is left of w from place i on
  pub place_yes : (w : List ℕ) (i : ℕ) → i < length w → p (get_or w i 0) ≡ true → first_place p (drop i w) ≡ 0
  place_yes w i h e = ap (first_place p) (drop-cons w i 0 h) ∙ first_yes p (get_or w i 0) (drop (suc i) w) e

  pub place_no : (w : List ℕ) (i : ℕ) → i < length w → p (get_or w i 0) ≡ false → first_place p (drop i w) ≡ suc (first_place p (drop (i + 1) w))
  place_no w i h e =
      let n : suc i ≡ i + 1 = omega arith in
      ap (first_place p) (drop-cons w i 0 h) ∙ first_no p (get_or w i 0) (drop (suc i) w) e ∙ ap (λ j. suc (first_place p (drop j w))) n

  pub place_end : (w : List ℕ) (i : ℕ) → length w ≤ i → first_place p (drop i w) ≡ 0
  place_end w i h = ap (first_place p) (drop_of_length-le w h)

module _ {A : Type 0} (f : A → Bool) where
  yes : (a : A) (l : List A) → T (f a) → first_place f (a ∷ l) ≡ 0
  yes a l t = rw (is_true (f a) t, first_place)

  no : (a : A) (l : List A) → T (not (f a)) → first_place f (a ∷ l) ≡ suc (first_place f l)
  no a l t = rw (is_false (f a) t, first_place)

  -- for loops: the place is p, or the search goes on at the next place, or p is the end
  pub seek_yes : (l : List A) (d : A) (p : ℕ) → p < length l → T (f (get_or l p d)) → seek f l p ≡ p
  seek_yes l d p h t = omega (arith, ap (first_place f) (drop-cons l p d h), yes (get_or l p d) (drop (suc p) l) t)

  pub seek_no : (l : List A) (d : A) (p : ℕ) → p < length l → T (not (f (get_or l p d))) → seek f l p ≡ seek f l (suc p)
  seek_no l d p h t = omega (arith, ap (first_place f) (drop-cons l p d h), no (get_or l p d) (drop (suc p) l) t)

  pub seek_end : (l : List A) (p : ℕ) → length l ≤ p → seek f l p ≡ p
  seek_end l p h = omega (arith, ap (first_place f) (drop_of_length-le l {i = p} h))

-- R is what of C is still to come: of E before place q all is earlier than what it leads to by one x more
abbrev pub Behind : List (List ℕ) → (ℕ → List ℕ → Bool) → ℕ → List (List ℕ) → ℕ → Type 0
Behind E add x R q = (j : ℕ) → j < q → (c : List ℕ) → Mem c R → T (add x c) → Earlier (get_or E j []) (bump c x)

-- what stands behind l₁ is in order too
sorted_rest : (l₁ l₂ : List (List ℕ)) → Sorted (l₁ ++ l₂) → Sorted l₂
sorted_rest [] l₂ s = s
sorted_rest (a ∷ l₁) l₂ s = sorted_rest l₁ l₂ s.1

module _ {k : ℕ} {C E : List (List ℕ)} {add : ℕ → List ℕ → Bool} (g : Grown k C E add) where
  pub behind_skip : (x : ℕ) (c : List ℕ) (R : List (List ℕ)) (q : ℕ) → Behind E add x (c ∷ R) q → Behind E add x R q
  behind_skip x c R q b j l d m = b j l d (Memᴰ.tail m)

  -- what c leads to by x stands at the first place from q on that has it
  pub behind_find : (C₁ : List (List ℕ)) (c : List ℕ) (R : List (List ℕ)) → C ≡ C₁ ++ (c ∷ R) → (x q : ℕ) → x < k → T (add x c) → Behind E add x (c ∷ R) q
      → (seek (λ e. equal? e (bump c x)) E q < length E) × (get_or E (seek (λ e. equal? e (bump c x)) E q) [] ≡ bump c x)
      × Behind E add x R (seek (λ e. equal? e (bump c x)) E q)
  behind_find C₁ c R split x q h t b =
      let n = mem_place [] (g.up c x in_list h t) in
      let le : seek same E q ≤ n.0 = seek_first same E [] q n.0 (from-q n.0 n.2) ((equal_test (get_or E n.0 []) (bump c x)).1 n.2) in
      let lt : seek same E q < length E = omega (arith, n.1) in
      let i = (equal_test (get_or E (seek same E q) []) (bump c x)).0 (seek_passes same E [] q lt) in
      (lt, i, further (seek same E q) lt i)
    where
      same : List ℕ → Bool
      same e = equal? e (bump c x)

      in_list : Mem c C
      in_list = subst (Mem c) (sym split) (Memᴰ.append_right C₁ (Memᴰ.head refl))

      from-q : (i : ℕ) → get_or E i [] ≡ bump c x → q ≤ i
      from-q i e = ⊎_elim (λ l. absurd ((b i l c (Memᴰ.head refl) t).1 e)) (λ l. l) (lt_or_le i q)

      further : (r : ℕ) → r < length E → get_or E r [] ≡ bump c x → Behind E add x R r
      further r lt i j l d m a =
          let in_rest : Mem d C = subst (Mem d) (sym split) (Memᴰ.append_right C₁ (Memᴰ.tail m)) in
          let before : Earlier c d = (sorted_rest C₁ (c ∷ R) (subst Sorted split g.sorted)).0 d m in
          earlier_trans (subst (Earlier (get_or E j [])) i (sorted_getd E g.sorted_next j r l lt))
          (bump_earlier c d x (g.counts c in_list ∙ sym (g.counts d in_rest)) before)
