-- Whether a letter can be added to a prefix: the places of the next events say it.
use borrow.Author.Tests.{eqb-false}
use mathlib.Core.Path.{◌≡◌, refl, sym, ◌∙◌, ap, ap₂, subst, fun_ext}
use mathlib.Core.Bool.{Bool, true, false, not, ◌&&◌, ◌||◌}
use mathlib.Core.Logic.{⊎_elim, ◌≢◌}
use mathlib.Core.List.Memᴰ
use mathlib.Core.List.{List, [], ◌∷◌}
use Prim.Native.Nat.{ℕ, zero, suc, ◌+◌, ◌≤◌, ◌<◌}
use native.Mathlib.Omega.{arith}
use lib.Dec.{T, T_not, not_T, eqb, eqb→eq, ltb, ltb→lt, lt→ltb}
use lib.ListN.{length, get_or}
use Rattle.profile.specs.Lists.{Mem, all, below}
use Rattle.profile.specs.Prefixes.{IsPrefix, addable?, at, count, less, more, unmarked}
use Rattle.profile.specs.Traces.{letters_below}
use Rattle.profile.proofs.Lists.{all_at, all_of, below_at, below_of, both, either, fst_of, is_false, is_true, or_left, or_right, snd_of, test}
use Rattle.theory.proofs.Prefixes.{addable_at, addable_of, more_of_pick, one_cases}
use Rattle.theory.proofs.Scan.{scan_at, scan_of, scan?}
use Rattle.profile.proofs.Traces.{Pick}
use Rattle.places.specs.Places.{next_places}
use Rattle.places.proofs.NextPlaces.{at_next, next_here, next_le, next_marked, next_other, next_place}
use Rattle.events.specs.Events.{comes_next?, lets_by?}

-- ---- tests

same_test : (p q : Bool) → (T p → T q) → (T q → T p) → p ≡ q
same_test true q f g = sym (is_true q (f tt))
same_test false q f g = sym (is_false q (not_T q g))

all_agree : (p q : ℕ → Bool) (l : List ℕ) → ((a : ℕ) → Mem a l → p a ≡ q a) → all p l ≡ all q l
all_agree p q [] f = refl
all_agree p q (a ∷ l) f = ap₂ ◌&&◌ (f a (Memᴰ.head refl)) (all_agree p q l (λ b m. f b (Memᴰ.tail m)))

-- ---- one scan of the log says the same

scan_addable : (may : ℕ → ℕ → Bool) (distinct : (a b : ℕ) → T (may a b) → a ≢ b) (w : List ℕ) (c : ℕ → ℕ) → IsPrefix may (λ a. a) w c → (x : ℕ)
    → scan? may w c x ≡ addable? may (λ a. a) w c x
scan_addable may distinct w c p x = same_test (scan? may w c x) (addable? may (λ a. a) w c x)
    (λ t. let n = scan_at may w c x t in addable_of may (λ a. a) distinct {w = w} c x (more_of_pick may (λ a. a) distinct {w = w} {c = c} p n.1).0)
    (λ t.
    let n = addable_at may (λ a. a) distinct {w = w} {c = c} {x = x} p t in
    scan_of may w c (subst (λ a. Pick may (unmarked (λ a. a) w c) a (unmarked (λ a. a) w (more c x))) n.2 n.3))

-- ---- the test, with the places as a function

abbrev comes? : (ℕ → ℕ → Bool) → ℕ → ℕ → (ℕ → ℕ) → ℕ → Bool
comes? may k n f x = ltb (f x) n && all (lets_by? may f x) (below k)

module _ (may : ℕ → ℕ → Bool) (k x : ℕ) where
  -- only the places of x and of the letters that x may not pass matter
  comes_agree : (n : ℕ) (f g : ℕ → ℕ) → f x ≡ g x → ((y : ℕ) → y < k → T (not (may y x)) → f y ≡ g y) → comes? may k n f x ≡ comes? may k n g x
  comes_agree n f g e h = ap₂ ◌&&◌ (ap (λ m. ltb m n) e) (all_agree (lets_by? may f x) (lets_by? may g x) (below k) (λ y m. ap (λ b. eqb y x || b) (go y (may y x) refl (h y (below_at k y m)))))
    where
      go : (y : ℕ) (q : Bool) → may y x ≡ q → (T (not (may y x)) → f y ≡ g y) → (may y x || ltb (f x) (f y)) ≡ (may y x || ltb (g x) (g y))
      go y true r s = rw r
      go y false r s = ap (λ b. may y x || b) (ap₂ ltb e (s (rw r tt)))

  -- the scan meets an unmarked x before any unmarked letter that x may not pass
  comes_scan : (i : ℕ) (w : List ℕ) (c : ℕ → ℕ) → T (letters_below (λ a. a) k w) → ((y : ℕ) → c y ≤ count (λ a. a) w y)
      → scan? may w c x ≡ comes? may k (i + length w) (next_place i w c) x
  comes_scan i [] c h fits = sym (is_false (comes? may k (i + 0) (next_place i [] c) x) (not_T (comes? may k (i + 0) (next_place i [] c) x) (λ t.
      let e : c x ≡ 0 = omega (arith, fits x) in
      let l = ltb→lt (next_place i [] c x) (i + 0) (fst_of (ltb (next_place i [] c x) (i + 0)) (all (lets_by? may (next_place i [] c) x) (below k)) t) in
      omega (arith, ap (λ m. get_or (i ∷ []) m 0) e))))
  comes_scan i (a ∷ w) c h fits = go (c a) refl (λ d. comes_scan (suc i) w d (snd_of (ltb a k) (letters_below (λ a. a) k w) h))
    where
      f : ℕ → ℕ
      f = next_place i (a ∷ w) c

      n : ℕ
      n = i + suc (length w)

      -- x is the letter of an unmarked first event
      own : c a ≡ 0 → a ≡ x → ((y : ℕ) → c y ≤ count (λ a. a) w y) → T (comes? may k n f x)
      own e q rest =
          let here : f x ≡ i = subst (λ z. f z ≡ i) q (next_here i a w c e) in
          both (ltb (f x) n) (all (lets_by? may f x) (below k)) (lt→ltb (f x) n (omega arith))
          (all_of (lets_by? may f x) (below k) (λ y m. ⊎_elim (or_left (eqb y x) (may y x || ltb (f x) (f y)))
          (λ t.
          let ne : a ≢ y = λ r. eqb-false y x (is_false (eqb y x) t) (sym r ∙ q) in
          or_right (eqb y x) (may y x || ltb (f x) (f y)) (or_right (may y x) (ltb (f x) (f y))
          (lt→ltb (f x) (f y) (omega (arith, next_other i a w c y ne, next_le (suc i) w c y (rest y))))))
          (test (eqb y x))))

      -- x may not pass it
      stopped : c a ≡ 0 → a ≢ x → T (not (may a x)) → ((y : ℕ) → c y ≤ count (λ a. a) w y) → T (comes? may k n f x) → ⊥
      stopped e ne bad rest t =
          let lt = ltb→lt a k (fst_of (ltb a k) (letters_below (λ a. a) k w) h) in
          let u = all_at (lets_by? may f x) (snd_of (ltb (f x) n) (all (lets_by? may f x) (below k)) t) (below_of k a lt) in
          ⊎_elim (λ q. ne (eqb→eq a x q))
          (λ q. ⊎_elim (T_not (may a x) bad)
          (λ r. omega (arith, ltb→lt (f x) (f a) r, next_here i a w c e, next_other i a w c x ne, next_le (suc i) w c x (rest x)))
          (either (may a x) (ltb (f x) (f a)) q))
          (either (eqb a x) (may a x || ltb (f x) (f a)) u)

      go : (m : ℕ) → c a ≡ m → ((d : ℕ → ℕ) → ((y : ℕ) → d y ≤ count (λ a. a) w y) → scan? may w d x ≡ comes? may k (suc i + length w) (next_place (suc i) w d) x)
          → scan? may (a ∷ w) c x ≡ comes? may k n f x
      go zero e ih =
          let rest : (y : ℕ) → c y ≤ count (λ a. a) w y = λ y. ⊎_elim (λ q. omega (arith, ap c q)) (λ z. omega (arith, fits y)) (one_cases a y) in
          let s : scan? may (a ∷ w) c x ≡ (eqb a x || (may a x && scan? may w c x)) = rw (e, scan?) in
          let len : suc i + length w ≡ n = omega arith in
          s ∙ ⊎_elim
          (λ t. rw (is_true (eqb a x) t) (sym (is_true (comes? may k n f x) (own e (eqb→eq a x t) rest))))
          (λ t.
          let ne : a ≢ x = eqb-false a x (is_false (eqb a x) t) in
          ⊎_elim
          (λ ok. ap₂ (λ p q. p || (q && scan? may w c x)) (is_false (eqb a x) t) (is_true (may a x) ok) ∙ ih c rest
          ∙ comes_agree (suc i + length w) (next_place (suc i) w c) f (sym (next_other i a w c x ne))
          (λ y l bad. sym (next_other i a w c y (λ q. T_not (may y x) bad (subst (λ z. T (may z x)) q ok))))
          ∙ ap (λ m. comes? may k m f x) len)
          (λ bad. ap₂ (λ p q. p || (q && scan? may w c x)) (is_false (eqb a x) t) (is_false (may a x) bad)
          ∙ sym (is_false (comes? may k n f x) (not_T (comes? may k n f x) (stopped e ne bad rest))))
          (test (may a x)))
          (test (eqb a x))
      go (suc m) e ih =
          let s : scan? may (a ∷ w) c x ≡ scan? may w (less c a) x = rw (e, scan?) in
          let len : suc i + length w ≡ n = omega arith in
          s ∙ ih (less c a) (λ y. omega (arith, fits y)) ∙ ap₂ (λ m g. comes? may k m g x) len (fun_ext (λ y. sym (next_marked i a w c e y)))

-- of a prefix, by the places of the next events: is it one with one x more
pub comes_next_addable : (may : ℕ → ℕ → Bool) (distinct : (a b : ℕ) → T (may a b) → a ≢ b) (k : ℕ) (w : List ℕ) → T (letters_below (λ a. a) k w)
    → (c : ℕ → ℕ) → IsPrefix may (λ a. a) w c → (x : ℕ) → x < k → comes_next? may k (length w) (next_places k w c) x ≡ addable? may (λ a. a) w c x
comes_next_addable may distinct k w h c p x lt =
    let e : length w ≡ 0 + length w = omega arith in
    comes_agree may k x (length w) (at (next_places k w c)) (next_place 0 w c) (at_next k w c x lt) (λ y l t. at_next k w c y l)
    ∙ ap (λ n. comes? may k n (next_place 0 w c) x) e
    ∙ sym (comes_scan may k x 0 w c h p.fits)
    ∙ scan_addable may distinct w c p x
