-- One scan of the log decides whether a letter may come next.
use mathlib.Core.Path.{◌≡◌, refl, sym, subst}
use mathlib.Core.Bool.{Bool, false, ◌&&◌, ◌||◌}
use mathlib.Core.Logic.{⊎_elim}
use mathlib.Core.List.{List, [], ◌∷◌}
use Prim.Native.Nat.{ℕ, zero, suc}
use lib.Dec.{T, eqb, eqb→eq, eqb_refl}
use Rattle.profile.specs.Prefixes.{less, unmarked}
use Rattle.profile.proofs.Lists.{both, either, fst_of, or_left, or_right, snd_of}
use Rattle.theory.proofs.Prefixes.{unmarked_suc, unmarked_zero}
use Rattle.profile.proofs.Traces.{Pick, first, later, no_pick}

-- The log, where events are letters: an event that the counts do not cover is passed, if x may pass it, until x is met.
abbrev pub scan? : (ℕ → ℕ → Bool) → List ℕ → (ℕ → ℕ) → ℕ → Bool
scan? may [] c x = false
scan? may (a ∷ w) c x = elim (c a) [ zero ↦ eqb a x || (may a x && scan? may w c x) | suc n ↦ scan? may w (less c a) x ]

module _ (may : ℕ → ℕ → Bool) where
  add_zero : (a : ℕ) (w : List ℕ) (c : ℕ → ℕ) (x : ℕ) → c a ≡ 0 → scan? may (a ∷ w) c x ≡ (eqb a x || (may a x && scan? may w c x))
  add_zero a w c x e = rw (e, scan?)

  add_suc : (a : ℕ) (w : List ℕ) (c : ℕ → ℕ) (x : ℕ) {n : ℕ} → c a ≡ suc n → scan? may (a ∷ w) c x ≡ scan? may w (less c a) x
  add_suc a w c x e = rw (e, scan?)

  pub scan_at : (w : List ℕ) (c : ℕ → ℕ) (x : ℕ) → T (scan? may w c x) → (r : List ℕ) × Pick may (unmarked (λ a. a) w c) x r
  scan_at [] c x t = absurd t
  scan_at (a ∷ w) c x t = go (c a) refl (scan_at w)
    where
      go : (n : ℕ) → c a ≡ n → ((d : ℕ → ℕ) (y : ℕ) → T (scan? may w d y) → (r : List ℕ) × Pick may (unmarked (λ a. a) w d) y r)
          → (r : List ℕ) × Pick may (unmarked (λ a. a) (a ∷ w) c) x r
      go zero e ih = subst (λ l. (r : List ℕ) × Pick may l x r) (sym (unmarked_zero may (λ a. a) a w c e)) (⊎_elim
          (λ h. (unmarked (λ a. a) w c, subst (λ z. Pick may (a ∷ unmarked (λ a. a) w c) z (unmarked (λ a. a) w c)) (eqb→eq a x h) first))
          (λ h. let n = ih c x (snd_of (may a x) (scan? may w c x) h) in (a ∷ n.0, later (fst_of (may a x) (scan? may w c x) h) n.1))
          (either (eqb a x) (may a x && scan? may w c x) (rw (add_zero a w c x e) at t)))
      go (suc n) e ih = subst (λ l. (r : List ℕ) × Pick may l x r) (sym (unmarked_suc may (λ a. a) a w c e)) (ih (less c a) x (rw (add_suc a w c x e) at t))

  pub scan_of : (w : List ℕ) (c : ℕ → ℕ) {x : ℕ} {r : List ℕ} → Pick may (unmarked (λ a. a) w c) x r → T (scan? may w c x)
  scan_of [] c p = absurd (no_pick may p)
  scan_of (a ∷ w) c {x} {r} p = go (c a) refl (λ d s q. scan_of w d q)
    where
      at_zero : {l s : List ℕ} {y : ℕ} → Pick may (a ∷ l) y s → ((t : List ℕ) → Pick may l y t → T (scan? may w c y)) → T (eqb a y || (may a y && scan? may w c y))
      at_zero first ih = or_left (eqb a a) (may a a && scan? may w c a) (eqb_refl a)
      at_zero {y = y} (later ok q) ih = or_right (eqb a y) (may a y && scan? may w c y) (both (may a y) (scan? may w c y) ok (ih _ q))

      go : (n : ℕ) → c a ≡ n → ((d : ℕ → ℕ) (s : List ℕ) → Pick may (unmarked (λ a. a) w d) x s → T (scan? may w d x)) → T (scan? may (a ∷ w) c x)
      go zero e ih = rw (add_zero a w c x e) (at_zero (subst (λ l. Pick may l x r) (unmarked_zero may (λ a. a) a w c e) p) (ih c))
      go (suc n) e ih = rw (add_suc a w c x e) (ih (less c a) r (subst (λ l. Pick may l x r) (unmarked_suc may (λ a. a) a w c e) p))
