-- The first event of a letter, where it may be brought to the front of the log.
use mathlib.Core.Path.{◌≡◌, refl, subst}
use mathlib.Core.Bool.{Bool, not, cond}
use mathlib.Core.Logic.{◌⊎◌, inl, inr, ⊎_elim, ◌≢◌}
use mathlib.Core.List.{List, [], ◌∷◌}
use mathlib.Core.Option.{Option, none, some, none-ne-some, some-injective}
use Prim.Native.Nat.{ℕ}
use lib.Dec.{T, eqb, eqb→eq, eqb_refl}
use Rattle.profile.proofs.Lists.{is_false, is_true, test}
use Rattle.profile.proofs.Traces.{Pick, first, later}

-- what is picked behind a, brought over a
abbrev pub over : (ℕ → ℕ → Bool) → ℕ → Option (ℕ × List ℕ) → Option (ℕ × List ℕ)
over may a none = none
over may a (some p) = cond (may a p.0) (some (p.0, a ∷ p.1)) none

-- the first event of letter x, where it may be brought to the front, with what is then left
abbrev pub pick_first : (ℕ → ℕ → Bool) → (ℕ → ℕ) → List ℕ → ℕ → Option (ℕ × List ℕ)
pick_first may letter [] x = none
pick_first may letter (a ∷ w) x = cond (eqb (letter a) x) (some (a, w)) (over may a (pick_first may letter w x))

module _ (may : ℕ → ℕ → Bool) (letter : ℕ → ℕ) where
  pub pick_at : (w : List ℕ) (x : ℕ) {a : ℕ} {r : List ℕ} → pick_first may letter w x ≡ some (a, r) → Pick may w a r × (letter a ≡ x)
  pick_at [] x e = absurd (none-ne-some _ e)
  pick_at (b ∷ w) x {a} {r} e = go (test (eqb (letter b) x)) (pick_first may letter w x) refl (λ c s q. pick_at w x q)
    where
      carry : (c : ℕ) (s : List ℕ) → ◌≡◌ {A = Option (ℕ × List ℕ)} (some (c, s)) (some (a, r)) → Pick may (b ∷ w) c s × (letter c ≡ x) → Pick may (b ∷ w) a r × (letter a ≡ x)
      carry c s q = subst (λ (p : ℕ × List ℕ). Pick may (b ∷ w) p.0 p.1 × (letter p.0 ≡ x)) (some-injective (c, s) (a, r) q)

      go : T (eqb (letter b) x) ⊎ T (not (eqb (letter b) x)) → (o : Option (ℕ × List ℕ)) → pick_first may letter w x ≡ o
          → ((c : ℕ) (s : List ℕ) → pick_first may letter w x ≡ some (c, s) → Pick may w c s × (letter c ≡ x)) → Pick may (b ∷ w) a r × (letter a ≡ x)
      go (inl t) o q ih = carry b w (rw (is_true (eqb (letter b) x) t) at e) (first, eqb→eq (letter b) x t)
      go (inr t) none q ih = absurd (none-ne-some _ (rw (is_false (eqb (letter b) x) t, q) at e))
      go (inr t) (some p) q ih = ⊎_elim
          (λ h. let n = ih p.0 p.1 q in carry p.0 (b ∷ p.1) (rw (is_false (eqb (letter b) x) t, q, is_true (may b p.0) h) at e) (later h n.0, n.1))
          (λ h. absurd (none-ne-some _ (rw (is_false (eqb (letter b) x) t, q, is_false (may b p.0) h) at e)))
          (test (may b p.0))

  module _ (distinct : (a b : ℕ) → T (may a b) → letter a ≢ letter b) where
    pub pick_of : {w r : List ℕ} {a : ℕ} → Pick may w a r → pick_first may letter w (letter a) ≡ some (a, r)
    pick_of (first {a = a}) = rw (is_true (eqb (letter a) (letter a)) (eqb_refl (letter a)))
    pick_of (later {a = a} {b = b} {w = w} {r = r} ok p) = go (test (eqb (letter b) (letter a))) (pick_of p)
      where
        go : T (eqb (letter b) (letter a)) ⊎ T (not (eqb (letter b) (letter a))) → pick_first may letter w (letter a) ≡ some (a, r) → pick_first may letter (b ∷ w) (letter a) ≡ some (a, b ∷ r)
        go (inl t) q = absurd (distinct b a ok (eqb→eq (letter b) (letter a) t))
        go (inr t) q = rw (is_false (eqb (letter b) (letter a)) t, q, is_true (may b a) ok)
