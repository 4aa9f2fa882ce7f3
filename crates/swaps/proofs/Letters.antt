-- Swaps and costs of events are those of their letters.
use mathlib.Core.Path.{◌≡◌, refl, sym, ◌∙◌, ap, ap₂}
use mathlib.Core.Bool.{Bool, true, false}
use mathlib.Core.List.{List, [], ◌∷◌, map}
use Prim.Native.Nat.{ℕ, zero, suc}
use lib.Dec.{T, eqb, ltb}
use Rattle.profile.specs.Lists.{first_place}
use Rattle.profile.specs.Prefixes.{less, more, unmarked}
use Rattle.profile.specs.Traces.{letters_below}
use Rattle.theory.proofs.Prefixes.{unmarked_suc, unmarked_zero}
use Rattle.profile.proofs.Lists.{both, fst_of, snd_of}
use Rattle.swaps.specs.Swaps.{place_of, recorded, step_cost, swaps, turned}

never : ℕ → ℕ → Bool
never a b = false

module _ (letter : ℕ → ℕ) where
  pub letters_under : (k : ℕ) (w : List ℕ) → T (letters_below (λ a. a) k (map letter w)) → T (letters_below letter k w)
  letters_under k [] h = tt
  letters_under k (a ∷ w) h =
      both (ltb (letter a) k) (letters_below letter k w) (fst_of (ltb (letter a) k) (letters_below (λ a. a) k (map letter w)) h)
      (letters_under k w (snd_of (ltb (letter a) k) (letters_below (λ a. a) k (map letter w)) h))

  unmarked_letters : (w : List ℕ) (c : ℕ → ℕ) → map letter (unmarked letter w c) ≡ unmarked (λ a. a) (map letter w) c
  unmarked_letters [] c = refl
  unmarked_letters (a ∷ w) c = go (c (letter a)) refl (unmarked_letters w)
    where
      go : (n : ℕ) → c (letter a) ≡ n → ((c : ℕ → ℕ) → map letter (unmarked letter w c) ≡ unmarked (λ a. a) (map letter w) c)
          → map letter (unmarked letter (a ∷ w) c) ≡ unmarked (λ a. a) (letter a ∷ map letter w) c
      go zero e ih = ap (map letter) (unmarked_zero never letter a w c e) ∙ ap (◌∷◌ (letter a)) (ih c) ∙ sym (unmarked_zero never (λ a. a) (letter a) (map letter w) c e)
      go (suc n) e ih = ap (map letter) (unmarked_suc never letter a w c e) ∙ ih (less c (letter a)) ∙ sym (unmarked_suc never (λ a. a) (letter a) (map letter w) c e)

  first_letters : (x : ℕ) (l : List ℕ) → first_place (λ a. eqb (letter a) x) l ≡ first_place (λ a. eqb a x) (map letter l)
  first_letters x [] = refl
  first_letters x (a ∷ l) = go (eqb (letter a) x) refl (first_letters x l)
    where
      go : (b : Bool) → eqb (letter a) x ≡ b → first_place (λ a. eqb (letter a) x) l ≡ first_place (λ a. eqb a x) (map letter l)
          → first_place (λ a. eqb (letter a) x) (a ∷ l) ≡ first_place (λ a. eqb a x) (letter a ∷ map letter l)
      go true e ih = rw (e, first_place)
      go false e ih = rw (e, first_place) (ap suc ih)

  pub step_letters : (w : List ℕ) (c : ℕ → ℕ) (x : ℕ) → step_cost letter w c x ≡ step_cost (λ a. a) (map letter w) c x
  step_letters w c x = first_letters x (unmarked letter w c) ∙ ap (first_place (λ a. eqb a x)) (unmarked_letters w c)

  place_letters : (w : List ℕ) (x n : ℕ) → place_of letter w x n ≡ place_of (λ a. a) (map letter w) x n
  place_letters [] x n = refl
  place_letters (a ∷ w) x n = go (eqb (letter a) x) refl n (place_letters w x)
    where
      go : (b : Bool) → eqb (letter a) x ≡ b → (n : ℕ) → ((n : ℕ) → place_of letter w x n ≡ place_of (λ a. a) (map letter w) x n)
          → place_of letter (a ∷ w) x n ≡ place_of (λ a. a) (letter a ∷ map letter w) x n
      go true e zero ih = rw (e, place_of)
      go true e (suc n) ih = rw (e, place_of) (ap suc (ih n))
      go false e n ih = rw (e, place_of) (ap suc (ih n))

  pub swaps_letters : (w v : List ℕ) → swaps letter w v ≡ swaps (λ a. a) (map letter w) v
  swaps_letters w v = ap turned (go v (λ x. 0))
    where
      go : (v : List ℕ) (c : ℕ → ℕ) → recorded letter w c v ≡ recorded (λ a. a) (map letter w) c v
      go [] c = refl
      go (x ∷ v) c = ap₂ ◌∷◌ (place_letters w x (c x)) (go v (more c x))
