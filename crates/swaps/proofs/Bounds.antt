-- No cost of a log of at most 4,000 events is above 16,000,000.
use mathlib.Core.Path.{◌≡◌, refl, ap}
use mathlib.Core.Bool.{Bool, true, false}
use mathlib.Core.Logic.{◌≢◌}
use mathlib.Core.List.{List, [], ◌∷◌, map}
use mathlib.Core.Option.{some}
use Prim.Native.Nat.{ℕ, zero, suc, ◌*◌, ◌≤◌}
use native.Mathlib.Omega.{arith}
use lib.Dec.{T, eqb}
use lib.ListN.{length, length-map}
use Rattle.profile.specs.Automata.{Automaton}
use Rattle.profile.specs.Lists.{first_place}
use Rattle.profile.specs.Prefixes.{IsPrefix, less, marked, more, unmarked}
use Rattle.profile.proofs.Traces.{takes_length}
use Rattle.theory.proofs.Automata.{Lawful}
use Rattle.theory.proofs.Prefixes.{front_length, front_of_prefix, unmarked_suc, unmarked_zero}
use Rattle.swaps.specs.Swaps.{step_cost, taking}
use Rattle.swaps.specs.Closest.{fewest_swaps, pair_swaps, rest_swaps}
use Rattle.swaps.proofs.Pairs.{pair_at}
use Rattle.swaps.proofs.Rests.{rest_at, whole_at, whole_prefix}

never : ℕ → ℕ → Bool
never a b = false

first_le : (p : ℕ → Bool) (l : List ℕ) → first_place p l ≤ length l
first_le p [] = omega arith
first_le p (a ∷ l) = go (p a) refl (first_le p l)
  where
    go : (b : Bool) → p a ≡ b → first_place p l ≤ length l → first_place p (a ∷ l) ≤ suc (length l)
    go true e h = let q : first_place p (a ∷ l) ≡ 0 = rw (e, first_place) in omega (arith, q)
    go false e h = let q : first_place p (a ∷ l) ≡ suc (first_place p l) = rw (e, first_place) in omega (arith, q, h)

unmarked_le : (letter : ℕ → ℕ) (w : List ℕ) (c : ℕ → ℕ) → length (unmarked letter w c) ≤ length w
unmarked_le letter [] c = omega arith
unmarked_le letter (a ∷ w) c = go (c (letter a)) refl (λ d. unmarked_le letter w d)
  where
    go : (n : ℕ) → c (letter a) ≡ n → ((d : ℕ → ℕ) → length (unmarked letter w d) ≤ length w) → length (unmarked letter (a ∷ w) c) ≤ suc (length w)
    go zero e ih = omega (arith, ap length (unmarked_zero never letter a w c e), ih c)
    go (suc n) e ih = omega (arith, ap length (unmarked_suc never letter a w c e), ih (less c (letter a)))

-- "an event taken costs one for each earlier event not yet taken": at most the events of the log
pub step_le : (letter : ℕ → ℕ) (w : List ℕ) (c : ℕ → ℕ) (x : ℕ) → step_cost letter w c x ≤ length w
step_le letter w c x = omega (arith, first_le (λ a. eqb (letter a) x) (unmarked letter w c), unmarked_le letter w c)

pub taking_le : (letter : ℕ → ℕ) (w : List ℕ) (c : ℕ → ℕ) (v : List ℕ) → length w ≤ 4000 → taking letter w c v ≤ 4000 * length v
taking_le letter w c [] h = omega arith
taking_le letter w c (x ∷ v) h = omega (arith, step_le letter w c x, taking_le letter w (more c x) v h, h)

module _ (may : ℕ → ℕ → Bool) (letter : ℕ → ℕ) (M : Automaton) (L : Lawful M) (w : List ℕ) (distinct : (a b : ℕ) → T (may a b) → letter a ≢ letter b) (few : length w ≤ 4000) where
  pub pair_small : (c : ℕ → ℕ) (q n : ℕ) → IsPrefix may letter w c → pair_swaps may letter M w c q ≡ some n → n ≤ 16000000
  pair_small c q n p e =
      let f = pair_at may letter M L w distinct q p e in
      omega (
        arith,
        f.3,
        taking_le letter w (λ x. 0) (map letter f.0) few,
        length-map f.0 letter,
        takes_length may f.1,
        front_length may (front_of_prefix may letter p),
        few,
      )

  pub rest_small : (c : ℕ → ℕ) (q n : ℕ) → rest_swaps may letter M w c q ≡ some n → n ≤ 16000000
  rest_small c q n e =
      let f = rest_at may letter M L w distinct c q e in
      omega (arith, f.5, taking_le letter w c (map letter f.0) few, length-map f.0 letter, takes_length may f.2, unmarked_le letter w c, few)

  pub fewest_small : {n : ℕ} → fewest_swaps may letter M w ≡ some n → n ≤ 16000000
  fewest_small {n} e = let f = whole_at may letter M L w distinct e in pair_small _ f.0 n (whole_prefix may letter M L w distinct) f.2
