-- Lists: the words that the other definitions use.
use Rattle.std.specs.Prelude.{Bool, true, false, ◌&&◌, ◌||◌, ℕ, zero, suc, eqb}
use mathlib.Core.List.{List, [], ◌∷◌, ◌++◌, Memᴰ}

module _ {A : Type 0} where
  -- the element stands in the list
  abbrev pub Mem : A → List A → Type 0
  Mem = Memᴰ

  -- every element passes the test
  abbrev pub all : (A → Bool) → List A → Bool
  all p [] = true
  all p (a ∷ l) = p a && all p l

  -- some element passes the test
  abbrev pub any : (A → Bool) → List A → Bool
  any p [] = false
  any p (a ∷ l) = p a || any p l

  -- the elements that pass the test, in their order
  abbrev pub filter : (A → Bool) → List A → List A
  filter p [] = []
  filter p (a ∷ l) = elim (p a) [ true ↦ a ∷ filter p l | false ↦ filter p l ]

  -- the place, from 0, of the first element that passes the test; the length where none does
  abbrev pub first_place : (A → Bool) → List A → ℕ
  first_place p [] = 0
  first_place p (a ∷ l) = elim (p a) [ true ↦ 0 | false ↦ suc (first_place p l) ]

-- the lists f a, one after the other
module _ {A B : Type 0} where
  abbrev pub flat_map : (A → List B) → List A → List B
  flat_map f [] = []
  flat_map f (a ∷ l) = f a ++ flat_map f l

-- the n numbers from a on; the numbers below k
abbrev pub range : ℕ → ℕ → List ℕ
range a zero = []
range a (suc n) = a ∷ range (suc a) n

abbrev pub below : ℕ → List ℕ
below k = range 0 k

-- the two lists are equal
abbrev pub equal? : List ℕ → List ℕ → Bool
equal? [] [] = true
equal? [] (b ∷ v) = false
equal? (a ∷ u) [] = false
equal? (a ∷ u) (b ∷ v) = eqb a b && equal? u v
