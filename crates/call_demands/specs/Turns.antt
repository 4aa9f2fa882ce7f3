-- The order of the refusals. Document 01: "The lowest number that applies is given." Document 02 puts the later ones between: 11, 12 and 13 "follow the check of k
-- and precede 9", 14, 15 and 16 "follow 8 and precede 9", 17 "after 10", 18 and 19 "both follow 8", 20 "after 6", 21 "in the place of 6", 22 "after 10". Two
-- refusals that no call gives both stand in either order.
use Rattle.std.specs.Prelude.{Bool, List, [], ◌∷◌, map, ℕ, eqb}
use Rattle.profile.specs.Lists.{first_place}
use Rattle.profile.specs.Refusals.{refusal_number}
use Rattle.profile.specs.declared.Refusal.{Refusal}

abbrev pub in_turn : List ℕ
in_turn = 1 ∷ 2 ∷ 11 ∷ 12 ∷ 13 ∷ 3 ∷ 4 ∷ 6 ∷ 21 ∷ 20 ∷ 7 ∷ 8 ∷ 14 ∷ 15 ∷ 16 ∷ 18 ∷ 19 ∷ 9 ∷ 10 ∷ 17 ∷ 22 ∷ []

-- the place of a refusal there
abbrev pub turn : Refusal → ℕ
turn r = first_place (eqb (refusal_number r)) in_turn

-- those of a call's refusals, and their numbers
abbrev pub turns : List (Bool × Refusal) → List ℕ
turns l = map (λ (c : Bool × Refusal). turn c.1) l

abbrev pub numbers : List (Bool × Refusal) → List ℕ
numbers l = map (λ (c : Bool × Refusal). refusal_number c.1) l
