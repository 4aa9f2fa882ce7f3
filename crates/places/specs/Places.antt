-- Where the events of each letter stand in a log, where events are letters.
use Rattle.std.specs.Prelude.{true, false, List, [], ◌∷◌, map, ℕ, suc, eqb, length, get_or}
use Rattle.profile.specs.Lists.{below, flat_map}

-- the places of letter x in w, counted from i, and after them the place behind the last event
abbrev pub places_from : ℕ → ℕ → List ℕ → List ℕ
places_from i x [] = i ∷ []
places_from i x (a ∷ w) = elim (eqb a x) [ true ↦ i ∷ places_from (suc i) x w | false ↦ places_from (suc i) x w ]

abbrev pub places_of : List ℕ → ℕ → List ℕ
places_of w x = places_from 0 x w

-- the places of the letters below k, one letter after the other; where those of letter x begin
abbrev pub place_table : ℕ → List ℕ → List ℕ
place_table k w = flat_map (places_of w) (below k)

abbrev pub place_start : List ℕ → ℕ → ℕ
place_start w x = length (place_table x w)

-- the place of the next event of each letter below k, after the first c x events of each letter x
abbrev pub next_places : ℕ → List ℕ → (ℕ → ℕ) → List ℕ
next_places k w c = map (λ x. get_or (places_of w x) (c x) 0) (below k)
