-- Logs with pairs added, computed: verdict 0 becomes 1, an order becomes earlier, and one pair of two suffices.
use mathlib.Core.Path.{◌≡◌, refl}
use mathlib.Core.List.{List, [], ◌∷◌}
use mathlib.Core.Option.{Option, none, some}
use Prim.Native.Nat.{ℕ}
use Rattle.profile.specs.Automata.{Profile}
use Rattle.profile.proofs.Cases.{ab, alt, free}
use Rattle.theory.proofs.Demands.{looks_of, order_of, prefixes_of}
use Rattle.generous.specs.Generous.{with_masks}

-- no pair; ba may become ab; `ab` has both ways
abbrev nothing : List ℕ
nothing = 0 ∷ 0 ∷ []

abbrev one_way : List ℕ
one_way = 0 ∷ 1 ∷ []

-- order, P and looks
abbrev answer : Profile → List ℕ → Option (List ℕ) × ℕ × ℕ
answer p w = (order_of p w, prefixes_of p w, looks_of p w)

-- Alt on ba (M4): verdict 0 with no pair, 1 with bit a of mask b, and so with both
pub good_later : (answer (alt nothing) (1 ∷ 0 ∷ []) ≡ (none, 3, 2)) × (answer (with_masks (alt nothing) one_way) (1 ∷ 0 ∷ []) ≡ (some (0 ∷ 1 ∷ []), 4, 4))
    × (answer (with_masks (alt nothing) ab) (1 ∷ 0 ∷ []) ≡ (some (0 ∷ 1 ∷ []), 4, 4))
good_later = (refl, refl, refl)

-- the other way alone changes nothing: ba may not become ab
pub bad_still : answer (with_masks (alt nothing) (2 ∷ 0 ∷ [])) (1 ∷ 0 ∷ []) ≡ (none, 3, 2)
bad_still = refl

-- every log is accepted: bab is its own order with no pair, and abb with both
pub earlier_order : (answer (free 2 nothing) (1 ∷ 0 ∷ 1 ∷ []) ≡ (some (1 ∷ 0 ∷ 1 ∷ []), 4, 3))
    × (answer (with_masks (free 2 nothing) ab) (1 ∷ 0 ∷ 1 ∷ []) ≡ (some (0 ∷ 1 ∷ 1 ∷ []), 6, 7))
earlier_order = (refl, refl)
