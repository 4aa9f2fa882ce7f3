-- Texts and buffers at the edges of the refusals, computed: 11 over the whole text before 12 and 13, these before 9, and 2 before all.
use mathlib.Core.Bool.{Bool, ◌&&◌}
use mathlib.Core.List.{List, [], ◌∷◌, ◌++◌}
use mathlib.Core.Option.{Option, none, some}
use Prim.Native.Nat.{ℕ}
use lib.Dec.{T, eqb}
use lib.ListN.{replicate}
use Rattle.profile.specs.declared.Refusal.{Refusal}
use Rattle.profile.specs.Lists.{all}
use Rattle.profile.specs.Refusals.{refusal_number, refusal_place}
use Rattle.expression.specs.Making.{make_refusal}

-- a call with k letters, a text and a buffer of n numbers; the refusal's number and place, or 0 and 0
record Row : Type 0 where
  k : ℕ
  text : List ℕ
  n : ℕ
  number : ℕ
  place : ℕ

right? : Option Refusal → ℕ → ℕ → Bool
right? none i j = eqb i 0 && eqb j 0
right? (some r) i j = eqb (refusal_number r) i && eqb (refusal_place r) j

-- a in d brackets, and behind it m letters more
nested : ℕ → ℕ → List ℕ
nested d m = replicate d 40 ++ (97 ∷ (replicate d 41 ++ replicate m 97))

rows : List Row
rows =
    record { k = 0; text = []; n = 0; number = 2; place = 0 }
    ∷ record { k = 17; text = 42 ∷ []; n = 0; number = 2; place = 0 }
    ∷ record { k = 1; text = []; n = 0; number = 11; place = 0 }
    ∷ record { k = 16; text = 112 ∷ 113 ∷ []; n = 0; number = 11; place = 1 }
    ∷ record { k = 2; text = replicate 17 40 ++ (41 ∷ []); n = 0; number = 11; place = 17 }
    ∷ record { k = 2; text = nested 17 31 ++ (124 ∷ []); n = 0; number = 11; place = 67 }
    ∷ record { k = 2; text = nested 17 31; n = 0; number = 12; place = 0 }
    ∷ record { k = 2; text = nested 16 31; n = 0; number = 13; place = 0 }
    ∷ record { k = 2; text = nested 16 30; n = 63; number = 9; place = 0 }
    ∷ record { k = 2; text = nested 16 30; n = 64; number = 0; place = 0 }
    ∷ record { k = 1; text = 97 ∷ replicate 100 42; n = 2; number = 0; place = 0 }
    ∷ []

edges : T (all (λ (r : Row). right? (make_refusal r.k r.text r.n) r.number r.place) rows)
unfolding right? nested rows
edges = tt
