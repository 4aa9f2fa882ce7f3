-- Worked examples, computed: the place of 11, depth, letters, and the profiles made.
use mathlib.Core.Path.{◌≡◌, refl}
use mathlib.Core.List.{List, [], ◌∷◌, ◌++◌}
use mathlib.Core.Option.{Option, none, some}
use Prim.Native.Nat.{ℕ}
use lib.Dec.{T, eqb}
use lib.ListN.{replicate}
use Rattle.profile.specs.Lists.{all}
use Rattle.expressions.specs.Expressions.{Expr, choice, leaf, seq, size, star}
use Rattle.expressions.specs.Positions.{finals_of, moves_of}
use Rattle.expressions.specs.Texts.{Typed, expression, t_bracket, t_choice, t_factor, t_follow, t_letter, t_sequence, t_star}
use Rattle.expressions.specs.Passes.{deepest, fault, letters_of}

-- a text with the place of 11; 1000 stands for none
record Text : Type 0 where
  k : ℕ
  bytes : List ℕ
  place : ℕ

place_or : Option ℕ → ℕ
place_or none = 1000
place_or (some i) = i

-- in order: the empty text, (), a|, |a, *a, a), (a, ab with k = 1, a**, (ab)*, a(b|a)*, seventeen ( and then )
rows : List Text
rows =
    record { k = 2; bytes = []; place = 0 }
    ∷ record { k = 2; bytes = 40 ∷ 41 ∷ []; place = 1 }
    ∷ record { k = 2; bytes = 97 ∷ 124 ∷ []; place = 2 }
    ∷ record { k = 2; bytes = 124 ∷ 97 ∷ []; place = 0 }
    ∷ record { k = 2; bytes = 42 ∷ 97 ∷ []; place = 0 }
    ∷ record { k = 2; bytes = 97 ∷ 41 ∷ []; place = 1 }
    ∷ record { k = 2; bytes = 40 ∷ 97 ∷ []; place = 2 }
    ∷ record { k = 1; bytes = 97 ∷ 98 ∷ []; place = 1 }
    ∷ record { k = 1; bytes = 97 ∷ 42 ∷ 42 ∷ []; place = 1000 }
    ∷ record { k = 2; bytes = 40 ∷ 97 ∷ 98 ∷ 41 ∷ 42 ∷ []; place = 1000 }
    ∷ record { k = 2; bytes = 97 ∷ 40 ∷ 98 ∷ 124 ∷ 97 ∷ 41 ∷ 42 ∷ []; place = 1000 }
    ∷ record { k = 2; bytes = replicate 17 40 ++ (41 ∷ []); place = 17 }
    ∷ []

places_right : T (all (λ r. eqb (place_or (fault r.k r.bytes)) r.place) rows)
unfolding rows place_or
places_right = tt

-- seventeen brackets around a letter are 17 deep; the letters of (ab)*
deep : (deepest 0 (replicate 17 40 ++ (97 ∷ replicate 17 41)) ≡ 17) × (letters_of 2 (40 ∷ 97 ∷ 98 ∷ 41 ∷ 42 ∷ []) ≡ 0 ∷ 1 ∷ [])
deep = (refl, refl)

-- Alt, typed: (ab)* and its profile
alt : Expr
alt = star (seq (leaf 0) (leaf 1))

alt_typed : Typed 2 expression (40 ∷ 97 ∷ 98 ∷ 41 ∷ 42 ∷ []) alt
unfolding alt
alt_typed = t_sequence (t_factor (t_star (t_bracket (t_sequence (t_follow (t_letter tt) (t_factor (t_letter tt)))))))

alt_made : (moves_of 2 alt ≡ 2 ∷ 0 ∷ 0 ∷ 4 ∷ 2 ∷ 0 ∷ []) × (finals_of alt ≡ 5) × (size alt ≡ 2)
unfolding alt
alt_made = (refl, refl, refl)

-- a(b|a)*: the letter a is typed twice, so two states are reached by it; by position, not by language
twice : Expr
twice = seq (leaf 0) (star (choice (leaf 1) (leaf 0)))

twice_typed : Typed 2 expression (97 ∷ 40 ∷ 98 ∷ 124 ∷ 97 ∷ 41 ∷ 42 ∷ []) twice
unfolding twice
twice_typed = t_sequence (t_follow (t_letter tt) (t_factor (t_star (t_bracket (t_choice (t_factor (t_letter tt)) (t_sequence (t_factor (t_letter tt))))))))

twice_made : (moves_of 2 twice ≡ 2 ∷ 0 ∷ 8 ∷ 4 ∷ 8 ∷ 4 ∷ 8 ∷ 4 ∷ []) × (finals_of twice ≡ 14)
unfolding twice
twice_made = (refl, refl)

-- "x** = x*"
stars_same : moves_of 1 (star (star (leaf 0))) ≡ moves_of 1 (star (leaf 0))
stars_same = refl
