-- Worked examples, computed. Nested loans: a lends a set, b takes it back, a set may hold sets; the logs are a b, a S b and S S for each such log S.
use mathlib.Core.Path.{◌≡◌, refl}
use mathlib.Core.Bool.{Bool, true, false, ◌&&◌}
use mathlib.Core.List.{List, [], ◌∷◌}
use Prim.Native.Nat.{ℕ}
use lib.Dec.{T, eqb}
use Rattle.profile.specs.Lists.{all}
use Rattle.profile.specs.Traces.{independent}
use Rattle.profile.specs.Prefixes.{looks, prefix_count}
use Rattle.grammars.specs.Grammars.{Derives, bad_rules, grammar_of, leaf, letter_rule, names_rule, node}
use Rattle.grammars.specs.Sets.{derivable?}

-- name 0 is such a log, 1 is what lends, 2 what takes back, 3 a log with what takes it back behind it
abbrev pub nested : List ℕ
nested = names_rule 0 1 2 ∷ names_rule 0 1 3 ∷ names_rule 0 0 0 ∷ names_rule 3 0 2 ∷ letter_rule 1 0 ∷ letter_rule 2 1 ∷ []

-- the rules as a caller writes them
numbers : nested ≡ 4114 ∷ 4115 ∷ 4096 ∷ 4866 ∷ 256 ∷ 513 ∷ []
numbers = refl

-- a log under masks with the verdict, P and looks
record Row : Type 0 where
  masks : List ℕ
  log : List ℕ
  verdict : Bool
  prefixes : ℕ
  looks : ℕ

both_ways : List ℕ
both_ways = 2 ∷ 1 ∷ []

apart : List ℕ
apart = 0 ∷ 0 ∷ []

-- bit 0 of mask 1: b a may become a b; bit 1 of mask 0: a b may become b a
forth : List ℕ
forth = 0 ∷ 1 ∷ []

back : List ℕ
back = 2 ∷ 0 ∷ []

-- in order: the empty log; ab; ba with nothing independent, with both ways, with each way alone; bbaa; aab; abab, aabb, abba with nothing independent
rows : List Row
rows =
    record { masks = both_ways; log = []; verdict = false; prefixes = 1; looks = 0 }
    ∷ record { masks = both_ways; log = 0 ∷ 1 ∷ []; verdict = true; prefixes = 4; looks = 4 }
    ∷ record { masks = apart; log = 1 ∷ 0 ∷ []; verdict = false; prefixes = 3; looks = 2 }
    ∷ record { masks = both_ways; log = 1 ∷ 0 ∷ []; verdict = true; prefixes = 4; looks = 4 }
    ∷ record { masks = forth; log = 1 ∷ 0 ∷ []; verdict = true; prefixes = 4; looks = 4 }
    ∷ record { masks = back; log = 1 ∷ 0 ∷ []; verdict = false; prefixes = 3; looks = 2 }
    ∷ record { masks = both_ways; log = 1 ∷ 1 ∷ 0 ∷ 0 ∷ []; verdict = true; prefixes = 9; looks = 12 }
    ∷ record { masks = both_ways; log = 0 ∷ 0 ∷ 1 ∷ []; verdict = false; prefixes = 6; looks = 7 }
    ∷ record { masks = apart; log = 0 ∷ 1 ∷ 0 ∷ 1 ∷ []; verdict = true; prefixes = 5; looks = 4 }
    ∷ record { masks = apart; log = 0 ∷ 0 ∷ 1 ∷ 1 ∷ []; verdict = true; prefixes = 5; looks = 4 }
    ∷ record { masks = apart; log = 0 ∷ 1 ∷ 1 ∷ 0 ∷ []; verdict = false; prefixes = 5; looks = 4 }
    ∷ []

same_bool : Bool → Bool → Bool
same_bool true true = true
same_bool true false = false
same_bool false true = false
same_bool false false = true

right : Row → Bool
right r =
    same_bool (derivable? nested (independent r.masks) r.log) r.verdict
    && (eqb (prefix_count (independent r.masks) (λ a. a) 2 r.log) r.prefixes && eqb (looks (independent r.masks) (λ a. a) 2 r.log) r.looks)

rows_right : T (all right rows)
unfolding rows right same_bool both_ways apart forth back
rows_right = tt

-- aabb by its derivation
aabb : Derives (grammar_of nested) 0 (0 ∷ 0 ∷ 1 ∷ 1 ∷ [])
aabb = node {l = 1} {r = 3} {u = 0 ∷ []} {v = 0 ∷ 1 ∷ 1 ∷ []} tt (leaf tt)
    (node {l = 0} {r = 2} {u = 0 ∷ 1 ∷ []} {v = 1 ∷ []} tt (node {l = 1} {r = 2} {u = 0 ∷ []} {v = 1 ∷ []} tt (leaf tt) (leaf tt)) (leaf tt))

-- 21, in order: right; no names; 17 names; a name, a second name, a letter out of range; a rule of neither kind
refused : T (all (λ (b : Bool). b)
    (same_bool (bad_rules 2 4 nested) false
    ∷ same_bool (bad_rules 2 0 nested) true
    ∷ same_bool (bad_rules 2 17 nested) true
    ∷ same_bool (bad_rules 2 3 nested) true
    ∷ same_bool (bad_rules 2 4 (names_rule 0 1 4 ∷ [])) true
    ∷ same_bool (bad_rules 2 4 (letter_rule 0 2 ∷ [])) true
    ∷ same_bool (bad_rules 2 4 (8192 ∷ [])) true
    ∷ same_bool (bad_rules 2 1 []) false
    ∷ []))
unfolding same_bool
refused = tt
