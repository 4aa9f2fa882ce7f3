-- The edges of the ceiling, one row each, and one theorem over the rows, proved by one computed test; P of some rows beside their ceiling, with terms and without.
use mathlib.Core.Path.{◌≡◌, refl}
use mathlib.Core.Bool.{Bool}
use mathlib.Core.List.{List, [], ◌∷◌, ◌++◌}
use Prim.Native.Nat.{ℕ}
use lib.Dec.{T}
use lib.ListN.{replicate}
use Rattle.profile.specs.Lists.{Mem, all, below, equal?, flat_map}
use Rattle.profile.specs.Prefixes.{prefix_count}
use Rattle.profile.specs.Traces.{independent}
use Rattle.profile.specs.Rules.{prefixes_by}
use Rattle.profile.proofs.Cases.{ab, free}
use Rattle.profile.proofs.Lists.{all_at, equal_test}
use Rattle.terms.specs.Terms.{events, with_terms}
use Rattle.ceilings.specs.Ceilings.{ceiling_of}
use Rattle.ceiling.specs.Ceiling.{bounded_values, bounding}

-- a row: k, masks, log and groups, and the number, place and ceiling that are to come out
pub record Row : Type 0 where
  pub k : ℕ
  pub masks : List ℕ
  pub log : List ℕ
  pub groups : List ℕ
  pub answer : List ℕ

abbrev pub answer_of : Row → List ℕ
answer_of r = bounded_values (bounding r.k r.masks r.log r.groups)

row : ℕ → List ℕ → List ℕ → List ℕ → List ℕ → Row
row k masks w groups a = record { k = k; masks = masks; log = w; groups = groups; answer = a }

-- four letters of which only a and b are independent; sixteen that are all independent, a letter for a group, and three events of each
abbrev four : List ℕ
four = 2 ∷ 1 ∷ 0 ∷ 0 ∷ []

abbrev singles : List ℕ
singles = 1 ∷ 2 ∷ 4 ∷ 8 ∷ 16 ∷ 32 ∷ 64 ∷ 128 ∷ 256 ∷ 512 ∷ 1024 ∷ 2048 ∷ 4096 ∷ 8192 ∷ 16384 ∷ 32768 ∷ []

abbrev three_each : List ℕ
three_each = flat_map (λ a. a ∷ a ∷ a ∷ []) (below 16)

abbrev M7 : List ℕ
M7 = 0 ∷ 1 ∷ 2 ∷ 1 ∷ 0 ∷ 3 ∷ []

pub rows : List Row
unfolding row
rows =
    -- ceilings: Alt on bbaa, the empty log, M7 by acd and b; a letter in two groups, an empty group
    row 2 ab (1 ∷ 1 ∷ 0 ∷ 0 ∷ []) (1 ∷ 2 ∷ []) (0 ∷ 0 ∷ 9 ∷ [])
    ∷ row 2 ab [] (1 ∷ 2 ∷ []) (0 ∷ 0 ∷ 1 ∷ [])
    ∷ row 4 four M7 (13 ∷ 2 ∷ []) (0 ∷ 0 ∷ 15 ∷ [])
    ∷ row 4 four M7 (13 ∷ 14 ∷ []) (0 ∷ 0 ∷ 25 ∷ [])
    ∷ row 4 four M7 (13 ∷ 0 ∷ 2 ∷ []) (0 ∷ 0 ∷ 15 ∷ [])
    ∷ row 2 (0 ∷ 0 ∷ []) (1 ∷ 0 ∷ []) (3 ∷ []) (0 ∷ 0 ∷ 3 ∷ [])
    -- 18: none, seventeen, a bit from k on, a letter missing, two letters that are exchanged one way or the other
    ∷ row 2 ab (1 ∷ 0 ∷ []) [] (18 ∷ 0 ∷ 0 ∷ [])
    ∷ row 2 ab (1 ∷ 0 ∷ []) (replicate 16 1 ++ (2 ∷ [])) (18 ∷ 0 ∷ 0 ∷ [])
    ∷ row 2 ab (1 ∷ 0 ∷ []) (replicate 15 1 ++ (2 ∷ [])) (0 ∷ 0 ∷ 65536 ∷ [])
    ∷ row 2 ab (1 ∷ 0 ∷ []) (1 ∷ 6 ∷ []) (18 ∷ 0 ∷ 0 ∷ [])
    ∷ row 2 ab (1 ∷ 0 ∷ []) (1 ∷ []) (18 ∷ 0 ∷ 0 ∷ [])
    ∷ row 2 (2 ∷ 0 ∷ []) (1 ∷ 0 ∷ []) (3 ∷ []) (18 ∷ 0 ∷ 0 ∷ [])
    ∷ row 2 (0 ∷ 1 ∷ []) (1 ∷ 0 ∷ []) (3 ∷ []) (18 ∷ 0 ∷ 0 ∷ [])
    ∷ row 2 (0 ∷ 1 ∷ []) (1 ∷ 0 ∷ []) (1 ∷ 2 ∷ 3 ∷ []) (18 ∷ 0 ∷ 0 ∷ [])
    -- 19: 4 to the 16 is one above the limit; one event less; 4 × 9 × 7 × 11 × 31 × 151 × 331 is the largest product of numbers up to 4,001 within it; 18 is before 19
    ∷ row 16 (replicate 16 0) three_each singles (19 ∷ 0 ∷ 0 ∷ [])
    ∷ row 16 (replicate 16 0) (0 ∷ 0 ∷ three_each) singles (19 ∷ 0 ∷ 0 ∷ [])
    ∷ row 16 (replicate 16 0) (15 ∷ 15 ∷ flat_map (λ a. a ∷ a ∷ a ∷ []) (below 15)) singles (0 ∷ 0 ∷ 3221225472 ∷ [])
    ∷ row 7 (replicate 7 0) (replicate 3 0 ++ (replicate 8 1 ++ (replicate 6 2 ++ (replicate 10 3 ++ (replicate 30 4 ++ (replicate 150 5 ++ replicate 330 6))))))
    (1 ∷ 2 ∷ 4 ∷ 8 ∷ 16 ∷ 32 ∷ 64 ∷ []) (0 ∷ 0 ∷ 4294967292 ∷ [])
    ∷ row 16 (replicate 16 0) three_each (0 ∷ singles) (18 ∷ 0 ∷ 0 ∷ [])
    -- 2, 4, 7 and 8 are before 18
    ∷ row 0 [] [] [] (2 ∷ 0 ∷ 0 ∷ [])
    ∷ row 17 (replicate 17 0) [] [] (2 ∷ 0 ∷ 0 ∷ [])
    ∷ row 2 (0 ∷ []) [] [] (2 ∷ 0 ∷ 0 ∷ [])
    ∷ row 2 (1 ∷ 0 ∷ []) [] [] (4 ∷ 0 ∷ 0 ∷ [])
    ∷ row 2 ab (replicate 4001 2) [] (7 ∷ 0 ∷ 0 ∷ [])
    ∷ row 2 ab (1 ∷ 0 ∷ 2 ∷ []) [] (8 ∷ 2 ∷ 0 ∷ [])
    ∷ row 1 (0 ∷ []) (replicate 4000 0) (1 ∷ []) (0 ∷ 0 ∷ 4001 ∷ [])
    ∷ []

right? : Row → Bool
right? r = equal? (answer_of r) r.answer

computed : T (all right? rows)
unfolding right? rows row
computed = tt

pub rows_right : (r : Row) → Mem r rows → answer_of r ≡ r.answer
unfolding right?
rows_right r m = (equal_test (answer_of r) r.answer).0 (all_at right? {l = rows} computed m)

-- P beside the ceiling: Alt on bbaa meets it, M7 stays below
pub counts_beside : (prefix_count (independent ab) (λ a. a) 2 (1 ∷ 1 ∷ 0 ∷ 0 ∷ []) ≡ 9) × (prefix_count (independent four) (λ a. a) 4 M7 ≡ 9)
counts_beside = (refl, refl)

-- with terms: bbaa with the first b in another term has 7 prefixes; the ceiling of its log is 9
abbrev terms : List ℕ
terms = 20260901 ∷ 20261218 ∷ 20270104 ∷ 20270326 ∷ []

abbrev days : List ℕ
days = 20260914 ∷ 20270111 ∷ 20270111 ∷ 20270112 ∷ []

pub terms_beside : (prefixes_by (with_terms (free 2 ab) terms) (events (1 ∷ 1 ∷ 0 ∷ 0 ∷ []) days) ≡ 7) × (ceiling_of (λ a. a) (1 ∷ 2 ∷ []) (1 ∷ 1 ∷ 0 ∷ 0 ∷ []) ≡ 9)
terms_beside = (refl, refl)
