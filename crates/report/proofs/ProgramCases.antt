-- What is printed for the file that document 01 prints, and for files like it: one theorem over the rows.
use mathlib.Core.Path.{◌≡◌}
use mathlib.Core.Bool.{Bool}
use mathlib.Core.List.{List, [], ◌∷◌, ◌++◌}
use Prim.Native.Nat.{ℕ, ◌+◌}
use lib.Dec.{T}
use lib.ListN.{length, replicate, set}
use Rattle.profile.specs.Lists.{Mem, all, equal?}
use Rattle.profile.proofs.Lists.{all_at, equal_test}
use Rattle.report.specs.Report.{order_word, prefixes_word, printed, refused_word, verdict_word}

-- "Input": the file of Alt with the log bbaa
alt_file : List ℕ
alt_file =
    2 ∷ 0 ∷ 1 ∷ 0 ∷ 2 ∷ 0 ∷ 0 ∷ 0 ∷ 0 ∷ 0 ∷ 0 ∷ 0 ∷ 0 ∷ 0 ∷ 0 ∷ 0 ∷ 1 ∷ 0 ∷ 0 ∷ 0
    ∷ 1 ∷ 1 ∷ 0 ∷ 0 ∷ 2 ∷ 2 ∷ 0 ∷ 4 ∷ 24 ∷ 0 ∷ 20 ∷ 0 ∷ 4 ∷ 0 ∷ 0 ∷ 0 ∷ 1 ∷ 0 ∷ 0 ∷ 0 ∷ []

-- a profile with three letters and 32 states, whose final states 9, 17 and 30 stand in the three high bytes of the final set: letter 0 leads from state
-- 0 to 9, 1 from 9 to 17, 2 from 17 to 30; 0 and 1 are independent. The file of a log of at most 100 letters
wide_file : List ℕ → List ℕ
wide_file w =
    (2 ∷ 0 ∷ 1 ∷ 0 ∷ 0 ∷ 0 ∷ 0 ∷ 2 ∷ 0 ∷ 0 ∷ replicate 108 0) ++ ((0 ∷ 0 ∷ 2 ∷ 0 ∷ replicate 96 0) ++ ((0 ∷ 0 ∷ 0 ∷ 64 ∷ replicate 168 0)
    ++ (w ++ (3 ∷ 32 ∷ 0 ∷ length w ∷ (134 + length w) ∷ 1 ∷ (128 + length w) ∷ 1 ∷ length w ∷ 0 ∷ 0 ∷ 0 ∷ 0 ∷ 2 ∷ 2 ∷ 64 ∷ []))))

pub record ProgramCase : Type 0 where
  pub input : List ℕ
  pub text : List ℕ

case : List ℕ → List ℕ → ProgramCase
case f t = record { input = f; text = t }

-- "exactly three lines … `verdict 1`, `prefixes 9`, `order 0 1 0 1`"; the empty log; the log bbab; files refused by 1 and by 8; of the wide profile the
-- logs a, ba, bac and b, whose paths end in each of the three high bytes of the final set and in none
pub programs : List ProgramCase
unfolding alt_file case wide_file
programs =
    case alt_file (verdict_word ++ (49 ∷ 10 ∷ prefixes_word) ++ (57 ∷ 10 ∷ order_word) ++ (32 ∷ 48 ∷ 32 ∷ 49 ∷ 32 ∷ 48 ∷ 32 ∷ 49 ∷ 10 ∷ []))
    ∷ case (set (set alt_file 32 0) 27 0) (verdict_word ++ (49 ∷ 10 ∷ prefixes_word) ++ (49 ∷ 10 ∷ order_word) ++ (10 ∷ []))
    ∷ case (set alt_file 23 1) (verdict_word ++ (48 ∷ 10 ∷ prefixes_word) ++ (56 ∷ 10 ∷ []))
    ∷ case [] (refused_word ++ (49 ∷ 10 ∷ []))
    ∷ case (set alt_file 22 2) (refused_word ++ (56 ∷ 10 ∷ []))
    ∷ case (wide_file (0 ∷ [])) (verdict_word ++ (49 ∷ 10 ∷ prefixes_word) ++ (50 ∷ 10 ∷ order_word) ++ (32 ∷ 48 ∷ 10 ∷ []))
    ∷ case (wide_file (1 ∷ 0 ∷ [])) (verdict_word ++ (49 ∷ 10 ∷ prefixes_word) ++ (52 ∷ 10 ∷ order_word) ++ (32 ∷ 48 ∷ 32 ∷ 49 ∷ 10 ∷ []))
    ∷ case (wide_file (1 ∷ 0 ∷ 2 ∷ [])) (verdict_word ++ (49 ∷ 10 ∷ prefixes_word) ++ (53 ∷ 10 ∷ order_word) ++ (32 ∷ 48 ∷ 32 ∷ 49 ∷ 32 ∷ 50 ∷ 10 ∷ []))
    ∷ case (wide_file (1 ∷ [])) (verdict_word ++ (48 ∷ 10 ∷ prefixes_word) ++ (50 ∷ 10 ∷ []))
    ∷ []

right? : ProgramCase → Bool
right? c = equal? (printed c.input) c.text

programs_computed : T (all right? programs)
unfolding right? programs alt_file case wide_file
programs_computed = tt

-- for each input of the list the text of its row is printed
pub printed_as : (c : ProgramCase) → Mem c programs → printed c.input ≡ c.text
unfolding right?
printed_as c m = (equal_test (printed c.input) c.text).0 (all_at right? programs_computed m)
