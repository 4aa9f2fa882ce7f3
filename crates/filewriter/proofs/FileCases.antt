-- The log file that document 01 prints, and the edges of a file's refusals: one theorem over each list of rows.
use mathlib.Core.Path.{◌≡◌, refl}
use mathlib.Core.Bool.{Bool, ◌&&◌}
use mathlib.Core.List.{List, [], ◌∷◌, ◌++◌}
use Prim.Native.Nat.{ℕ}
use lib.Dec.{T}
use lib.ListN.{drop, replicate, set, take}
use Rattle.profile.specs.Automata.{Profile}
use Rattle.profile.specs.Lists.{Mem, all, equal?}
use Rattle.profile.proofs.Cases.{ab, alt}
use Rattle.profile.proofs.Edges.{told}
use Rattle.profile.proofs.Lists.{all_at, equal_test, fst_of, snd_of}
use Rattle.logfile.specs.Files.{file_profile, log_part_of, read_refusal}
use Rattle.filewriter.specs.Written.{file_bytes}

-- document 01, "Program": the file of Alt with the log bbaa
pub alt_file : List ℕ
alt_file =
    2 ∷ 0 ∷ 1 ∷ 0 ∷ 2 ∷ 0 ∷ 0 ∷ 0 ∷ 0 ∷ 0 ∷ 0 ∷ 0 ∷ 0 ∷ 0 ∷ 0 ∷ 0 ∷ 1 ∷ 0 ∷ 0 ∷ 0
    ∷ 1 ∷ 1 ∷ 0 ∷ 0 ∷ 2 ∷ 2 ∷ 0 ∷ 4 ∷ 24 ∷ 0 ∷ 20 ∷ 0 ∷ 4 ∷ 0 ∷ 0 ∷ 0 ∷ 1 ∷ 0 ∷ 0 ∷ 0 ∷ []

-- its log
pub bbaa : List ℕ
bbaa = 1 ∷ 1 ∷ 0 ∷ 0 ∷ []

pub alt_written : file_bytes (alt ab) bbaa ≡ alt_file
unfolding alt_file bbaa
alt_written = refl

-- a file of Alt with another log and its trailer
pub alt_with : List ℕ → List ℕ → List ℕ
unfolding alt_file
alt_with w t = take 20 alt_file ++ (w ++ t)

-- 300 letters: 44 in trailer byte 3, 1 in byte 10
abbrev pub trailer_300 : List ℕ
trailer_300 = 2 ∷ 2 ∷ 0 ∷ 44 ∷ 64 ∷ 1 ∷ 60 ∷ 1 ∷ 44 ∷ 1 ∷ 1 ∷ 0 ∷ 1 ∷ 0 ∷ 0 ∷ 0 ∷ []

pub long_written : file_bytes (alt ab) (replicate 300 0) ≡ alt_with (replicate 300 0) trailer_300
unfolding alt_with alt_file
long_written = refl

-- a profile with more states than letters and finals 9, 17 and 30, in the three high bytes of the final set: letter 0 leads from state 0 to 9, 1 from 9
-- to 17, 2 from 17 to 30; 0 and 1 are independent. Its 96 moves take 384 bytes, so two distances have a high byte
abbrev pub wide_moves : List ℕ
wide_moves = 512 ∷ (replicate 27 0 ++ (131072 ∷ (replicate 24 0 ++ (1073741824 ∷ replicate 42 0))))

abbrev pub wide : Profile
wide = record { k = 3; masks = 2 ∷ 1 ∷ 0 ∷ []; s = 32; start = 0; finals = 1073873408; moves = wide_moves }

pub wide_file : List ℕ
wide_file =
    (2 ∷ 0 ∷ 1 ∷ 0 ∷ 0 ∷ 0 ∷ 0 ∷ 2 ∷ 0 ∷ 0 ∷ replicate 108 0) ++ ((0 ∷ 0 ∷ 2 ∷ 0 ∷ replicate 96 0) ++ ((0 ∷ 0 ∷ 0 ∷ 64 ∷ replicate 168 0)
    ++ (1 ∷ 0 ∷ 2 ∷ 3 ∷ 32 ∷ 0 ∷ 3 ∷ 137 ∷ 1 ∷ 131 ∷ 1 ∷ 3 ∷ 0 ∷ 0 ∷ 0 ∷ 0 ∷ 2 ∷ 2 ∷ 64 ∷ [])))

-- its log
pub bac : List ℕ
bac = 1 ∷ 0 ∷ 2 ∷ []

pub wide_written : file_bytes wide bac ≡ wide_file
unfolding wide_file bac
wide_written = refl

pub wide_read : file_profile wide_file ≡ wide
unfolding wide_file
wide_read = refl

pub record FileCase : Type 0 where
  pub file : List ℕ
  pub places : ℕ
  pub numbers : ℕ
  pub answer : List ℕ
  pub part : List ℕ

case : List ℕ → ℕ → ℕ → List ℕ → List ℕ → FileCase
case f a b r w = record { file = f; places = a; numbers = b; answer = r; part = w }

-- number and place of the refusal, nothing where there is none; and the log part
pub files : List FileCase
unfolding alt_file alt_with bac bbaa case wide_file
files =
    case alt_file 2 4 [] bbaa
    ∷ case alt_file 1 4 (9 ∷ 0 ∷ []) bbaa
    ∷ case alt_file 2 3 (9 ∷ 0 ∷ []) bbaa
    ∷ case (7 ∷ 7 ∷ alt_file) 2 4 [] bbaa
    ∷ case (drop 25 alt_file) 0 0 (1 ∷ 0 ∷ []) []
    ∷ case (drop 24 alt_file) 0 0 (3 ∷ 0 ∷ []) []
    ∷ case (drop 1 alt_file) 2 4 (3 ∷ 0 ∷ []) []
    ∷ case (set alt_file 24 0) 2 4 (2 ∷ 0 ∷ []) []
    ∷ case (set alt_file 25 33) 2 4 (2 ∷ 0 ∷ []) []
    ∷ case (set alt_file 26 2) 2 4 (2 ∷ 0 ∷ []) []
    ∷ case (set alt_file 34 1) 2 4 (3 ∷ 0 ∷ []) []
    ∷ case (set alt_file 35 1) 2 4 (2 ∷ 0 ∷ []) []
    ∷ case (set alt_file 28 3) 2 4 (3 ∷ 0 ∷ []) []
    ∷ case (set alt_file 28 25) 2 4 (3 ∷ 0 ∷ []) []
    ∷ case (set alt_file 30 15) 2 4 (3 ∷ 0 ∷ []) []
    ∷ case (set alt_file 32 3) 2 4 (3 ∷ 0 ∷ []) []
    ∷ case (set alt_file 32 5) 2 4 [] (0 ∷ 1 ∷ 1 ∷ 0 ∷ [])
    ∷ case (set (set alt_file 32 0) 27 0) 2 4 [] []
    ∷ case (set alt_file 32 24) 2 4 (8 ∷ 0 ∷ []) []
    ∷ case (set alt_file 0 1) 2 4 (4 ∷ 0 ∷ []) []
    ∷ case (set alt_file 1 1) 2 4 (4 ∷ 0 ∷ []) []
    ∷ case (set alt_file 2 0) 2 4 [] bbaa
    ∷ case (set alt_file 36 4) 2 4 (6 ∷ 0 ∷ []) []
    ∷ case (set alt_file 7 1) 2 4 (6 ∷ 0 ∷ []) []
    ∷ case (set alt_file 22 2) 0 0 (8 ∷ 2 ∷ []) []
    ∷ case (alt_with (replicate 300 0) trailer_300) 2 4 [] (replicate 300 0)
    ∷ case (alt_with (replicate 4000 0) (2 ∷ 2 ∷ 0 ∷ 160 ∷ 180 ∷ 15 ∷ 176 ∷ 15 ∷ 160 ∷ 15 ∷ 15 ∷ 0 ∷ 1 ∷ 0 ∷ 0 ∷ 0 ∷ [])) 2 4 [] (replicate 4000 0)
    ∷ case (alt_with (replicate 4001 2) (2 ∷ 2 ∷ 0 ∷ 161 ∷ 181 ∷ 15 ∷ 177 ∷ 15 ∷ 161 ∷ 15 ∷ 15 ∷ 0 ∷ 1 ∷ 0 ∷ 0 ∷ 0 ∷ [])) 2 4 (7 ∷ 0 ∷ []) []
    ∷ case wide_file 3 96 [] bac
    ∷ case wide_file 2 96 (9 ∷ 0 ∷ []) bac
    ∷ case wide_file 3 95 (9 ∷ 0 ∷ []) bac
    ∷ case (set wide_file 400 0) 3 96 (3 ∷ 0 ∷ []) []
    ∷ case (set wide_file 398 2) 3 96 (3 ∷ 0 ∷ []) []
    ∷ case (set wide_file 394 31) 3 96 [] bac
    ∷ case (set wide_file 394 30) 3 96 (6 ∷ 0 ∷ []) []
    ∷ case (set (set wide_file 394 31) 408 128) 3 96 (6 ∷ 0 ∷ []) []
    ∷ []

abbrev pub answer_of : FileCase → List ℕ
answer_of c = told (read_refusal c.file c.places c.numbers)

answered? : FileCase → Bool
answered? c = equal? (answer_of c) c.answer && equal? (log_part_of c.file) c.part

files_computed : T (all answered? files)
unfolding answered? files alt_file alt_with bac bbaa case wide_file
files_computed = tt

-- each file of the list is answered as its row says
pub read_as : (c : FileCase) → Mem c files → (answer_of c ≡ c.answer) × (log_part_of c.file ≡ c.part)
unfolding answered?
read_as c m =
    let t = all_at answered? files_computed m in
    let a = equal? (answer_of c) c.answer in
    let b = equal? (log_part_of c.file) c.part in
    ((equal_test (answer_of c) c.answer).0 (fst_of a b t), (equal_test (log_part_of c.file) c.part).0 (snd_of a b t))
