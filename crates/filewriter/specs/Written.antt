-- Document 01, "Log file": what the writer puts, and why it refuses.
use Rattle.std.specs.Prelude.{Result, Ok, Err, ◌≡◌, Bool, List, [], ◌∷◌, ◌++◌, ℕ, zero, suc, ◌+◌, ◌*◌, ◌/◌, ◌%◌, ◌≤◌, ◌<◌, length}
use Rattle.std.proofs.Math.Option.{Option, none, some}
use Rattle.profile.specs.Limits.{most_letters, most_states}
use Rattle.profile.specs.Lists.{flat_map}
use Rattle.profile.specs.Automata.{Profile, profile_of}
use Rattle.profile.specs.Refusals.{log_refusals, longest, lowest, profile_refusals, short_buffer}
use Rattle.profile.specs.Answers.{answer_code, answer_told}
use Rattle.profile.specs.declared.Shape.{Shape}
use Rattle.profile.specs.declared.Refusal.{Refusal}
use Rattle.profile.specs.declared.Refusal.TheVariants.{ShortBuffer}
use Rattle.logfile.specs.Files.{filled}

-- "Low byte first": the b low bytes of n
abbrev pub low_bytes : ℕ → ℕ → List ℕ
low_bytes zero n = []
low_bytes (suc b) n = n % 256 ∷ low_bytes b (n / 256)

-- where the writer puts the sections: the distances back to the moves, of s × k words, and to the masks, of k halves
abbrev pub moves_distance : Profile → List ℕ → ℕ
moves_distance p w = 4 * (p.s * p.k) + length w

abbrev pub masks_distance : Profile → List ℕ → ℕ
masks_distance p w = 2 * p.k + moves_distance p w

-- the numbers of a profile
abbrev pub shape : Profile → Shape
shape p = record { k = p.k; s = p.s; start = p.start; finals = p.finals }

-- the trailer, with the distances back to the masks and to the moves; that to the log is its length n;
-- "Trailer byte 10 becomes the high byte of n, byte 11 stays zero"
abbrev pub trailer_of : Shape → ℕ → ℕ → ℕ → List ℕ
trailer_of h n masks moves =
    h.k ∷ h.s ∷ h.start ∷ n % 256 ∷ (low_bytes 2 masks ++ (low_bytes 2 moves ++ (low_bytes 2 n ++ (n / 256 % 256 ∷ 0 ∷ low_bytes 4 h.finals))))

abbrev pub trailer_bytes : Profile → List ℕ → List ℕ
trailer_bytes p w = trailer_of (shape p) (length w) (masks_distance p w) (moves_distance p w)

-- "The writer puts masks, moves, log, trailer, without gaps"
abbrev pub file_bytes : Profile → List ℕ → List ℕ
file_bytes p w = flat_map (low_bytes 2) p.masks ++ (flat_map (low_bytes 4) p.moves ++ (w ++ trailer_bytes p w))

-- the writer's refusals, with m places for the file
abbrev pub write_refusals : Profile → List ℕ → ℕ → List (Bool × Refusal)
write_refusals p w m = profile_refusals p ++ (log_refusals p.k w ++ ((short_buffer m (file_bytes p w), ShortBuffer) ∷ []))

abbrev pub write_refusal : Profile → List ℕ → ℕ → Option Refusal
write_refusal p w m = lowest (write_refusals p w m)

-- "tells the file's length", or refuses
abbrev pub writing : Option Refusal → ℕ → Result ℕ Refusal
writing none n = Ok n
writing (some r) n = Err r

-- its numbers: the refusal's number, or 0; place, the file's length
abbrev pub writing_code : Result ℕ Refusal → ℕ
writing_code = answer_code

abbrev pub writing_told : Result ℕ Refusal → List ℕ
writing_told = answer_told 1 (λ n. n ∷ [])

-- what the writer promises: its answer, and the lent buffer afterwards
abbrev pub Writes : Profile → List ℕ → List ℕ → List ℕ → Result ℕ Refusal → Type 0
Writes p w out out' r =
    let q = write_refusal p w (length out) in
    (r ≡ writing q (length (file_bytes p w))) × (out' ≡ filled q (file_bytes p w) out)

-- what the writer knows of a call that nothing refuses
pub record Fit (h : Shape) (masks moves w out : List ℕ) : Type 0 where
  pub letters : (length masks ≡ h.k) × (h.k ≤ most_letters)
  pub states : (length moves ≡ h.s * h.k) × (h.s ≤ most_states) × (h.start < h.s)
  pub log : length w ≤ longest
  pub room : length (file_bytes (profile_of h masks moves) w) ≤ length out
