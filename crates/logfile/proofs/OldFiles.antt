-- "Every old file reads as before": a file whose trailer bytes 10 and 11 are zero, as every file had that was not refused by 2 before logs had 4,000 letters.
-- The definitions named `old` are those of that time.
use mathlib.Core.Path.{◌≡◌, refl, sym, ◌∙◌, ap, ap₂}
use mathlib.Core.Bool.{Bool, ◌||◌, not}
use mathlib.Core.List.Memᴰ
use mathlib.Core.List.{List, [], ◌∷◌, ◌++◌}
use mathlib.Core.Option.{Option, none}
use Prim.Native.Nat.{ℕ, ◌+◌, ◌*◌, ◌≤◌, ◌<◌}
use native.Mathlib.Omega.{arith}
use borrow.Author.Tests.{eqb-true, le-ltb, not-false}
use lib.Dec.{eqb, ltb}
use lib.ListN.{length, drop, get_or, take, length-take}
use Rattle.profile.specs.Automata.{Profile}
use Rattle.profile.specs.Refusals.{bad_letter, bad_place, longest, lowest, mask_bit, profile_out_of_range, state_bit}
use Rattle.profile.specs.declared.Refusal.{Refusal}
use Rattle.profile.specs.declared.Refusal.TheVariants.{BadLetter, Distance, LongLog, MaskBit, OutOfRange, ShortBuffer, ShortFile, StateBit}
use Rattle.logfile.specs.Files.{content_refusals, field, file_log, file_out_of_range, file_profile, file_refusals, half, log_length, log_part_of, outside, read_refusal, section, short_buffers, short_file, trailer, unless}
use Rattle.theory.proofs.Refusals.{lowest_none}
use Rattle.logfile.proofs.Bytes.{half_eq}
use Rattle.logfile.proofs.Sections.{neither}

abbrev pub old_log : List ℕ → List ℕ
old_log f = take (field f 3) (drop (section f 8) f)

abbrev pub old_out_of_range : List ℕ → Bool
old_out_of_range f = profile_out_of_range (file_profile f) || not (eqb (half f (trailer f + 10)) 0)

abbrev pub old_distances : List ℕ → Bool
old_distances f = outside f 4 (2 * field f 0) || (outside f 6 (4 * (field f 1 * field f 0)) || outside f 8 (field f 3))

abbrev pub old_content : Profile → List ℕ → List (Bool × Refusal)
old_content p w =
    (mask_bit p.k p.masks, MaskBit) ∷ (state_bit p, StateBit) ∷ (ltb 255 (length w), LongLog) ∷ (bad_letter p.k w, BadLetter (bad_place p.k w)) ∷ []

abbrev pub old_refusals : List ℕ → List (Bool × Refusal)
old_refusals f = (short_file f, ShortFile) ∷ (old_out_of_range f, OutOfRange) ∷ (old_distances f, Distance) ∷ old_content (file_profile f) (old_log f)

abbrev pub old_read_refusal : List ℕ → ℕ → ℕ → Option Refusal
old_read_refusal f a b = lowest (old_refusals f ++ ((short_buffers f a b, ShortBuffer) ∷ []))

abbrev pub old_log_part : List ℕ → List ℕ
old_log_part f = unless (lowest (old_refusals f)) (old_log f) []

module _ (f : List ℕ) (zero : half f (trailer f + 10) ≡ 0) (byte : field f 3 < 256) where
  bytes : (field f 10 ≡ 0) × (get_or f (trailer f + 10 + 1) 0 ≡ 0)
  bytes = let e = half_eq f (trailer f + 10) in (omega (arith, e, zero), omega (arith, e, zero))

  -- n is byte 3
  pub old_length : log_length f ≡ field f 3
  old_length = omega (arith, bytes.0)

  same_log : file_log f ≡ old_log f
  same_log = ap (λ n. take n (drop (section f 8) f)) old_length

  same_range : file_out_of_range f ≡ old_out_of_range f
  same_range =
      let p : trailer f + 11 ≡ trailer f + 10 + 1 = omega arith in
      let e : field f 11 ≡ half f (trailer f + 10) = ap (λ i. get_or f i 0) p ∙ bytes.1 ∙ sym zero in
      ap (λ n. profile_out_of_range (file_profile f) || not (eqb n 0)) e

  short : length (old_log f) ≤ 255
  short = omega (arith, length-take (field f 3) (drop (section f 8) f))

  same_content : content_refusals (file_profile f) (file_log f) ≡ old_content (file_profile f) (old_log f)
  same_content =
      ap (content_refusals (file_profile f)) same_log
      ∙ ap (λ b. (mask_bit (file_profile f).k (file_profile f).masks, MaskBit) ∷ (state_bit (file_profile f), StateBit) ∷ (b, LongLog)
      ∷ (bad_letter (file_profile f).k (old_log f), BadLetter (bad_place (file_profile f).k (old_log f))) ∷ [])
      (le-ltb longest (length (old_log f)) (omega (arith, short)) ∙ sym (le-ltb 255 (length (old_log f)) short))

  same_refusals : file_refusals f ≡ old_refusals f
  same_refusals =
      ap₂ (λ b l. (short_file f, ShortFile) ∷ (b, OutOfRange)
      ∷ (outside f 4 (2 * field f 0) || (outside f 6 (4 * (field f 1 * field f 0)) || outside f 8 (log_length f)), Distance) ∷ l)
      same_range same_content
      ∙ ap (λ n. (short_file f, ShortFile) ∷ (old_out_of_range f, OutOfRange)
      ∷ (outside f 4 (2 * field f 0) || (outside f 6 (4 * (field f 1 * field f 0)) || outside f 8 n), Distance)
      ∷ old_content (file_profile f) (old_log f)) old_length

  -- the same refusal or none, and the same log part; k, s, start, final set, masks and moves are read as they were
  pub old_reads : ((a b : ℕ) → read_refusal f a b ≡ old_read_refusal f a b) × (log_part_of f ≡ old_log_part f)
  old_reads = (
    λ a b. ap (λ l. lowest (l ++ ((short_buffers f a b, ShortBuffer) ∷ []))) same_refusals,
    ap₂ (λ l w. unless (lowest l) w []) same_refusals same_log,
  )

-- a file that was read is read, with the same log
pub still_read : (f : List ℕ) (a b : ℕ) → field f 3 < 256 → old_read_refusal f a b ≡ none → (read_refusal f a b ≡ none) × (log_part_of f ≡ old_log f)
still_read f a b byte e =
    let h = (lowest_none (old_refusals f ++ ((short_buffers f a b, ShortBuffer) ∷ []))).0 e in
    let r = (neither (profile_out_of_range (file_profile f)) (not (eqb (half f (trailer f + 10)) 0)) (h _ (Memᴰ.tail (Memᴰ.head refl)))).1 in
    let zero = eqb-true (half f (trailer f + 10)) 0 (not-false (eqb (half f (trailer f + 10)) 0) r) in
    let fine = (lowest_none (old_refusals f)).1 (λ c i. h c (Memᴰ.append_left ((short_buffers f a b, ShortBuffer) ∷ []) i)) in
    let same = old_reads f zero byte in
    (same.0 a b ∙ e, same.1 ∙ ap (λ o. unless o (old_log f) []) fine)
