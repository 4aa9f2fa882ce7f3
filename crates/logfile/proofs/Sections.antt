-- The sections of a file that 2 and 3 do not refuse stand before its trailer; its masks, moves and log are found there.
use borrow.Author.Tests.{eq-eqb, ltb-false}
use mathlib.Core.Path.{◌≡◌, refl, sym, ◌∙◌, ap, ap₂}
use mathlib.Core.Bool.{Bool, true, false, not, ◌||◌, or_assoc, or-false, true≢false}
use mathlib.Core.List.Memᴰ
use mathlib.Core.List.{List, [], ◌∷◌, ◌++◌}
use mathlib.Core.Option.{none, some}
use Prim.Native.Nat.{ℕ, ◌+◌, ◌-◌, ◌*◌, ◌≤◌}
use native.Mathlib.Nat.{mul-le-mul}
use native.Mathlib.Omega.{arith}
use lib.Dec.{eqb, leb, ltb}
use lib.ListN.{length, take, drop}
use lib.Seq.{take_at}
use Rattle.profile.specs.Limits.{letters_byte, log_byte, masks_byte, most_letters, most_moves, most_states, moves_byte, start_byte, states_byte, zero_byte}
use Rattle.profile.specs.Automata.{Profile}
use Rattle.profile.specs.Refusals.{log_refusals, lowest, mask_bit, profile_out_of_range, profile_refusals, state_bit}
use Rattle.profile.specs.declared.Shape.{Shape}
use Rattle.profile.specs.declared.Refusal.{Refusal}
use Rattle.profile.specs.declared.Refusal.TheVariants.{MaskBit, StateBit}
use Rattle.theory.proofs.Refusals.{lowest_append, lowest_first, lowest_none}
use Rattle.logfile.specs.Files.{content_refusals, distance, distance_out_of_range, field, file_log, file_masks, file_moves, file_out_of_range, file_profile, file_refusals, file_shape, log_length, numbers_from, numbers_out_of_range, outside, section, trailer}
use Rattle.logfile.proofs.Bytes.{numbers_length}

-- a file's masks and moves are as many as they must be: its profile is in range where its numbers are
pub range_eq : (f : List ℕ) → profile_out_of_range (file_profile f) ≡ numbers_out_of_range (field f letters_byte) (field f states_byte) (field f start_byte)
range_eq f =
    let k = field f letters_byte in
    let s = field f states_byte in
    let start = field f start_byte in
    ap₂ (λ a b. (ltb k 1 || (ltb most_letters k || not a)) || (ltb s 1 || (ltb most_states s || (leb s start || not b))))
    (eq-eqb (length (file_masks f)) k (numbers_length 2 f (section f masks_byte) k)) (eq-eqb (length (file_moves f)) (s * k) (numbers_length 4 f (section f moves_byte) (s * k)))
    ∙ simp (or-false, or_assoc)

-- neither test holds
pub neither : (a b : Bool) → (a || b) ≡ false → (a ≡ false) × (b ≡ false)
neither true b e = absurd (true≢false e)
neither false b e = (refl, e)

pub numbers_in : (f : List ℕ) → file_out_of_range f ≡ false → (field f letters_byte ≤ most_letters) × (field f states_byte ≤ most_states)
numbers_in f e =
    let k = field f letters_byte in
    let s = field f states_byte in
    let start = field f start_byte in
    let n₁ = neither (profile_out_of_range (file_profile f)) (not (eqb (field f zero_byte) 0)) e in
    let n₂ = neither (ltb k 1) (ltb most_letters k || (ltb s 1 || (ltb most_states s || leb s start))) (sym (range_eq f) ∙ n₁.0) in
    let n₃ = neither (ltb most_letters k) (ltb s 1 || (ltb most_states s || leb s start)) n₂.1 in
    let n₄ = neither (ltb s 1) (ltb most_states s || leb s start) n₃.1 in
    let n₅ = neither (ltb most_states s) (leb s start) n₄.1 in
    (ltb-false most_letters k n₃.0, ltb-false most_states s n₅.0)

-- a section whose distance is in its range ends before the trailer
section_in : (f : List ℕ) (i size : ℕ) → outside f i size ≡ false → section f i + size ≤ trailer f
section_in f i size e =
    let n = neither (ltb (distance f i) size) (ltb (trailer f) (distance f i)) e in
    omega (arith, ltb-false (distance f i) size n.0, ltb-false (trailer f) (distance f i) n.1)

pub record Inside (f : List ℕ) : Type 0 where
  pub masks : section f masks_byte + 2 * field f letters_byte ≤ trailer f
  pub moves : section f moves_byte + 4 * (field f states_byte * field f letters_byte) ≤ trailer f
  pub log : section f log_byte + log_length f ≤ trailer f

pub inside : (f : List ℕ) → distance_out_of_range f ≡ false → Inside f
inside f e =
    let k = field f letters_byte in
    let m = 4 * (field f states_byte * k) in
    let n = log_length f in
    let n₁ = neither (outside f masks_byte (2 * k)) (outside f moves_byte m || outside f log_byte n) e in
    let n₂ = neither (outside f moves_byte m) (outside f log_byte n) n₁.1 in
    record { masks = section_in f 4 (2 * k) n₁.0; moves = section_in f 6 m n₂.0; log = section_in f 8 n n₂.1 }

-- ---- a file whose sections are found

-- none of 1 to 8 applies: the sections stand inside
pub open_file : (f : List ℕ) → lowest (file_refusals f) ≡ none → (file_out_of_range f ≡ false) × (distance_out_of_range f ≡ false)
open_file f e =
    let h = (lowest_none (file_refusals f)).0 e in
    (h _ (Memᴰ.tail (Memᴰ.head refl)), h _ (Memᴰ.tail (Memᴰ.tail (Memᴰ.head refl))))

-- the conditions of the content: those of the profile without 2, then those of the log
abbrev structure_refusals : Profile → List (Bool × Refusal)
structure_refusals p = (mask_bit p.k p.masks, MaskBit) ∷ (state_bit p, StateBit) ∷ []

past_range : (p : Profile) → profile_out_of_range p ≡ false → lowest (profile_refusals p) ≡ lowest (structure_refusals p)
past_range p e = rw e

pub content_profile : (f w : List ℕ) {r : Refusal} → file_out_of_range f ≡ false → lowest (profile_refusals (file_profile f)) ≡ some r
    → lowest (content_refusals (file_profile f) w) ≡ some r
content_profile f w e h =
    let p = file_profile f in
    lowest_first (structure_refusals p) (log_refusals p.k w) (sym (past_range p (neither (profile_out_of_range p) (not (eqb (field f zero_byte) 0)) e).0) ∙ h)

pub content_log : (f w : List ℕ) → file_out_of_range f ≡ false → lowest (profile_refusals (file_profile f)) ≡ none
    → lowest (content_refusals (file_profile f) w) ≡ lowest (log_refusals (field f letters_byte) w)
content_log f w e h =
    let p = file_profile f in
    lowest_append (structure_refusals p) (log_refusals p.k w) (sym (past_range p (neither (profile_out_of_range p) (not (eqb (field f zero_byte) 0)) e).0) ∙ h)

-- ---- masks, moves and log by the numbers that the code found

pub numbers_put : (b : ℕ) (f l : List ℕ) {at i n m : ℕ} → at ≡ i → n ≡ m
    → numbers_from b f at n ++ drop n l ≡ numbers_from b f i m ++ drop (length (numbers_from b f i m)) l
numbers_put b f l {i = i} {m = m} p q = ap₂ (λ at n. numbers_from b f at n ++ drop n l) p q ∙ ap (λ n. numbers_from b f i m ++ drop n l) (sym (numbers_length b f i m))

-- the first n of what begins with the n of v
pub first_part : (v l m : List ℕ) {n : ℕ} → m ≡ v ++ drop (length v) l → length v ≡ n → take (n - 0) (drop 0 m) ≡ v
first_part v l m {n} e h = let z : n - 0 ≡ n = omega arith in ap₂ take z e ∙ take_at v (drop (length v) l) n h

pub log_found : (f : List ℕ) {at n : ℕ} → at ≡ section f log_byte → n ≡ log_length f → take (at + n - at) (drop at f) ≡ file_log f
log_found f {at} {n} p q = let e : at + n - at ≡ log_length f = omega arith in ap₂ (λ m i. take m (drop i f)) e p

pub log_inside : (f : List ℕ) {at n : ℕ} → at ≡ section f log_byte → n ≡ log_length f → distance_out_of_range f ≡ false → at + n ≤ length f
log_inside f p q e = omega (arith, (inside f e).log)

pub shape_known : (f : List ℕ) {h : Shape} → h ≡ file_shape f → file_out_of_range f ≡ false
    → (h.k ≡ field f letters_byte) × (h.s * h.k ≡ field f states_byte * field f letters_byte) × (h.k ≤ most_letters) × (h.s * h.k ≤ most_moves)
shape_known f {h} p e =
    let n = numbers_in f e in
    let k = ap (λ (h : Shape). h.k) p in
    let m = ap (λ (h : Shape). h.s * h.k) p in
    (k, m, omega (arith, n), omega (arith, mul-le-mul n.1 n.0))
