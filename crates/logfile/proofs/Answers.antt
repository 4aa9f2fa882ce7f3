-- What the reader answers, by whether something is refused.
use borrow.Author.Tests.{le-ltb, lt-ltb}
use mathlib.Core.Path.{◌≡◌, sym, ◌∙◌, ap, ap₂}
use mathlib.Core.Bool.{Bool, ◌||◌, or-true}
use mathlib.Core.List.{List, [], ◌∷◌, ◌++◌, map}
use mathlib.Core.Option.{Option, none, some}
use Prim.Native.Nat.{ℕ, ◌*◌, ◌≤◌, ◌<◌}
use native.Mathlib.Omega.{arith}
use lib.Dec.{T, leb, leb→le}
use lib.ListN.{length, drop}
use Rattle.profile.specs.Limits.{letters_byte, masks_byte, moves_byte, states_byte}
use Rattle.profile.specs.Lists.{Mem, all}
use Rattle.profile.specs.Refusals.{lowest, refusal_number, short_buffer}
use Rattle.profile.specs.declared.Refusal.{Refusal}
use Rattle.profile.specs.declared.Refusal.TheVariants.{ShortBuffer}
use Rattle.profile.specs.declared.Shape.{Shape}
use Rattle.profile.proofs.Lists.{Rising, all_at}
use Rattle.theory.proofs.Refusals.{lowest_append}
use Rattle.logfile.specs.Files.{Reads, field, file_masks, file_moves, file_refusals, file_shape, filled, log_length, read_refusal, read_refusals, reading, section, short_buffers}
use Rattle.std.specs.Prelude.{Ok, Err}
use Rattle.logfile.proofs.Bytes.{numbers_length}

-- ---- the conditions stand by rising number: the first that applies is the lowest

abbrev pub numbers : List (Bool × Refusal) → List ℕ
numbers l = map (λ (c : Bool × Refusal). refusal_number c.1) l

-- n is no larger than each number of l
pub no_larger : (n : ℕ) (l : List ℕ) → T (all (leb n) l) → (m : ℕ) → Mem m l → n ≤ m
no_larger n l t m i = leb→le n m (all_at (leb n) t i)

-- 4 and 6 to 9
pub content_rises : Rising (4 ∷ 6 ∷ 7 ∷ 8 ∷ 9 ∷ [])
content_rises = (no_larger 4 _ tt, (no_larger 6 _ tt, (no_larger 7 _ tt, (no_larger 8 _ tt, (no_larger 9 _ tt, tt)))))

pub read_rises : (f : List ℕ) (a b : ℕ) → Rising (numbers (read_refusals f a b))
read_rises f a b = (no_larger 1 _ tt, (no_larger 2 _ tt, (no_larger 3 _ tt, content_rises)))

-- 9 alone
abbrev pub room : Bool → Option Refusal
room t = lowest ((t, ShortBuffer) ∷ [])

-- ---- the reader

-- 1 to 8 do not apply: 9 decides
module _ (f : List ℕ) (a b : ℕ) (good : lowest (file_refusals f) ≡ none) where
  read_room : read_refusal f a b ≡ room (short_buffers f a b)
  read_room = lowest_append (file_refusals f) ((short_buffers f a b, ShortBuffer) ∷ []) good

  pub masks_short : a < field f letters_byte → read_refusal f a b ≡ some ShortBuffer
  masks_short h =
      let e : a < length (file_masks f) = omega (arith, numbers_length 2 f (section f masks_byte) (field f letters_byte)) in
      read_room ∙ ap (λ t. room (t || short_buffer b (file_moves f))) (lt-ltb a (length (file_masks f)) e)

  pub moves_short : b < field f states_byte * field f letters_byte → read_refusal f a b ≡ some ShortBuffer
  moves_short h =
      let e : b < length (file_moves f) = omega (arith, numbers_length 4 f (section f moves_byte) (field f states_byte * field f letters_byte)) in
      read_room ∙ ap room (ap (λ t. short_buffer a (file_masks f) || t) (lt-ltb b (length (file_moves f)) e) ∙ or-true (short_buffer a (file_masks f)))

  pub buffers_long : field f letters_byte ≤ a → field f states_byte * field f letters_byte ≤ b → read_refusal f a b ≡ none
  buffers_long h k =
      let e : length (file_masks f) ≤ a = omega (arith, numbers_length 2 f (section f masks_byte) (field f letters_byte)) in
      let d : length (file_moves f) ≤ b = omega (arith, numbers_length 4 f (section f moves_byte) (field f states_byte * field f letters_byte)) in
      read_room ∙ ap₂ (λ t u. room (t || u)) (le-ltb a (length (file_masks f)) e) (le-ltb b (length (file_moves f)) d)

module _ (f masks moves : List ℕ) where
  pub read_refused : {r : Refusal} → read_refusal f (length masks) (length moves) ≡ some r → Reads f masks masks moves moves (Err r)
  read_refused e = (
    sym (ap (λ o. reading o (file_shape f) (log_length f)) e),
    sym (ap (λ o. filled o (file_masks f) masks) e),
    sym (ap (λ o. filled o (file_moves f) moves) e),
  )

  pub read_told : {h : Shape} {n : ℕ} {m v : List ℕ} → read_refusal f (length masks) (length moves) ≡ none → h ≡ file_shape f → n ≡ log_length f
      → m ≡ file_masks f ++ drop (length (file_masks f)) masks → v ≡ file_moves f ++ drop (length (file_moves f)) moves → Reads f masks m moves v (Ok (h, n))
  read_told e p q r s = (
    ap₂ (λ (h : Shape) (n : ℕ). Ok (h, n)) p q ∙ sym (ap (λ o. reading o (file_shape f) (log_length f)) e),
    r ∙ sym (ap (λ o. filled o (file_masks f) masks) e),
    s ∙ sym (ap (λ o. filled o (file_moves f) moves) e),
  )
