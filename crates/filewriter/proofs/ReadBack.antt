-- A call of the writer and then a call of the reader, over what the two promise: what was written comes back.
use mathlib.Core.Path.{◌≡◌, refl, sym, ◌∙◌, ap, ap₂, subst}
use mathlib.Core.List.{List, ◌++◌}
use mathlib.Core.Option.{Option, none, some}
use Prim.Native.Nat.{ℕ, ◌*◌, ◌≤◌}
use lib.ListN.{length, take, drop}
use lib.Seq.{drop_at, take_at}
use Rattle.profile.specs.Automata.{Profile, profile_of}
use Rattle.profile.specs.declared.Refusal.{Refusal}
use Rattle.profile.specs.declared.Shape.{Shape}
use Rattle.logfile.specs.Files.{Reads, file_masks, file_moves, file_shape, filled, log_length, log_part_of, reading}
use Rattle.filewriter.specs.Written.{Writes, file_bytes, write_refusal, writing}
use Rattle.std.specs.Prelude.{Result, Ok, Err}
use Rattle.filewriter.proofs.RoundTrip.{RoundTrip, round_trip}

-- what the reader gives: it tells the numbers h and the length of the log w; the masks and the moves are the first of its two buffers, whose further
-- elements are as before
pub record GivesBack (h : Shape) (masks moves w masks₀ masks₁ moves₀ moves₁ : List ℕ) (r : Result (Shape × ℕ) Refusal) : Type 0 where
  pub told : r ≡ Ok (h, length w)
  pub masks_first : masks₁ ≡ masks ++ drop (length masks) masks₀
  pub moves_first : moves₁ ≡ moves ++ drop (length moves) moves₀

-- an answer that is a length
abbrev length_of : Result ℕ Refusal → ℕ
length_of (Ok n) = n
length_of (Err r) = 0

refused? : Result ℕ Refusal → Type 0
refused? (Ok n) = ⊥
refused? (Err r) = Unit {0}

-- the writer told a length: nothing was refused
not_refused : (q : Option Refusal) (m n : ℕ) → Ok n ≡ writing q m → q ≡ none
unfolding refused?
not_refused none m n e = refl
not_refused (some r) m n e = absurd (subst refused? (sym e) tt)

-- a call of the writer that was lent `out`, left `out'` and told the length n
module _ (h : Shape) (masks moves w out out' : List ℕ) (n : ℕ) (wrote : Writes (profile_of h masks moves) w out out' (Ok n)) where
  abbrev p : Profile
  p = profile_of h masks moves

  nothing_refused : write_refusal p w (length out) ≡ none
  nothing_refused = not_refused (write_refusal p w (length out)) (length (file_bytes p w)) n wrote.0

  trip : RoundTrip p w
  trip = round_trip p w (length out) nothing_refused

  -- the first n bytes are the file, the others as before
  pub written_first : (take n out' ≡ file_bytes p w) × (drop n out' ≡ drop n out)
  written_first =
      let e : out' ≡ file_bytes p w ++ drop (length (file_bytes p w)) out = wrote.1 ∙ ap (λ q. filled q (file_bytes p w) out) nothing_refused in
      let l : length (file_bytes p w) ≡ n = sym (ap length_of (wrote.0 ∙ ap (λ q. writing q (length (file_bytes p w))) nothing_refused)) in (
        ap (take n) e ∙ take_at (file_bytes p w) (drop (length (file_bytes p w)) out) n l,
        ap (drop n) e ∙ drop_at (file_bytes p w) (drop (length (file_bytes p w)) out) n l ∙ ap (λ m. drop m out) l,
      )

  -- read into buffers that are long enough, whatever they held, they give it back
  pub read_back : (masks₀ masks₁ moves₀ moves₁ : List ℕ) (r : Result (Shape × ℕ) Refusal) → h.k ≤ length masks₀ → h.s * h.k ≤ length moves₀
      → Reads (take n out') masks₀ masks₁ moves₀ moves₁ r → GivesBack h masks moves w masks₀ masks₁ moves₀ moves₁ r
  read_back masks₀ masks₁ moves₀ moves₁ r a b read =
      let f = file_bytes p w in
      let t = trip in
      let d : Reads f masks₀ masks₁ moves₀ moves₁ r = subst (λ l. Reads l masks₀ masks₁ moves₀ moves₁ r) written_first.0 read in
      let q = t.read (length masks₀) (length moves₀) a b in
      record {
        told = d.0 ∙ ap (λ o. reading o (file_shape f) (log_length f)) q ∙ ap₂ (λ (h : Shape) (n : ℕ). Ok (h, n)) t.numbers t.n;
        masks_first = d.1 ∙ ap (λ o. filled o (file_masks f) masks₀) q ∙ ap (λ l. l ++ drop (length l) masks₀) t.masks;
        moves_first = d.2 ∙ ap (λ o. filled o (file_moves f) moves₀) q ∙ ap (λ l. l ++ drop (length l) moves₀) t.moves;
      }

  -- and their log part is the log
  pub part_back : log_part_of (take n out') ≡ w
  part_back = ap log_part_of written_first.0 ∙ trip.part
