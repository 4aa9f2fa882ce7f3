-- What the writer answers, by whether something is refused.
use borrow.Author.Tests.{le-ltb, lt-ltb}
use mathlib.Core.Path.{◌≡◌, sym, ◌∙◌, ap}
use mathlib.Core.Bool.{Bool}
use mathlib.Core.List.{List, [], ◌∷◌, ◌++◌}
use mathlib.Core.Option.{none, some}
use Prim.Native.Nat.{ℕ, ◌+◌, ◌*◌, ◌≤◌, ◌<◌}
use native.Mathlib.Omega.{arith}
use lib.ListN.{length, drop, length-append}
use Rattle.profile.specs.Limits.{trailer_length}
use Rattle.profile.specs.Automata.{Profile, profile_of}
use Rattle.profile.specs.Lists.{flat_map}
use Rattle.profile.specs.Refusals.{log_refusals, lowest, profile_refusals, short_buffer}
use Rattle.profile.specs.declared.Refusal.{Refusal}
use Rattle.profile.specs.declared.Refusal.TheVariants.{ShortBuffer}
use Rattle.profile.specs.declared.Shape.{Shape}
use Rattle.profile.proofs.Lists.{Rising, flat_map_length}
use Rattle.theory.proofs.Refusals.{GoodLog, GoodProfile, lowest_append}
use Rattle.logfile.specs.Files.{filled}
use Rattle.logfile.proofs.Answers.{content_rises, no_larger, numbers, room}
use Rattle.filewriter.specs.Written.{Fit, Writes, file_bytes, low_bytes, trailer_bytes, write_refusal, write_refusals, writing}
use Rattle.std.specs.Prelude.{Ok, Err}
use Rattle.filewriter.proofs.Bytes.{low_length}

-- ---- the conditions stand by rising number: the first that applies is the lowest

pub write_rises : (p : Profile) (w : List ℕ) (m : ℕ) → Rising (numbers (write_refusals p w m))
write_rises p w m = (no_larger 2 _ tt, content_rises)

-- ---- the answers

-- two bytes for each mask, four for each move, the log, and the trailer
pub file_length : (p : Profile) (w : List ℕ) → length (file_bytes p w) ≡ 2 * length p.masks + (4 * length p.moves + (length w + trailer_length))
file_length p w =
    let m = flat_map (low_bytes 2) p.masks in
    let v = flat_map (low_bytes 4) p.moves in
    let t = trailer_bytes p w in
    omega (
      arith,
      length-append m (v ++ (w ++ t)),
      length-append v (w ++ t),
      length-append w t,
      flat_map_length (low_bytes 2) 2 (low_length 2) p.masks,
      flat_map_length (low_bytes 4) 4 (low_length 4) p.moves,
    )

-- nothing of the profile or the log is refused: 9 decides
module _ (p : Profile) (w : List ℕ) (m : ℕ) (good : lowest (profile_refusals p) ≡ none) (log : lowest (log_refusals p.k w) ≡ none) where
  write_room : write_refusal p w m ≡ room (short_buffer m (file_bytes p w))
  write_room =
      let r : List (Bool × Refusal) = (short_buffer m (file_bytes p w), ShortBuffer) ∷ [] in
      lowest_append (profile_refusals p) (log_refusals p.k w ++ r) good ∙ lowest_append (log_refusals p.k w) r log

  pub file_short : m < length (file_bytes p w) → write_refusal p w m ≡ some ShortBuffer
  file_short h = write_room ∙ ap room (lt-ltb m (length (file_bytes p w)) h)

  pub file_fits : length (file_bytes p w) ≤ m → write_refusal p w m ≡ none
  file_fits h = write_room ∙ ap room (le-ltb m (length (file_bytes p w)) h)

pub fit_of : (h : Shape) (masks moves w out : List ℕ) → GoodProfile (profile_of h masks moves) → GoodLog h.k w
    → length (file_bytes (profile_of h masks moves) w) ≤ length out → Fit h masks moves w out
fit_of h masks moves w out g l r = record {
  letters = (g.relation.long, g.relation.most);
  states = (g.long, g.states.1, g.starts);
  log = l.short;
  room = r;
}

module _ (p : Profile) (w out : List ℕ) where
  pub write_refused : {r : Refusal} → write_refusal p w (length out) ≡ some r → Writes p w out out (Err r)
  write_refused e = (sym (ap (λ o. writing o (length (file_bytes p w))) e), sym (ap (λ o. filled o (file_bytes p w) out) e))

  pub write_told : {n : ℕ} {o : List ℕ} → write_refusal p w (length out) ≡ none → n ≡ length (file_bytes p w)
      → o ≡ file_bytes p w ++ drop (length (file_bytes p w)) out → Writes p w out o (Ok n)
  write_told e q r = (ap Ok q ∙ sym (ap (λ o. writing o (length (file_bytes p w))) e), r ∙ sym (ap (λ o. filled o (file_bytes p w) out) e))
