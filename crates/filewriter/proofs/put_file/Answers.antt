-- `filewriter::put_file` meets its contract: each section behind the one before.
use mathlib.Core.Path.{◌≡◌, ◌∙◌, ap, ap₂}
use mathlib.Core.List.{List}
use Prim.Native.Nat.{ℕ, ◌-◌, ◌*◌, ◌≤◌, ◌<◌}
use native.Mathlib.Nat.{mul-le-mul}
use native.Mathlib.Omega.{arith}
use lib.ListN.{length}
use Rattle.profile.specs.Limits.{most_letters, most_states}
use Rattle.profile.specs.Automata.{lent}
use Rattle.profile.specs.Lists.{flat_map}
use Rattle.profile.specs.Refusals.{longest}
use Rattle.profile.specs.declared.Shape.{Shape}
use Rattle.profile.proofs.Lists.{flat_map_length}
use Rattle.putting.proofs.Texts.{put_as, put_then}
use Rattle.filewriter.specs.Written.{Fit, low_bytes, masks_distance, moves_distance, trailer_of}
use Rattle.filewriter.proofs.Bytes.{low_length}
use Rattle.filewriter.proofs.put_file.Goals as goal
use Rattle.filewriter.proofs.put_file.Goals.{After-put_bytes-end}

-- how long the sections are
record Sizes (h : Shape) (masks moves log : List ℕ) : Type 0 where
  of_masks : length (flat_map (low_bytes 2) masks) ≡ 2 * h.k
  of_moves : length (flat_map (low_bytes 4) moves) ≡ 4 * (h.s * h.k)
  letters : h.k ≤ most_letters
  moves_few : h.s * h.k ≤ most_states * most_letters
  log_short : length log ≤ longest

sizes : (h : Shape) (masks moves log out : List ℕ) → Fit h masks moves log out → Sizes h masks moves log
sizes h masks moves log out fit =
    let s = fit.states in
    let l = fit.letters in record {
      of_masks = flat_map_length (low_bytes 2) 2 (low_length 2) masks ∙ ap (λ n. 2 * n) l.0;
      of_moves = flat_map_length (low_bytes 4) 4 (low_length 4) moves ∙ ap (λ n. 4 * n) s.0;
      letters = l.1;
      moves_few = mul-le-mul s.1 l.1;
      log_short = fit.log;
    }

-- where the log ends, and the distances back from there
ends : (c : After-put_bytes-end)
    → let p = lent c.args.profile.now in let w = c.args.log.now in
    (c.put_bytes-end.result ≡ masks_distance p w) × (c.put_bytes-end.result - c.put_numbers-moves_at.result ≡ moves_distance p w) × (c.put_bytes-end.result < 65536)
ends c = omega (arith, sizes _ _ _ _ _ c.requires, c.put_numbers-moves_at.ensures.behind, c.put_numbers-log_at.ensures.behind, c.put_bytes-end.ensures.behind)

pub overflow_cast-to_masks : goal.overflow_cast-to_masks
overflow_cast-to_masks c = omega (arith, ends (goal.at.overflow_cast-to_masks c).After-put_bytes-end)

pub overflow_cast-to_moves : goal.overflow_cast-to_moves
overflow_cast-to_moves c = omega (arith, ends (goal.at.overflow_cast-to_moves c).After-put_bytes-end)

pub returns : goal.returns
returns c =
    let a = c.args in
    let w = a.log.now in
    let d = ends (goal.at.returns c).After-put_bytes-end in
    let trailer = c.trailer_bytes-trailer.ensures ∙ ap₂ (trailer_of a.profile.now.shape (length w)) d.0 d.1 in
    (put_then c.put_numbers-moves_at.ensures (put_then c.put_numbers-log_at.ensures (put_then c.put_bytes-end.ensures (put_as trailer c.put_bytes.ensures)))).put
