-- `logfile::check_content` meets its contract: what the local arrays hold is the file's masks and moves.
use mathlib.Core.Path.{◌≡◌, sym, ◌∙◌, ap, ap₂}
use mathlib.Core.Bool.{false}
use mathlib.Core.List.{List, ◌++◌}
use mathlib.Core.Option.{Option}
use Prim.Native.Nat.{ℕ, ◌-◌, ◌*◌}
use native.Mathlib.Omega.{arith}
use lib.ListN.{take, drop, replicate}
use Rattle.std.specs.Prelude.{Err}
use Rattle.profile.specs.Limits.{letters_byte, masks_byte, most_letters, most_moves, moves_byte, states_byte}
use Rattle.profile.specs.Automata.{profile_of}
use Rattle.profile.specs.Refusals.{refused_by, log_refusals, lowest, profile_refusals}
use Rattle.profile.specs.declared.Shape.{Shape}
use Rattle.profile.specs.declared.Refusal.{Refusal}
use Rattle.logfile.specs.Files.{field, file_log, file_masks, file_moves, file_out_of_range, file_profile, file_shape, numbers_from, section}
use Rattle.logfile.proofs.Bytes.{numbers_length}
use Rattle.logfile.proofs.Sections.{content_log, content_profile, first_part, inside, log_found, numbers_put, shape_known}
use Rattle.logfile.proofs.check_content.Goals as goal

-- what is checked is the file's profile
profile_checked : (f : List ℕ) (h : Shape) (at at' : ℕ) (l r : List ℕ) (x : Option Refusal) → h ≡ file_shape f → file_out_of_range f ≡ false →
    at ≡ section f masks_byte → l ≡ numbers_from 2 f at h.k ++ drop h.k (replicate most_letters 0) →
    at' ≡ section f moves_byte → r ≡ numbers_from 4 f at' (h.s * h.k) ++ drop (h.s * h.k) (replicate most_moves 0) →
    x ≡ lowest (profile_refusals (profile_of h (take (h.k - 0) (drop 0 l)) (take (h.s * h.k - 0) (drop 0 r)))) →
    x ≡ lowest (profile_refusals (file_profile f))
profile_checked f h at at' l r x e o a lw a' rw' c =
    let n = shape_known f e o in
    let masks = first_part (file_masks f) (replicate most_letters 0) l (lw ∙ numbers_put 2 f (replicate most_letters 0) a n.0)
    (numbers_length 2 f (section f masks_byte) (field f letters_byte) ∙ sym n.0) in
    let moves = first_part (file_moves f) (replicate most_moves 0) r (rw' ∙ numbers_put 4 f (replicate most_moves 0) a' n.1)
    (numbers_length 4 f (section f moves_byte) (field f states_byte * field f letters_byte) ∙ sym n.1) in
    c
    ∙ ap (λ g. lowest (profile_refusals (profile_of g (take (h.k - 0) (drop 0 l)) (take (h.s * h.k - 0) (drop 0 r))))) e
    ∙ ap₂ (λ x y. lowest (profile_refusals (profile_of (file_shape f) x y))) masks moves

pub fill-requires-2 : goal.fill-requires-2
fill-requires-2 c =
    let f = c.args.f.now in
    let n = shape_known f c.shape_of-shape.ensures c.requires.0 in
    omega (arith, n, (inside f c.requires.1).moves, c.section_at-2.ensures)

pub returns-in_err-check_profile : goal.returns-in_err-check_profile
returns-in_err-check_profile c =
    let f = c.args.f.now in
    let p = profile_checked f _ _ _ _ _ _ c.shape_of-shape.ensures c.requires.0 c.section_at.ensures c.fill.ensures c.section_at-2.ensures c.fill-2.ensures c.check_profile.ensures in
    let gone : c.from_residual.result ≡ Err c.in_err-check_profile.field-0.0 = grind arith in
    rw gone (sym (content_profile f (file_log f) c.requires.0 (sym p ∙ ap refused_by c.in_err-check_profile.was)))

pub returns : goal.returns
returns c =
    let f = c.args.f.now in
    let e = c.shape_of-shape.ensures in
    let p = profile_checked f _ _ _ _ _ _ e c.requires.0 c.section_at.ensures c.fill.ensures c.section_at-2.ensures c.fill-2.ensures c.check_profile.ensures in
    c.check_log.ensures ∙ ap₂ (λ k w. lowest (log_refusals k w)) (shape_known f e c.requires.0).0 (log_found f c.section_at-from.ensures c.length_at.ensures)
    ∙ sym (content_log f (file_log f) c.requires.0 (sym p ∙ ap refused_by c.in_ok-check_profile.was))
