-- `logfile::read_file` meets its contract.
use Rattle.std.specs.Prelude.{Err}
use mathlib.Core.Path.{◌≡◌, sym, ◌∙◌, ap}
use mathlib.Core.List.{[], ◌∷◌}
use native.Mathlib.Omega.{arith}
use lib.ListN.{length}
use Rattle.profile.specs.Refusals.{refused_by}
use Rattle.profile.specs.declared.Refusal.TheVariants.{ShortBuffer}
use Rattle.theory.proofs.Refusals.{lowest_first}
use Rattle.logfile.specs.Files.{file_refusals, short_buffers}
use Rattle.logfile.proofs.Answers.{buffers_long, masks_short, moves_short, read_refused, read_told}
use Rattle.logfile.proofs.Sections.{numbers_put, open_file, shape_known}
use Rattle.logfile.proofs.read_file.Goals as goal

pub returns-in_err-check_file : goal.returns-in_err-check_file
returns-in_err-check_file c =
    let a = c.args in
    let f = a.file.now in
    let e = sym c.check_file.ensures ∙ ap refused_by c.in_err-check_file.was in
    let gone : c.from_residual.result ≡ Err c.in_err-check_file.field-0.0 = grind arith in
    rw gone (read_refused f a.masks.now a.moves.now (lowest_first (file_refusals f) ((short_buffers f (length a.masks.now) (length a.moves.now), ShortBuffer) ∷ []) e))

pub returns-then-masks-k : goal.returns-then-masks-k
returns-then-masks-k c =
    let a = c.args in
    let f = a.file.now in
    let good = sym c.check_file.ensures ∙ ap refused_by c.in_ok-check_file.was in
    read_refused f a.masks.now a.moves.now
    (masks_short f (length a.masks.now) (length a.moves.now) good (omega (arith, shape_known f c.shape_of-shape.ensures (open_file f good).0, c.if-masks-k.true)))

pub returns-then-moves-count : goal.returns-then-moves-count
returns-then-moves-count c =
    let a = c.args in
    let f = a.file.now in
    let good = sym c.check_file.ensures ∙ ap refused_by c.in_ok-check_file.was in
    read_refused f a.masks.now a.moves.now
    (moves_short f (length a.masks.now) (length a.moves.now) good (omega (arith, shape_known f c.shape_of-shape.ensures (open_file f good).0, c.if-moves-count.true)))

pub returns : goal.returns
returns c =
    let a = c.args in
    let f = a.file.now in
    let good = sym c.check_file.ensures ∙ ap refused_by c.in_ok-check_file.was in
    let n = shape_known f c.shape_of-shape.ensures (open_file f good).0 in
    read_told f a.masks.now a.moves.now
    (buffers_long f (length a.masks.now) (length a.moves.now) good (omega (arith, n, c.if-masks-k.false)) (omega (arith, n, c.if-moves-count.false)))
    c.shape_of-shape.ensures c.length_at.ensures
    (c.fill.ensures ∙ numbers_put 2 f a.masks.now c.section_at.ensures n.0)
    (c.fill-2.ensures ∙ numbers_put 4 f a.moves.now c.section_at-2.ensures n.1)
