-- `filewriter::write_file` meets its contract.
use mathlib.Core.Path.{refl, sym, ◌∙◌, ap}
use Prim.Native.Nat.{◌≤◌}
use native.Mathlib.Omega.{arith}
use lib.ListN.{length}
use Rattle.profile.specs.Automata.{lent}
use Rattle.profile.specs.Refusals.{refused_by}
use Rattle.theory.proofs.Refusals.{log_at, profile_at}
use Rattle.filewriter.specs.Written.{file_bytes}
use Rattle.filewriter.proofs.Answers.{file_fits, file_length, file_short, fit_of, write_refused, write_told}
use Rattle.putting.proofs.Texts.{sets_start}
use Rattle.filewriter.proofs.write_file.Goals as goal

pub returns-then-out-size : goal.returns-then-out-size
returns-then-out-size c =
    let a = c.args in
    let p = lent a.profile.now in
    let w = a.log.now in
    let good_profile = sym c.check_profile.ensures ∙ ap refused_by c.in_ok-check_profile.was in
    let good_log = sym c.check_log.ensures ∙ ap refused_by c.in_ok-check_log.was in
    write_refused p w a.out.now (file_short p w (length a.out.now) good_profile good_log (omega (arith, file_length p w, c.if-out-size.true)))

pub put_file-requires : goal.put_file-requires
put_file-requires c =
    let a = c.args in
    let p = lent a.profile.now in
    let good_profile = sym c.check_profile.ensures ∙ ap refused_by c.in_ok-check_profile.was in
    let good_log = sym c.check_log.ensures ∙ ap refused_by c.in_ok-check_log.was in
    fit_of a.profile.now.shape a.profile.now.masks.now a.profile.now.moves.now a.log.now a.out.now (profile_at p good_profile) (log_at a.profile.now.shape.k a.log.now good_log)
    (omega (arith, file_length p a.log.now, c.if-out-size.false))

pub returns : goal.returns
returns c =
    let a = c.args in
    let p = lent a.profile.now in
    let w = a.log.now in
    let out = a.out.now in
    let good_profile = sym c.check_profile.ensures ∙ ap refused_by c.in_ok-check_profile.was in
    let good_log = sym c.check_log.ensures ∙ ap refused_by c.in_ok-check_log.was in
    let n = file_length p w in
    let fits : length (file_bytes p w) ≤ length out = omega (arith, n, c.if-out-size.false) in
    write_told p w out (file_fits p w (length out) good_profile good_log fits) (omega (arith, n))
    (c.put_file.ensures ∙ sets_start out (file_bytes p w) (length (file_bytes p w)) refl fits)
