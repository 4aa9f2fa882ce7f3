-- `table::build` meets its contract: the checks come first, then the table is filled.
use mathlib.Core.Path.{sym, ◌∙◌, ap}
use lib.ListN.{length}
use Rattle.profile.specs.Automata.{lent}
use Rattle.profile.specs.Refusals.{refused_by}
use Rattle.std.proofs.lemmas.Result.{err_from_is_err_and}
use Rattle.table.proofs.Filling.{answered, log_refused, profile_refused, sound}
use Rattle.table.proofs.build.Goals as goal

pub returns-in_err-check_profile : goal.returns-in_err-check_profile
returns-in_err-check_profile c =
    let a = c.args in
    let p = err_from_is_err_and c.from_residual.result c.from_residual.ensures.1 in
    rw (p.1, p.2) (profile_refused (lent a.profile.now) a.log.now a.table.now _
    (sym c.check_profile.ensures ∙ ap refused_by c.in_err-check_profile.was))

pub returns-in_err-check_log : goal.returns-in_err-check_log
returns-in_err-check_log c =
    let a = c.args in
    let p = err_from_is_err_and c.from_residual-in_err-check_log.result c.from_residual-in_err-check_log.ensures.1 in
    rw (p.1, p.2) (log_refused (lent a.profile.now) a.log.now a.table.now _
    (sym c.check_profile.ensures ∙ ap refused_by c.in_ok-check_profile.was)
    (sym c.check_log.ensures ∙ ap refused_by c.in_err-check_log.was))

pub fill_plain-requires : goal.fill_plain-requires
fill_plain-requires c =
    let a = c.args in
    sound (lent a.profile.now) a.log.now (length a.table.now) c.capacity-room.result
    (sym c.check_profile.ensures ∙ ap refused_by c.in_ok-check_profile.was)
    (sym c.check_log.ensures ∙ ap refused_by c.in_ok-check_log.was) c.capacity-room.ensures

pub returns : goal.returns
returns c =
    let a = c.args in
    answered (lent a.profile.now) a.log.now a.table.now c.fill_plain.new.table
    (sym c.check_profile.ensures ∙ ap refused_by c.in_ok-check_profile.was)
    (sym c.check_log.ensures ∙ ap refused_by c.in_ok-check_log.was) c.fill_plain.result c.fill_plain.ensures
