-- `seeing::view_late` meets its contract.
use mathlib.Core.Path.{sym, ◌∙◌, ap}
use native.Mathlib.Omega.{arith}
use Rattle.profile.specs.Automata.{lent}
use Rattle.profile.specs.Refusals.{refused_by}
use Rattle.std.proofs.lemmas.Result.{err_from_is_err_and}
use Rattle.theory.proofs.Refusals.{profile_at}
use Rattle.verdict.proofs.Promises.{told_prefixes}
use Rattle.seeing.proofs.Told.{hulls_fit, hulls_table, other_table}
use Rattle.seeing.proofs.view_late.Goals as goal

pub put_hulls-requires : goal.put_hulls-requires
put_hulls-requires c =
    let a = c.args in
    let p = lent a.profile.now in
    let j = c.judge_cleared in
    let h = c.in_ok-judged.was in
    (omega (arith, hulls_fit p a.log.now a.order.now a.work.now a.reach.now c.requires.clean c.requires.log_in_bounds j.result j.ensures.value (ap refused_by h) c.prefixes_of-prefixes.result (ap told_prefixes h ∙ c.prefixes_of-prefixes.ensures), j.auto.work), (profile_at p c.requires.clean.profile).states.1)

pub returns-in_err-judged : goal.returns-in_err-judged
returns-in_err-judged c =
    let a = c.args in
    let p = lent a.profile.now in
    let j = c.judge_cleared in
    let h = c.in_err-judged.was in
    let e = err_from_is_err_and c.from_residual.result c.from_residual.ensures.1 in
    rw (e.1, e.2) (record {
      value = sym h ∙ j.ensures.value;
      order_after = j.ensures.order_after;
      work_after = other_table p a.log.now a.order.now a.work.now a.reach.now c.requires.clean c.requires.log_in_bounds j.result j.ensures.value (ap refused_by h) j.new.work j.ensures.work_after;
    })

pub returns : goal.returns
returns c =
    let a = c.args in
    let p = lent a.profile.now in
    let j = c.judge_cleared in
    let h = c.in_ok-judged.was in
    record {
      value = sym h ∙ j.ensures.value;
      order_after = j.ensures.order_after;
      work_after = hulls_table p a.log.now a.order.now a.work.now a.reach.now c.requires.clean c.requires.log_in_bounds j.result j.ensures.value (ap refused_by h) c.prefixes_of-prefixes.result (ap told_prefixes h ∙ c.prefixes_of-prefixes.ensures) j.new.work c.put_hulls.new.table j.ensures.work_after c.put_hulls.ensures;
    }
