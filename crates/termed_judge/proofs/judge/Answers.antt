-- `termed_judge::judge` meets its contract: the checks come first, then the events are coded and the codes judged.
use mathlib.Core.Path.{◌≡◌, sym, ◌∙◌, ap, subst}
use mathlib.Core.Bool.{true}
use mathlib.Core.Option.{none}
use native.Mathlib.Omega.{arith}
use lib.ListN.{length}
use Rattle.std.proofs.lemmas.Result.{err_from_is_err_and}
use Rattle.profile.specs.Automata.{lent}
use Rattle.profile.specs.Refusals.{refused_by, lowest}
use Rattle.terms.specs.Coded.{rules_of}
use Rattle.term_checks.specs.Admission.{dated_admission}
use Rattle.term_checks.proofs.Admission.{DatedAdmitted, dated_admitted}
use Rattle.termed_judge.specs.CodedCalls.{Answered, CodedCall}
use Rattle.termed_judge.proofs.Codes.{coded_call, coded_front, coded_length, coding, told_early, told_late}
use Rattle.termed_judge.proofs.judge.Goals as goal
use Rattle.termed_judge.proofs.judge.Goals.{In_ok-check_call}

pub returns-in_err-check_call : goal.returns-in_err-check_call
returns-in_err-check_call c =
    let a = c.args in
    let p = err_from_is_err_and c.from_residual.result c.from_residual.ensures.1 in
    rw (p.1, p.2) (told_early (lent a.profile.now) a.log.now a.calendar.now.days.now a.calendar.now.terms.now a.order.now a.work.now _
    (sym c.check_call.ensures ∙ ap refused_by c.in_err-check_call.was))

-- nothing but 10 can refuse
unrefused : (c : In_ok-check_call) → let a = c.args in lowest (dated_admission (lent a.profile.now) a.log.now a.calendar.now.days.now a.calendar.now.terms.now (length a.order.now)) ≡ none
unrefused c = sym c.check_call.ensures ∙ ap refused_by c.in_ok-check_call.was

admitted : (c : In_ok-check_call) → let a = c.args in DatedAdmitted (lent a.profile.now) a.log.now a.calendar.now.days.now a.calendar.now.terms.now (length a.order.now)
admitted c = let a = c.args in dated_admitted (lent a.profile.now) a.log.now a.calendar.now.days.now a.calendar.now.terms.now (length a.order.now) (unrefused c)

pub code_events-requires : goal.code_events-requires
code_events-requires c = let a = c.args in let x = admitted (goal.at.code_events-requires c).In_ok-check_call in coding (lent a.profile.now) a.log.now a.calendar.now.days.now a.calendar.now.terms.now x 4000 x.log.short

pub slice_bounds-judge_coded-end : goal.slice_bounds-judge_coded-end
slice_bounds-judge_coded-end c = let x = admitted (goal.at.slice_bounds-judge_coded-end c).In_ok-check_call in omega (arith, x.log.short, c.code_events.auto.codes)

pub judge_coded-requires : goal.judge_coded-requires
judge_coded-requires c =
    let a = c.args in
    let x = admitted (goal.at.judge_coded-requires c).In_ok-check_call in
    let front = coded_front (lent a.profile.now) a.log.now a.calendar.now.days.now a.calendar.now.terms.now x _ _ c.code_events.ensures in
    record {
      coded_call = subst (CodedCall (lent a.profile.now) a.log.now) (sym front) (coded_call (lent a.profile.now) a.log.now a.calendar.now.days.now a.calendar.now.terms.now x);
      codes_in_bounds = omega (arith, ap length front, coded_length (lent a.profile.now) a.log.now a.calendar.now.days.now a.calendar.now.terms.now x, x.room);
    }

pub returns : goal.returns
returns c =
    let a = c.args in
    let told = (goal.at.returns c).In_ok-check_call in
    let x = admitted told in
    let j = c.judge_coded in
    told_late (lent a.profile.now) a.log.now a.calendar.now.days.now a.calendar.now.terms.now a.order.now a.work.now (unrefused told) _ _ j.result
    (subst (λ w. Answered (rules_of (lent a.profile.now) true) w a.order.now j.new.order a.work.now j.new.work j.result) (coded_front (lent a.profile.now) a.log.now a.calendar.now.days.now a.calendar.now.terms.now x _ _ c.code_events.ensures) j.ensures)
