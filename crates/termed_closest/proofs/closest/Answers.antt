-- `termed_closest::closest` meets its contract: the checks come first, then the events are coded, and the order is that of the codes.
use borrow.Author.Rules.{rules}
use mathlib.Core.Path.{◌≡◌, sym, ◌∙◌, ap, subst}
use mathlib.Core.Bool.{true}
use mathlib.Core.Option.{none}
use native.Mathlib.Omega.{arith}
use lib.ListN.{length}
use Rattle.std.proofs.lemmas.Result.{err_from_is_err_and}
use Rattle.profile.specs.Automata.{lent}
use Rattle.profile.specs.Refusals.{refused_by, lowest}
use Rattle.terms.specs.Coded.{rules_of}
use Rattle.term_checks.specs.Admission.{dated_admission}
use Rattle.term_checks.proofs.Admission.{DatedAdmitted, dated_admitted}
use Rattle.termed_judge.specs.CodedCalls.{CodedCall}
use Rattle.termed_judge.proofs.Codes.{coded_call, coded_front, coding}
use Rattle.termed_closest.specs.CodedAnswers.{Answered}
use Rattle.termed_closest.proofs.Codes.{told_early, told_late}
use Rattle.termed_closest.proofs.closest.Goals as goal
use Rattle.termed_closest.proofs.closest.Goals.{In_ok-check_call}

pub returns-in_err-check_call : goal.returns-in_err-check_call
returns-in_err-check_call c =
    let a = c.args in
    let e = err_from_is_err_and c.from_residual.result c.from_residual.ensures.1 in
    rw (e.1, e.2) (told_early (lent a.profile.now) a.log.now a.calendar.now.days.now a.calendar.now.terms.now a.budget a.order.now a.work.now a.costs.now _
    (sym c.check_call.ensures ∙ ap refused_by c.in_err-check_call.was))

-- nothing but 10 and 17 can refuse
unrefused : (c : In_ok-check_call) → let a = c.args in lowest (dated_admission (lent a.profile.now) a.log.now a.calendar.now.days.now a.calendar.now.terms.now (length a.order.now)) ≡ none
unrefused c = sym c.check_call.ensures ∙ ap refused_by c.in_ok-check_call.was

admitted : (c : In_ok-check_call) → let a = c.args in DatedAdmitted (lent a.profile.now) a.log.now a.calendar.now.days.now a.calendar.now.terms.now (length a.order.now)
admitted c = let a = c.args in dated_admitted (lent a.profile.now) a.log.now a.calendar.now.days.now a.calendar.now.terms.now (length a.order.now) (unrefused c)

pub code_events-requires : goal.code_events-requires
code_events-requires c = let a = c.args in let x = admitted (goal.at.code_events-requires c).In_ok-check_call in coding (lent a.profile.now) a.log.now a.calendar.now.days.now a.calendar.now.terms.now x 4000 x.log.short

pub slice_bounds-closest_coded-end : goal.slice_bounds-closest_coded-end
slice_bounds-closest_coded-end c = let x = admitted (goal.at.slice_bounds-closest_coded-end c).In_ok-check_call in omega (arith, x.log.short, c.code_events.auto.codes)

pub closest_coded-requires : goal.closest_coded-requires
closest_coded-requires c =
    let a = c.args in
    let x = admitted (goal.at.closest_coded-requires c).In_ok-check_call in
    let front = coded_front (lent a.profile.now) a.log.now a.calendar.now.days.now a.calendar.now.terms.now x _ _ c.code_events.ensures in
    record {
      coded_call = subst (CodedCall (lent a.profile.now) a.log.now) (sym front) (coded_call (lent a.profile.now) a.log.now a.calendar.now.days.now a.calendar.now.terms.now x);
      log_in_bounds = x.room;
    }

pub returns : goal.returns
returns c =
    let a = c.args in
    let told = (goal.at.returns c).In_ok-check_call in
    let x = admitted told in
    let j = c.closest_coded in
    told_late (lent a.profile.now) a.log.now a.calendar.now.days.now a.calendar.now.terms.now a.budget a.order.now a.work.now a.costs.now (unrefused told) _ _ _ j.result
    (subst (λ w. Answered (rules_of (lent a.profile.now) true) w a.budget a.order.now j.new.order a.work.now j.new.work a.costs.now j.new.costs j.result) (coded_front (lent a.profile.now) a.log.now a.calendar.now.days.now a.calendar.now.terms.now x _ _ c.code_events.ensures) j.ensures)
