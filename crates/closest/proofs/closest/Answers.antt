-- `closest::closest` meets its contract.
use borrow.Author.Rules.{rules}
use mathlib.Core.Path.{subst}
use mathlib.Core.List.{map-id}
use Rattle.profile.specs.Automata.{lent}
use Rattle.std.proofs.lemmas.Result.{err_from_is_err_and}
use Rattle.table.specs.Table as Built
use Rattle.verdict.proofs.Judging.{ready}
use Rattle.closest.proofs.Answering.{told_answer, told_refused, told_short}
use Rattle.closest.proofs.closest.Goals as goal

pub returns-then-order-log : goal.returns-then-order-log
returns-then-order-log c =
    let a = c.args in
    told_short (lent a.profile.now) a.log.now a.budget a.order.now a.work.now a.costs.now c.if-order-log.true c.refusal_of_short.ensures

pub answer-requires : goal.answer-requires
answer-requires c =
    let a = c.args in
    let b = c.build in
    let t = b.new.table in
    let h = subst (Built.Promise (lent a.profile.now) a.log.now a.work.now t) c.in_ok-filled.was b.ensures in
    (ready (lent a.profile.now) a.log.now a.order.now a.work.now c.if-order-log.false t _ h b.auto.table, (h.table.0, (map-id a.log.now, c.if-order-log.false)))

pub returns-in_err-filled : goal.returns-in_err-filled
returns-in_err-filled c =
    let a = c.args in
    let t = c.build.new.table in
    let h = subst (Built.Promise (lent a.profile.now) a.log.now a.work.now t) c.in_err-filled.was c.build.ensures in
    let e = err_from_is_err_and c.from_residual.result c.from_residual.ensures.1 in
    rw (e.1, e.2) (told_refused (lent a.profile.now) a.log.now a.budget a.order.now a.work.now a.costs.now c.if-order-log.false t _ h)

pub returns : goal.returns
returns c =
    let a = c.args in
    let b = c.build in
    let t = b.new.table in
    let h = subst (Built.Promise (lent a.profile.now) a.log.now a.work.now t) c.in_ok-filled.was b.ensures in
    let o = c.answer in
    told_answer (lent a.profile.now) a.log.now a.budget a.order.now a.work.now a.costs.now c.if-order-log.false t _ h o.new.order o.new.costs o.result o.ensures
