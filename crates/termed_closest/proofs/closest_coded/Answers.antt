-- `termed_closest::closest_coded` meets its contract: what is told follows from what filling the table gives, and from the answer over it.
use borrow.Author.Rules.{rules}
use mathlib.Core.Path.{sym, subst}
use mathlib.Core.Bool.{true}
use Rattle.std.proofs.lemmas.Result.{err_from_is_err_and}
use Rattle.profile.specs.Automata.{lent}
use Rattle.terms.specs.Coded.{rules_of}
use Rattle.table.specs.Table.{Fills}
use Rattle.termed_judge.proofs.Answers.{ready}
use Rattle.termed_closest.proofs.Answers.{told_answer, told_refused}
use Rattle.termed_closest.proofs.closest_coded.Goals as goal

pub answer-requires : goal.answer-requires
answer-requires c =
    let s = c in
    let a = s.args in
    let b = c.fill_coded in
    let p = rules_of (lent a.profile.now) true in
    let h = subst (Fills p a.codes.now a.work.now b.new.table) c.in_ok-filled.was b.ensures in
    (ready p a.codes.now a.order.now a.work.now b.new.table _ h s.requires.coded_call.profile s.requires.coded_call.events b.auto.table, (h.table.0, (sym s.requires.coded_call.letters, s.requires.log_in_bounds)))

pub returns-in_err-filled : goal.returns-in_err-filled
returns-in_err-filled c =
    let a = c.args in
    let b = c.fill_coded in
    let p = rules_of (lent a.profile.now) true in
    let h = subst (Fills p a.codes.now a.work.now b.new.table) c.in_err-filled.was b.ensures in
    let e = err_from_is_err_and c.from_residual.result c.from_residual.ensures.1 in
    rw (e.1, e.2) (told_refused p a.codes.now a.budget a.order.now a.work.now b.new.table a.costs.now _ h)

pub returns : goal.returns
returns c =
    let a = c.args in
    let b = c.fill_coded in
    let p = rules_of (lent a.profile.now) true in
    let h = subst (Fills p a.codes.now a.work.now b.new.table) c.in_ok-filled.was b.ensures in
    let o = c.answer in
    told_answer p a.codes.now a.budget a.order.now a.work.now b.new.table a.costs.now _ h o.new.order o.new.costs o.result o.ensures
