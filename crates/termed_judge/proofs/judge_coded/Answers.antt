-- `termed_judge::judge_coded` meets its contract: what is told of the order and the table follows from what filling the table gives.
use mathlib.Core.Path.{sym, ◌∙◌, subst}
use mathlib.Core.Bool.{true}
use Rattle.std.proofs.lemmas.Result.{err_from_is_err_and}
use Rattle.profile.specs.Automata.{lent}
use Rattle.terms.specs.Coded.{rules_of}
use Rattle.table.specs.Table.{Fills}
use Rattle.termed_judge.proofs.Answers.{ready, told_none, told_refused, told_some}
use Rattle.termed_judge.proofs.judge_coded.Goals as goal

pub put_verdict-requires : goal.put_verdict-requires
put_verdict-requires c =
    let a = c.args in
    let b = c.fill_coded in
    let p = rules_of (lent a.profile.now) true in
    let h = subst (Fills p a.codes.now a.work.now b.new.table) c.in_ok-prefixes.was b.ensures in
    (ready p a.codes.now a.order.now a.work.now b.new.table _ h c.requires.coded_call.profile c.requires.coded_call.events b.auto.table, (h.table.0, c.requires.codes_in_bounds))

pub returns-in_err-prefixes : goal.returns-in_err-prefixes
returns-in_err-prefixes c =
    let a = c.args in
    let b = c.fill_coded in
    let p = rules_of (lent a.profile.now) true in
    let h = subst (Fills p a.codes.now a.work.now b.new.table) c.in_err-prefixes.was b.ensures in
    let e = err_from_is_err_and c.from_residual.result c.from_residual.ensures.1 in
    rw (e.1, e.2) (told_refused p a.codes.now a.order.now a.work.now b.new.table _ h)

pub returns-then-put_verdict : goal.returns-then-put_verdict
returns-then-put_verdict c =
    let a = c.args in
    let b = c.fill_coded in
    let p = rules_of (lent a.profile.now) true in
    let h = subst (Fills p a.codes.now a.work.now b.new.table) c.in_ok-prefixes.was b.ensures in
    let v = c.put_verdict in
    told_some p a.codes.now a.order.now a.work.now b.new.table _ h v.new.order (sym v.ensures.value ∙ c.if-put_verdict.true) v.ensures.order_after

pub returns-else-put_verdict : goal.returns-else-put_verdict
returns-else-put_verdict c =
    let a = c.args in
    let b = c.fill_coded in
    let p = rules_of (lent a.profile.now) true in
    let h = subst (Fills p a.codes.now a.work.now b.new.table) c.in_ok-prefixes.was b.ensures in
    let v = c.put_verdict in
    told_none p a.codes.now a.order.now a.work.now b.new.table _ h v.new.order (sym v.ensures.value ∙ c.if-put_verdict.false) v.ensures.order_after
