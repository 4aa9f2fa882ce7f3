-- `verdict::judge` meets its contract: 9 is told before building, and what is told of the order and the table follows from the table's promise.
use mathlib.Core.Path.{sym, ◌∙◌, subst}
use Rattle.profile.specs.Automata.{lent}
use Rattle.table.specs.Table as Built
use Rattle.verdict.proofs.Judging.{ready, told_some}
use Rattle.verdict.proofs.judge.Goals as goal

pub returns-then-put_verdict : goal.returns-then-put_verdict
returns-then-put_verdict c =
    let a = c.args in
    let b = c.build in
    let t = b.new.table in
    let v = c.put_verdict in
    let h = subst (Built.Promise (lent a.profile.now) a.log.now a.work.now t) c.in_ok-prefixes.was b.ensures in
    told_some (lent a.profile.now) a.log.now a.order.now a.work.now c.if-order-log.false t _ h v.new.order
    (sym c.put_verdict.ensures.value ∙ c.if-put_verdict.true) v.ensures.order_after

pub put_verdict-requires : goal.put_verdict-requires
put_verdict-requires c =
    let a = c.args in
    let b = c.build in
    let t = b.new.table in
    let h = subst (Built.Promise (lent a.profile.now) a.log.now a.work.now t) c.in_ok-prefixes.was b.ensures in
    (ready (lent a.profile.now) a.log.now a.order.now a.work.now c.if-order-log.false t _ h b.auto.table, (h.table.0, c.if-order-log.false))
