-- `report::put_judged` meets its contract: what is put follows from what the judge promises.
use mathlib.Core.Path.{refl, sym, subst}
use Prim.Native.Nat.{◌-◌}
use native.Mathlib.Omega.{arith}
use lib.ListN.{length, replicate, length-take}
use Rattle.profile.specs.Limits.{longest}
use Rattle.profile.specs.Automata.{lent}
use Rattle.verdict.specs.Verdict.{Promise}
use Rattle.report.proofs.Printing.{order_room, table_none, table_refused, table_some, text_none, text_refused, text_some}
use Rattle.putting.proofs.Texts.{put_as, put_kept, put_then}
use Rattle.report.proofs.put_judged.Goals as goal

pub slice_bounds-put_order-end : goal.slice_bounds-put_order-end
slice_bounds-put_order-end c =
    let a = c.args in
    let p = lent a.profile.now in
    let j = c.judge in
    let h = rw c.in-Ok-Order.field-0-is at c.in-Ok-Order.ensures in
    omega (arith, order_room p a.log.now (replicate longest 0) j.new.order a.work.now j.new.work refl c.in-Ok-Order.prefixes c.in-Ok-Order.field-0-1 h, j.auto.order)

pub put_order-requires : goal.put_order-requires
put_order-requires c =
    let a = c.args in
    let p = lent a.profile.now in
    let j = c.judge in
    let h = rw c.in-Ok-Order.field-0-is at c.in-Ok-Order.ensures in
    let v = c.put_verdict-end.ensures in
    omega (arith, order_room p a.log.now (replicate longest 0) j.new.order a.work.now j.new.work refl c.in-Ok-Order.prefixes c.in-Ok-Order.field-0-1 h, length-take (length a.log.now - 0) j.new.order, v.upper_bound, put_kept v.put, c.requires)

pub returns-in-Err-clause-put : goal.returns-in-Err-clause-put
returns-in-Err-clause-put c =
    let a = c.args in
    let p = lent a.profile.now in
    let j = c.judge in
    let h = subst (Promise p a.log.now (replicate longest 0) j.new.order a.work.now j.new.work) c.in-Err.is j.ensures in
    put_as (sym (text_refused p a.log.now (replicate longest 0) j.new.order a.work.now j.new.work refl c.in-Err.r h)) c.put_refused.ensures

pub returns-in-Err-clause-judged_table : goal.returns-in-Err-clause-judged_table
returns-in-Err-clause-judged_table c =
    let a = c.args in
    let p = lent a.profile.now in
    let j = c.judge in
    let h = subst (Promise p a.log.now (replicate longest 0) j.new.order a.work.now j.new.work) c.in-Err.is j.ensures in
    table_refused p a.log.now (replicate longest 0) j.new.order a.work.now j.new.work refl c.in-Err.r h

pub returns-in-Ok-NoOrder-clause-put : goal.returns-in-Ok-NoOrder-clause-put
returns-in-Ok-NoOrder-clause-put c =
    let a = c.args in
    let p = lent a.profile.now in
    let j = c.judge in
    let h = rw c.in-Ok-NoOrder.field-0-is at c.in-Ok-NoOrder.ensures in
    put_as (sym (text_none p a.log.now (replicate longest 0) j.new.order a.work.now j.new.work refl c.in-Ok-NoOrder.prefixes c.in-Ok-NoOrder.field-0-1 h)) c.put_verdict.ensures.put

pub returns-in-Ok-NoOrder-clause-judged_table : goal.returns-in-Ok-NoOrder-clause-judged_table
returns-in-Ok-NoOrder-clause-judged_table c =
    let a = c.args in
    let p = lent a.profile.now in
    let j = c.judge in
    let h = rw c.in-Ok-NoOrder.field-0-is at c.in-Ok-NoOrder.ensures in
    table_none p a.log.now (replicate longest 0) j.new.order a.work.now j.new.work refl c.in-Ok-NoOrder.prefixes c.in-Ok-NoOrder.field-0-1 h

pub returns-in-Ok-Order-clause-put : goal.returns-in-Ok-Order-clause-put
returns-in-Ok-Order-clause-put c =
    let a = c.args in
    let p = lent a.profile.now in
    let j = c.judge in
    let h = rw c.in-Ok-Order.field-0-is at c.in-Ok-Order.ensures in
    put_as (sym (text_some p a.log.now (replicate longest 0) j.new.order a.work.now j.new.work refl c.in-Ok-Order.prefixes c.in-Ok-Order.field-0-1 h)) (put_then c.put_verdict-end.ensures.put c.put_order.ensures)

pub returns-in-Ok-Order-clause-judged_table : goal.returns-in-Ok-Order-clause-judged_table
returns-in-Ok-Order-clause-judged_table c =
    let a = c.args in
    let p = lent a.profile.now in
    let j = c.judge in
    let h = rw c.in-Ok-Order.field-0-is at c.in-Ok-Order.ensures in
    table_some p a.log.now (replicate longest 0) j.new.order a.work.now j.new.work refl c.in-Ok-Order.prefixes c.in-Ok-Order.field-0-1 h
