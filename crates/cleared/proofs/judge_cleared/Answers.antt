-- `cleared::judge_cleared` meets its contract.
use mathlib.Core.Path.{◌≡◌, sym, ◌∙◌}
use Prim.Native.Nat.{ℕ, ◌-◌}
use lib.ListN.{length}
use native.Mathlib.Omega.{arith}
use Rattle.profile.specs.Automata.{lent}
use Rattle.cleared.specs.Cleared.{usable}
use Rattle.cleared.proofs.Cleared.{told_err, told_ok}
use Rattle.cleared.proofs.judge_cleared.Goals as goal

pub returns-then-is_err : goal.returns-then-is_err
returns-then-is_err c =
    let a = c.args in
    let p = lent a.profile.now in
    let j = c.judge-told in
    let z : ℕ = c.usable-room.result - 0 in
    let e : z ≡ usable (length a.work.now) = omega (arith, c.usable-room.ensures.0) in
    let g = told_err p a.log.now c.requires.clean a.work.now z e a.order.now j.new.order j.new.work c.requires.log_in_bounds j.auto.work j.result (sym c.is_err.ensures.value ∙ c.if-is_err.true)
    j.ensures c.fill.new.self (c.fill.ensures.after (λ y h. h)) in
    record { value = g.0; order_after = g.1.0; work_after = g.1.1 }

pub returns-else-is_err : goal.returns-else-is_err
returns-else-is_err c =
    let a = c.args in
    let p = lent a.profile.now in
    let j = c.judge-told in
    let z : ℕ = c.usable-room.result - 0 in
    let e : z ≡ usable (length a.work.now) = omega (arith, c.usable-room.ensures.0) in
    let g = told_ok p a.log.now c.requires.clean a.work.now z e a.order.now j.new.order j.new.work c.requires.log_in_bounds j.auto.work j.result (sym c.is_err.ensures.value ∙ c.if-is_err.false)
    j.ensures in
    record { value = g.0; order_after = g.1.0; work_after = g.1.1 }
