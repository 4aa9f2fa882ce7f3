-- `view::view` meets its contract.
use mathlib.Core.Path.{◌≡◌, refl, sym, ◌∙◌, ap}
use Prim.Native.Nat.{ℕ, ◌-◌}
use native.Mathlib.Omega.{arith}
use lib.ListN.{length, take}
use Rattle.profile.specs.Automata.{lent}
use Rattle.profile.specs.Refusals.{refused_by}
use Rattle.std.proofs.lemmas.Result.{err_from_is_err_and}
use Rattle.views.proofs.Refused.{seen_length}
use Rattle.view.proofs.Viewed.{entry_clean, entry_few, entry_good, told_entry, told_seen, told_short}
use borrow.Author.Rules.{rules}
use Rattle.view.proofs.view.Goals as goal

pub returns-in_err-check_entry : goal.returns-in_err-check_entry
returns-in_err-check_entry c =
    let a = c.args in
    let p = lent a.profile.now in
    let e = err_from_is_err_and c.from_residual.result c.from_residual.ensures.1 in
    rw (e.1, e.2) (told_entry p a.visible a.log.now a.order.now a.work.now (sym c.check_entry.ensures ∙ ap refused_by c.in_err-check_entry.was))

pub put_seen-n-requires : goal.put_seen-n-requires
put_seen-n-requires c =
    let a = c.args in
    let p = lent a.profile.now in
    let clean = sym c.check_entry.ensures ∙ ap refused_by c.in_ok-check_entry.was in
    (entry_few p a.visible a.log.now clean, refl, entry_good p a.visible a.log.now clean)

pub returns-then-order-n : goal.returns-then-order-n
returns-then-order-n c =
    let a = c.args in
    let p = lent a.profile.now in
    let clean = sym c.check_entry.ensures ∙ ap refused_by c.in_ok-check_entry.was in
    told_short p a.visible a.log.now a.order.now a.work.now clean (omega (arith, c.put_seen-n.ensures.0, c.if-order-n.true))

pub slice_bounds-view_seen-end : goal.slice_bounds-view_seen-end
slice_bounds-view_seen-end c =
    let a = c.args in
    let p = lent a.profile.now in
    let clean = sym c.check_entry.ensures ∙ ap refused_by c.in_ok-check_entry.was in
    let g = (entry_good p a.visible a.log.now clean).short in
    let l = seen_length a.visible a.log.now in
    let r = c.put_seen-n.ensures.0 in
    let k = c.put_seen-n.auto.part in
    search rules

pub returns : goal.returns
returns c =
    let a = c.args in
    let p = lent a.profile.now in
    let clean = sym c.check_entry.ensures ∙ ap refused_by c.in_ok-check_entry.was in
    let s = c.put_seen-n in
    let z : ℕ = s.result - 0 in
    let i : z ≡ s.result = omega arith in
    let e = ap (λ m. take m s.new.part) i ∙ s.ensures.1 in
    let v = c.view_seen in
    told_seen p a.visible a.log.now a.order.now a.work.now clean (take z s.new.part) e v.result v.new.order v.new.work v.ensures.value v.ensures.order_after v.ensures.work_after

pub view_seen-requires-clause-clean : goal.view_seen-requires-clause-clean
view_seen-requires-clause-clean c =
    let a = c.args in
    let p = lent a.profile.now in
    let clean = sym c.check_entry.ensures ∙ ap refused_by c.in_ok-check_entry.was in
    let s = c.put_seen-n in
    let z : ℕ = s.result - 0 in
    let i : z ≡ s.result = omega arith in
    let e = ap (λ m. take m s.new.part) i ∙ s.ensures.1 in
    entry_clean p a.visible a.log.now clean (take z s.new.part) e

pub view_seen-requires-clause-log_in_bounds : goal.view_seen-requires-clause-log_in_bounds
view_seen-requires-clause-log_in_bounds c =
    let s = c.put_seen-n in
    let z : ℕ = s.result - 0 in
    let i : z ≡ s.result = omega arith in
    let e = ap (λ m. take m s.new.part) i ∙ s.ensures.1 in
    omega (arith, ap length e, s.ensures.0, c.if-order-n.false)
