-- `seeing::view_seen` meets its contract: the profile that is made is that of the visible letters, and the answer by it is that of the view.
use mathlib.Core.Path.{◌≡◌, sym, ◌∙◌, subst}
use Prim.Native.Nat.{ℕ, ◌*◌, ◌-◌}
use native.Mathlib.Omega.{arith}
use lib.ListN.{drop, length, replicate, take}
use Rattle.profile.specs.Automata.{lent, profile_of}
use Rattle.views.specs.Views.{late}
use Rattle.cleared.specs.Cleared.{Clean}
use Rattle.seeing.proofs.Inner.{few_letters, few_moves, few_states, inner_answer, inner_clean, inner_is, inner_order, inner_table}
use borrow.Author.Rules.{rules}
use Rattle.seeing.proofs.view_seen.Goals as goal

pub put_reach-requires : goal.put_reach-requires
put_reach-requires c =
    let a = c.args in
    let p = lent a.profile.now in
    ((few_letters p a.visible a.log.now c.requires.clean).1, few_states p a.visible a.log.now c.requires.clean, few_states p a.visible a.log.now c.requires.clean)

pub put_moves-requires : goal.put_moves-requires
put_moves-requires c =
    let a = c.args in
    let p = lent a.profile.now in
    ((few_letters p a.visible a.log.now c.requires.clean).0, (few_letters p a.visible a.log.now c.requires.clean).1, few_states p a.visible a.log.now c.requires.clean, omega (arith, few_states p a.visible a.log.now c.requires.clean, c.put_reach.auto.reach), few_moves p a.visible a.log.now c.requires.clean)

pub led_into-finals-requires : goal.led_into-finals-requires
led_into-finals-requires c =
    let a = c.args in
    let p = lent a.profile.now in
    (few_states p a.visible a.log.now c.requires.clean, omega (arith, few_states p a.visible a.log.now c.requires.clean, c.put_reach.auto.reach))

pub overflow_mul-end : goal.overflow_mul-end
overflow_mul-end c =
    let a = c.args in
    let p = lent a.profile.now in
    let m = few_moves p a.visible a.log.now c.requires.clean in
    search rules

pub slice_bounds-view_late-end : goal.slice_bounds-view_late-end
slice_bounds-view_late-end c =
    let a = c.args in
    let p = lent a.profile.now in
    let m = few_moves p a.visible a.log.now c.requires.clean in
    let k = c.put_moves.auto.late in
    search rules

pub view_late-requires-clause-clean : goal.view_late-requires-clause-clean
view_late-requires-clause-clean c =
    let a = c.args in
    let p = lent a.profile.now in
    let R = c.put_reach.new.reach in
    let L = c.put_moves.new.late in
    let z : ℕ = a.profile.now.shape.s * a.profile.now.shape.k - 0 in
    let i : z ≡ a.profile.now.shape.s * a.profile.now.shape.k = omega arith in
    let e = c.put_reach.ensures in
    let same = inner_is p a.visible a.log.now c.requires.clean R (replicate 32 0) e (few_states p a.visible a.log.now c.requires.clean) c.led_into-finals.result L
    (drop (a.profile.now.shape.s * a.profile.now.shape.k) (replicate 512 0)) z c.led_into-finals.ensures i c.put_moves.ensures in
    subst (λ x. Clean x a.log.now) (sym same) (inner_clean p a.visible a.log.now c.requires.clean)

pub returns : goal.returns
returns c =
    let a = c.args in
    let p = lent a.profile.now in
    let R = c.put_reach.new.reach in
    let L = c.put_moves.new.late in
    let z : ℕ = a.profile.now.shape.s * a.profile.now.shape.k - 0 in
    let i : z ≡ a.profile.now.shape.s * a.profile.now.shape.k = omega arith in
    let e = c.put_reach.ensures in
    let l = few_states p a.visible a.log.now c.requires.clean in
    let q = profile_of (record { k = a.profile.now.shape.k; s = a.profile.now.shape.s; start = a.profile.now.shape.start; finals = c.led_into-finals.result }) a.profile.now.masks.now (take z L) in
    let same : q ≡ late p a.visible = inner_is p a.visible a.log.now c.requires.clean R (replicate 32 0) e l c.led_into-finals.result L
    (drop (a.profile.now.shape.s * a.profile.now.shape.k) (replicate 512 0)) z c.led_into-finals.ensures i c.put_moves.ensures in
    let w = c.view_late.ensures in
    record {
      value = w.value ∙ inner_answer p a.visible a.log.now c.requires.clean R (replicate 32 0) e l q same (length a.order.now) (length a.work.now);
      order_after = w.order_after ∙ inner_order p a.visible a.log.now c.requires.clean R (replicate 32 0) e l q same (length a.work.now) a.order.now;
      work_after = w.work_after ∙ inner_table p a.visible a.log.now c.requires.clean R (replicate 32 0) e l q same (length a.order.now) a.work.now;
    }
