-- `bare::build` meets its contract.
use mathlib.Core.Path.{subst}
use Prim.Native.Nat.{ℕ, ◌-◌}
use lib.ListN.{replicate, take}
use Rattle.profile.specs.Limits.{most_letters}
use Rattle.std.proofs.lemmas.Result.{err_from_is_err_and}
use Rattle.table.specs.Table.{Promise}
use Rattle.theory.proofs.Refusals.{relation_at}
use Rattle.bare.proofs.Building.{built_filled, built_full, none_part, part_long, room}
use Rattle.bare.proofs.Silent.{silent}
use native.Mathlib.Omega.{arith}
use Rattle.bare.proofs.build.Goals as goal

pub slice_bounds-build-end : goal.slice_bounds-build-end
slice_bounds-build-end c = let most = (relation_at c.args.k c.args.masks.now c.requires.0).most in omega (arith, most)

pub bounds-work-8 : goal.bounds-work-8
bounds-work-8 c =
    let a = c.args in
    let mv = take {A = ℕ} (a.k - 0) (replicate most_letters 0) in
    let most = (relation_at a.k a.masks.now c.requires.0).most in
    let f = subst (Promise (silent a.k a.masks.now mv (none_part most_letters (a.k - 0))) a.log.now a.work.now c.build.new.table) c.in_ok-filled.was c.build.ensures in
    let h = room a.k a.masks.now mv a.log.now (none_part most_letters (a.k - 0)) (part_long most_letters a.k most) c.requires.0 c.requires.1 a.work.now _ _ f in
    omega (arith, h, c.build.auto.table)

pub returns-in_err-filled : goal.returns-in_err-filled
returns-in_err-filled c =
    let a = c.args in
    let mv = take {A = ℕ} (a.k - 0) (replicate most_letters 0) in
    let most = (relation_at a.k a.masks.now c.requires.0).most in
    let f = subst (Promise (silent a.k a.masks.now mv (none_part most_letters (a.k - 0))) a.log.now a.work.now c.build.new.table) c.in_err-filled.was c.build.ensures in
    let e = err_from_is_err_and c.from_residual.result c.from_residual.ensures.1 in
    rw (e.1, e.2) (built_full a.k a.masks.now mv a.log.now (none_part most_letters (a.k - 0)) (part_long most_letters a.k most) c.requires.0 c.requires.1 a.work.now _ _ f)

pub returns : goal.returns
returns c =
    let a = c.args in
    let mv = take {A = ℕ} (a.k - 0) (replicate most_letters 0) in
    let most = (relation_at a.k a.masks.now c.requires.0).most in
    let f = subst (Promise (silent a.k a.masks.now mv (none_part most_letters (a.k - 0))) a.log.now a.work.now c.build.new.table) c.in_ok-filled.was c.build.ensures in
    built_filled a.k a.masks.now mv a.log.now (none_part most_letters (a.k - 0)) (part_long most_letters a.k most) c.requires.0 c.requires.1 a.work.now _ _ f
