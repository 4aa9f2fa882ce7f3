-- `table::fill` meets its contract: the forward pass on the usable numbers, then the backward pass.
use borrow.Author.Rules.{rules}
use mathlib.Core.Path.{◌≡◌, subst}
use mathlib.Core.List.{◌++◌}
use Prim.Native.Nat.{ℕ, ◌-◌, ◌*◌}
use lib.ListN.{drop, take}
use Rattle.profile.specs.Automata.{lent}
use Rattle.profile.specs.Tables.{layout, record_length}
use native.Mathlib.Omega.{arith}
use Rattle.terms.specs.Coded.{rules_of}
use Rattle.forward.specs.Forward.{Forward}
use Rattle.std.specs.Prelude.{Some, None}
use Rattle.std.proofs.lemmas.Result.{err_from_is_err_and}
use Rattle.profile.specs.declared.Refusal.TheVariants.{FullTable}
use Rattle.table.proofs.Filling.{done, full, ready, whole, whole_length}
use Rattle.table.proofs.fill.Goals as goal

pub fill_backward-requires : goal.fill_backward-requires
fill_backward-requires g c =
    let s = c in
    let x = c.fill_forward in
    let a = s.args in
    let p = rules_of (lent a.profile.now) g.F.Finder.termed in
    let z : ℕ = record_length layout * a.room - 0 in
    let e : z ≡ record_length layout * a.room = omega arith in
    let q : x.result ≡ Some c.in_ok-pass.pass = grind arith in
    let h = subst (Forward p a.log.now a.room (take z a.table.now) x.new.table) q x.ensures in
    ready p a.log.now a.table.now s.requires.sound c.in_ok-pass.pass (x.new.table ++ drop z a.table.now) (whole p a.log.now a.table.now s.requires.sound z e x.new.table x.auto.table c.in_ok-pass.pass h) (whole_length p a.log.now a.table.now s.requires.sound z e x.new.table x.auto.table)

pub returns-in_err-pass : goal.returns-in_err-pass
returns-in_err-pass g c =
    let s = c in
    let x = c.fill_forward in
    let a = s.args in
    let p = rules_of (lent a.profile.now) g.F.Finder.termed in
    let z : ℕ = record_length layout * a.room - 0 in
    let e : z ≡ record_length layout * a.room = omega arith in
    let q : x.result ≡ None = grind arith in
    let h = subst (Forward p a.log.now a.room (take z a.table.now) x.new.table) q x.ensures in
    let y = err_from_is_err_and c.from_residual.result c.from_residual.ensures.1 in
    let i : y.0 ≡ FullTable = grind arith in
    rw (y.1, i) (full p a.log.now a.table.now s.requires.sound z e x.new.table x.auto.table h)

pub returns : goal.returns
returns g c =
    let s = c in
    let x = c.fill_forward in
    let a = s.args in
    let p = rules_of (lent a.profile.now) g.F.Finder.termed in
    let z : ℕ = record_length layout * a.room - 0 in
    let e : z ≡ record_length layout * a.room = omega arith in
    let q : x.result ≡ Some c.in_ok-pass.pass = grind arith in
    let h = subst (Forward p a.log.now a.room (take z a.table.now) x.new.table) q x.ensures in
    done p a.log.now a.table.now s.requires.sound c.in_ok-pass.pass (x.new.table ++ drop z a.table.now) (whole p a.log.now a.table.now s.requires.sound z e x.new.table x.auto.table c.in_ok-pass.pass h) (whole_length p a.log.now a.table.now s.requires.sound z e x.new.table x.auto.table)
    c.fill_backward.new.table c.fill_backward.ensures
