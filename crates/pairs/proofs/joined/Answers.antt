-- `pairs::joined` meets its contract.
use mathlib.Core.Path.{sym}
use mathlib.Core.Path.{subst₂}
use Prim.Native.Nat.{◌+◌, ◌<◌, ◌≤◌}
use lib.ListN.{length}
use Rattle.pairs.specs.Pairs.{JoinedIs}
use Rattle.pairs.proofs.Squares.{row_is, row_long}
use native.Mathlib.Omega.{arith}
use Rattle.pairs.proofs.joined.Goals as goal

pub meeting_names-requires : goal.meeting_names-requires
meeting_names-requires c =
    let a = c.args in
    let q = c.requires in
    let n = a.nested.now.records in
    let l = a.sets.now in
    let e₁ = row_is l c.place-row.result n a.i c.place-row.ensures.0 in
    let e₂ = row_is l c.place-column.result n a.j c.place-column.ensures.0 in
    subst₂ (λ u v. (a.i < a.j) × (a.j ≤ length u) × (a.j ≤ length v)) (sym e₁) (sym e₂)
    (omega arith, omega (arith, row_long l n a.i (omega arith) q.2), omega (arith, row_long l n a.j (omega arith) q.2))

pub returns : goal.returns
returns c =
    let a = c.args in
    let n = a.nested.now.records in
    let l = a.sets.now in
    let r = c.meeting_names.result in
    let e₁ = row_is l c.place-row.result n a.i c.place-row.ensures.0 in
    let e₂ = row_is l c.place-column.result n a.j c.place-column.ensures.0 in
    subst₂ (λ u v. JoinedIs a.nested.now.grammar.rules.now u v (a.i + 1) a.j r) e₁ e₂ c.meeting_names.ensures
