-- `parts::parts_of` meets its contract.
use mathlib.Core.Path.{sym}
use mathlib.Core.Path.{subst₂}
use Prim.Native.Nat.{ℕ, ◌+◌, ◌≤◌, ◌<◌}
use lib.ListN.{length}
use Rattle.pairs.specs.Pairs.{Meets}
use Rattle.pairs.proofs.Squares.{row_is, row_long}
use native.Mathlib.Omega.{arith}
use Rattle.parts.proofs.parts_of.Goals as goal

pub meeting-requires : goal.meeting-requires
meeting-requires c =
    let a = c.args in
    let q = c.requires.i_lt_j in
    let n = a.nested.now.records in
    let l = a.sets.now in
    let e₁ = row_is l c.place-row.result n a.i c.place-row.ensures.0 in
    let e₂ = row_is l c.place-column.result n a.j c.place-column.ensures.0 in
    subst₂ (λ u v. (a.j ≤ length u) × (a.j ≤ length v) × ((m l r : ℕ) × (a.i + 1 ≤ m) × (m < a.j) × Meets a.nested.now.grammar.rules.now u v a.n m l r)) (sym e₁) (sym e₂)
    (omega (arith, row_long l n a.i (omega arith) q.2), omega (arith, row_long l n a.j (omega arith) q.2), c.requires.by_index)

pub returns : goal.returns
returns c =
    let a = c.args in
    let n = a.nested.now.records in
    let l = a.sets.now in
    let r = c.meeting.result in
    let e₁ = row_is l c.place-row.result n a.i c.place-row.ensures.0 in
    let e₂ = row_is l c.place-column.result n a.j c.place-column.ensures.0 in
    subst₂ (λ u v. (a.i + 1 ≤ r.at) × (r.at < a.j) × Meets a.nested.now.grammar.rules.now u v a.n r.at r.first r.second) e₁ e₂ c.meeting.ensures
