-- `newcomers::number_joining` meets its contract.
use mathlib.Core.Path.{sym, ◌∙◌, ap, ap₂}
use Prim.Native.Nat.{◌-◌, ◌+◌}
use native.Mathlib.Omega.{arith}
use Rattle.profile.specs.Traces.{independent}
use Rattle.records.specs.Records.{counts_at}
use Rattle.newcomers.specs.Newcomers.{joins_at?}
use Rattle.newcomers.proofs.Loops.{byte_cond, cond_most, joining_more}
use Rattle.newcomers.proofs.number_joining.Goals as goal

pub loop-j-preserved : goal.loop-j-preserved
loop-j-preserved c =
    let a = c.args in
    let l = c.loop-j in
    let last = c.numbers-last.ensures ∙ c.counts_at.ensures in
    let one = c.from-number.ensures ∙ byte_cond c.joins.result in (
      omega (arith, l.invariant.0, one, cond_most c.joins.result),
      ap₂ (λ x y. x + y) l.invariant.1 one ∙ joining_more (λ x. joins_at? (independent a.profile.now.masks.now) a.profile.now.shape.k (counts_at a.t.now (a.n - 1)) a.a (counts_at a.t.now x)) l.j c.joins.result (ap (λ v. joins_at? (independent a.profile.now.masks.now) a.profile.now.shape.k v a.a (counts_at a.t.now l.j)) (sym last) ∙ sym c.joins.ensures),
    )
