-- `counts::same_counts` meets its contract: equality by numbers is equality letter by letter.
use mathlib.Core.Path.{◌≡◌, ◌∙◌}
use native.Mathlib.Omega.{arith}
use Prim.Native.Nat.{◌^◌}
use Rattle.std.proofs.Common.{rules}
use Rattle.profile.specs.Lists.{equal?}
use Rattle.counts.specs.Counts.{words}
use Rattle.counts.proofs.Equality.{Below, equal_counts}
use Rattle.counts.proofs.same_counts.Goals as goal

pub returns-clause-value_2 : goal.returns-clause-value_2
returns-clause-value_2 c =
    let a = c.args.a in
    let b = c.args.b in
    let e : c.eq.result ≡ equal? (words a) (words b) = search rules in
    let f : Below (2 ^ 32) (words a) = (omega arith, (omega arith, (omega arith, (omega arith, (omega arith, (omega arith, (omega arith, (omega arith, tt)))))))) in
    let g : Below (2 ^ 32) (words b) = (omega arith, (omega arith, (omega arith, (omega arith, (omega arith, (omega arith, (omega arith, (omega arith, tt)))))))) in
    e ∙ equal_counts a b f g
