-- `rulesets::when` meets its contract.
use mathlib.Core.Path.{refl, ◌∙◌, ap}
use Prim.Native.Nat.{◌^◌}
use native.Mathlib.Nat.{one-mul}
use lib.Pow.{shl_exact}
use native.Mathlib.Omega.{arith}
use Rattle.rulesets.proofs.when.Goals as goal

pub returns-then-test : goal.returns-then-test
returns-then-test c =
    let n = c.name-n.result in
    let x = c.args.x in
    rw c.if-test.true (shl_exact {a = 1} 1 n 16 (omega (arith, c.name-n.ensures)) (omega arith) ∙ one-mul (2 ^ n) ∙ ap (λ m. 2 ^ m) c.name-n.ensures)

pub returns-else-test : goal.returns-else-test
returns-else-test c = rw c.if-test.false refl
