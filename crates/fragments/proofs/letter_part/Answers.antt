-- `fragments::letter_part` meets its contract.
use Rattle.fragments.proofs.Rows.{part}
use lib.Pow.{shl_exact}
use native.Mathlib.Nat.{one-mul}
use mathlib.Core.Path.{◌≡◌, ◌∙◌, ap₂}
use mathlib.Core.Bool.{false}
use Prim.Native.Nat.{◌+◌, ◌*◌, ◌%◌, ◌^◌}
use native.Mathlib.Omega.{arith}
use Rattle.fragments.proofs.letter_part.Goals as goal

pub returns : goal.returns
returns c = let a = c.args in
    let one : 1 * 2 ^ a.n % 2 ^ 32 ≡ 2 ^ a.n = shl_exact {a = 1} 1 a.n 32 (omega arith) (omega arith) ∙ one-mul (2 ^ a.n) in
    ap₂ (λ f l. part a.at (a.n + 1) false f l) one one
