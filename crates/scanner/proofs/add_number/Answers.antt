-- `scanner::add_number` meets its contract.
use mathlib.Core.Path.{◌≡◌, ◌∙◌, ap}
use Prim.Native.Nat.{◌*◌, ◌-◌, ◌%◌, ◌^◌}
use native.Mathlib.Omega.{arith}
use native.Mathlib.Nat.{one-mul}
use lib.Bits.{bit_or}
use lib.ListN.{get_or, set}
use lib.Pow.{shl_exact}
use Rattle.scanner.proofs.add_number.Goals as goal

pub returns : goal.returns
returns c =
    let a = c.args in
    let n = a.n in
    let one : 1 * 2 ^ n % 2 ^ 32 ≡ 2 ^ n = shl_exact {a = 1} 1 n 32 (omega arith) (omega arith) ∙ one-mul (2 ^ n) in
    ap (λ v. set a.sets.now (a.c - 97) (bit_or (get_or a.sets.now (a.c - 97) 0) v)) one
