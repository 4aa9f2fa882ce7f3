-- `checks::set_from` meets its contract: a bit from n on by a shift; a set has no bit from 32 on.
use borrow.Author.Tests.{lt-leb}
use mathlib.Core.Path.{sym}
use Prim.Native.Nat.{◌<◌, ◌^◌}
use native.Mathlib.Nat.{lt_of_lt_of_le}
use native.Mathlib.Omega.{arith}
use lib.Pow.{pow_mono}
use Rattle.checks.proofs.Ranges.{shift_from}
use Rattle.checks.proofs.set_from.Goals as goal

pub returns-then-n-ge32 : goal.returns-then-n-ge32
returns-then-n-ge32 c =
    let a = c.args in
    let h : a.set < 2 ^ 32 = omega arith in
    sym (lt-leb (2 ^ a.n) a.set (lt_of_lt_of_le h (pow_mono {i = 32} {j = a.n} c.if-n-ge32.true)))

pub returns : goal.returns
returns c = shift_from c.args.n c.args.set
