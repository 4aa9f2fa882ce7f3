-- `grouping::has_from` meets its contract: a bit from k on by a shift; a group has no bit from 16 on.
use borrow.Author.Tests.{lt-leb}
use mathlib.Core.Path.{sym}
use Prim.Native.Nat.{◌<◌, ◌^◌}
use native.Mathlib.Nat.{lt_of_lt_of_le}
use native.Mathlib.Omega.{arith}
use lib.Pow.{pow_mono}
use Rattle.checks.proofs.Ranges.{shift_from}
use Rattle.grouping.proofs.has_from.Goals as goal

pub returns-then-k-ge16 : goal.returns-then-k-ge16
returns-then-k-ge16 c =
    let a = c.args in
    let h : a.group < 2 ^ 16 = omega arith in
    sym (lt-leb (2 ^ a.k) a.group (lt_of_lt_of_le h (pow_mono {i = 16} {j = a.k} c.if-k-ge16.true)))

pub returns : goal.returns
returns c = shift_from c.args.k c.args.group
