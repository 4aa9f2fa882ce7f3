-- `days::is_day` meets its contract: the tests one after the other.
use borrow.Author.Tests.{le-leb, lt-leb}
use mathlib.Core.Path.{ap}
use Prim.Native.Nat.{◌/◌, ◌%◌}
use lib.Dec.{leb}
use native.Mathlib.Omega.{arith}
use Rattle.days.proofs.is_day.Goals as goal

pub returns-then-y-lt-FIRST_YEAR : goal.returns-then-y-lt-FIRST_YEAR
returns-then-y-lt-FIRST_YEAR c = let n = c.args.n in rw (lt-leb 1900 (n / 10000) c.if-y-lt-FIRST_YEAR.true)

pub returns-then-y-gt-LAST_YEAR : goal.returns-then-y-gt-LAST_YEAR
returns-then-y-gt-LAST_YEAR c = let n = c.args.n in rw (le-leb 1900 (n / 10000) (omega arith), lt-leb (n / 10000) 2199 c.if-y-gt-LAST_YEAR.true)

pub returns-then-m-lt1 : goal.returns-then-m-lt1
returns-then-m-lt1 c = let n = c.args.n in rw (le-leb 1900 (n / 10000) (omega arith), le-leb (n / 10000) 2199 c.if-y-gt-LAST_YEAR.false, lt-leb 1 (n / 100 % 100) c.if-m-lt1.true)

pub returns-then-m-gt12 : goal.returns-then-m-gt12
returns-then-m-gt12 c = let n = c.args.n in rw (le-leb 1900 (n / 10000) (omega arith), le-leb (n / 10000) 2199 c.if-y-gt-LAST_YEAR.false, le-leb 1 (n / 100 % 100) c.if-m-lt1.false, lt-leb (n / 100 % 100) 12 c.if-m-gt12.true)

pub returns-then-d-lt1 : goal.returns-then-d-lt1
returns-then-d-lt1 c = let n = c.args.n in rw (le-leb 1900 (n / 10000) (omega arith), le-leb (n / 10000) 2199 c.if-y-gt-LAST_YEAR.false, le-leb 1 (n / 100 % 100) c.if-m-lt1.false, le-leb (n / 100 % 100) 12 c.if-m-gt12.false, lt-leb 1 (n % 100) c.if-d-lt1.true)

pub returns : goal.returns
returns c = let n = c.args.n in rw (le-leb 1900 (n / 10000) (omega arith), le-leb (n / 10000) 2199 c.if-y-gt-LAST_YEAR.false, le-leb 1 (n / 100 % 100) c.if-m-lt1.false, le-leb (n / 100 % 100) 12 c.if-m-gt12.false, le-leb 1 (n % 100) c.if-d-lt1.false) (ap (leb (n % 100)) c.month_days.ensures)
