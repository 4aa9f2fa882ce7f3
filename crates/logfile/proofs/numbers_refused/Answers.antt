-- `logfile::numbers_refused` meets its contract, test by test.
use borrow.Author.Tests.{le-ltb, lt-ltb}
use Rattle.logfile.proofs.numbers_refused.Goals as goal

pub returns-then-k-lt1 : goal.returns-then-k-lt1
returns-then-k-lt1 c = rw (lt-ltb _ _ c.if-k-lt1.true)

pub returns-then-k-gt-MOST_LETTERS : goal.returns-then-k-gt-MOST_LETTERS
returns-then-k-gt-MOST_LETTERS c = rw (le-ltb _ _ c.if-k-lt1.false, lt-ltb _ _ c.if-k-gt-MOST_LETTERS.true)

pub returns-then-s-lt1 : goal.returns-then-s-lt1
returns-then-s-lt1 c = rw (le-ltb _ _ c.if-k-lt1.false, le-ltb _ _ c.if-k-gt-MOST_LETTERS.false, lt-ltb _ _ c.if-s-lt1.true)

pub returns-then-s-gt-MOST_STATES : goal.returns-then-s-gt-MOST_STATES
returns-then-s-gt-MOST_STATES c = rw (le-ltb _ _ c.if-k-lt1.false, le-ltb _ _ c.if-k-gt-MOST_LETTERS.false, le-ltb _ _ c.if-s-lt1.false, lt-ltb _ _ c.if-s-gt-MOST_STATES.true)

pub returns : goal.returns
returns c = rw (le-ltb _ _ c.if-k-lt1.false, le-ltb _ _ c.if-k-gt-MOST_LETTERS.false, le-ltb _ _ c.if-s-lt1.false, le-ltb _ _ c.if-s-gt-MOST_STATES.false)
