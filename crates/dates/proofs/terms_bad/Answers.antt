-- `dates::terms_bad` meets its contract: the tests one after the other.
use borrow.Author.Tests.{eq-eqb, le-ltb, lt-ltb, ne_eqb}
use mathlib.Core.Path.{sym, ◌∙◌, ap}
use mathlib.Core.Bool.{not}
use Prim.Native.Nat.{◌%◌}
use lib.ListN.{length}
use native.Mathlib.Omega.{arith}
use Rattle.terms.specs.Terms.{most_terms, term_count}
use Rattle.dates.proofs.terms_bad.Goals as goal

pub returns-then-terms-ne0 : goal.returns-then-terms-ne0
returns-then-terms-ne0 c = let t = c.args.terms.now in rw (ne_eqb (length t % 2) 0 c.if-terms-ne0.true)

pub returns-then-n-lt1 : goal.returns-then-n-lt1
returns-then-n-lt1 c = let t = c.args.terms.now in rw (eq-eqb (length t % 2) 0 c.if-terms-ne0.false, lt-ltb (term_count t) 1 c.if-n-lt1.true)

pub returns-then-n-gt-MOST_TERMS : goal.returns-then-n-gt-MOST_TERMS
returns-then-n-gt-MOST_TERMS c = let t = c.args.terms.now in rw (eq-eqb (length t % 2) 0 c.if-terms-ne0.false, le-ltb (term_count t) 1 (omega arith), lt-ltb most_terms (term_count t) c.if-n-gt-MOST_TERMS.true)

pub returns-then-has_bad_day : goal.returns-then-has_bad_day
returns-then-has_bad_day c = let t = c.args.terms.now in rw (eq-eqb (length t % 2) 0 c.if-terms-ne0.false, le-ltb (term_count t) 1 (omega arith), le-ltb most_terms (term_count t) c.if-n-gt-MOST_TERMS.false, sym c.has_bad_day.ensures ∙ c.if-has_bad_day.true)

pub returns : goal.returns
returns c = let t = c.args.terms.now in rw (eq-eqb (length t % 2) 0 c.if-terms-ne0.false, le-ltb (term_count t) 1 (omega arith), le-ltb most_terms (term_count t) c.if-n-gt-MOST_TERMS.false, sym c.has_bad_day.ensures ∙ c.if-has_bad_day.false) (ap not c.rise.ensures)
