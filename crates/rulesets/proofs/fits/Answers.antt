-- `rulesets::fits` meets its contract.
use mathlib.Core.Path.{refl}
use borrow.Author.Tests.{ne_eqb}
use native.Mathlib.Omega.{arith}
use Rattle.grammars.specs.Grammars.{kind_of}
use Rattle.rulesets.proofs.fits.Goals as goal

pub returns-in-Letter : goal.returns-in-Letter
returns-in-Letter c = rw c.in-Letter.ensures.0 refl

pub returns-in-Names : goal.returns-in-Names
returns-in-Names c = rw (c.name.ensures, c.has.ensures, c.has-in-Names.ensures, c.in-Names.ensures.2, c.in-Names.ensures.1, c.in-Names.ensures.0) refl

pub returns-in-Neither : goal.returns-in-Neither
returns-in-Neither c = let h = c.in-Neither.ensures in rw (ne_eqb (kind_of c.args.z) 1 (λ e. omega (arith, h))) refl
