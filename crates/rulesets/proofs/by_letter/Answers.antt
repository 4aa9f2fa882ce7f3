-- `rulesets::by_letter` meets its contract.
use mathlib.Core.Path.{refl, ◌∙◌}
use borrow.Author.Tests.{ne_eqb}
use native.Mathlib.Omega.{arith}
use Rattle.grammars.specs.Grammars.{kind_of}
use Rattle.rulesets.proofs.by_letter.Goals as goal

pub returns-in-Letter : goal.returns-in-Letter
returns-in-Letter c = c.when.ensures ∙ rw (c.in-Letter.ensures.1, c.in-Letter.ensures.0) refl

pub returns-in-Names : goal.returns-in-Names
returns-in-Names c = rw c.in-Names.ensures.0 refl

pub returns-in-Neither : goal.returns-in-Neither
returns-in-Neither c = let h = c.in-Neither.ensures in rw (ne_eqb (kind_of c.args.x) 0 (λ e. omega (arith, h))) refl
