-- `rules::bad_rule` meets its contract.
use Rattle.rules.proofs.Tests.{letter_test, names_test, neither_test}
use Rattle.rules.proofs.bad_rule.Goals as goal

pub returns-in-Letter : goal.returns-in-Letter
returns-in-Letter c = let a = c.args in letter_test a.k a.names a.x _ c.name-n.ensures _ c.in-Letter.ensures.0 c.in-Letter.ensures.1

pub returns-in-Names : goal.returns-in-Names
returns-in-Names c = let a = c.args in names_test a.k a.names a.x _ c.name-n.ensures _ _ c.in-Names.ensures.0 c.in-Names.ensures.1 c.in-Names.ensures.2

pub returns-in-Neither : goal.returns-in-Neither
returns-in-Neither c = let a = c.args in neither_test a.k a.names a.x c.in-Neither.ensures
