use mathlib.Core.Path.{refl, ◌∙◌}
use Rattle.profile.proofs.Chains.{any_std}
use lib.ListN.{length}
use Rattle.grammars.specs.Grammars.{most_names, most_rules, rule_out_of_range}
use borrow.Author.Tests.{lt-ltb, le-ltb}
use native.Mathlib.Omega.{arith}
use Rattle.rules.proofs.bad_rules.Goals as goal

pub returns-then-names-lt1 : goal.returns-then-names-lt1
returns-then-names-lt1 c = rw (lt-ltb _ _ c.if-names-lt1.true) refl

pub returns-then-names-gt-MOST_NAMES : goal.returns-then-names-gt-MOST_NAMES
returns-then-names-gt-MOST_NAMES c = rw (le-ltb _ _ c.if-names-lt1.false, lt-ltb _ _ c.if-names-gt-MOST_NAMES.true) refl

pub returns-then-rules-gt-MOST_RULES : goal.returns-then-rules-gt-MOST_RULES
returns-then-rules-gt-MOST_RULES c = rw (le-ltb _ _ c.if-names-lt1.false, le-ltb _ _ c.if-names-gt-MOST_NAMES.false, lt-ltb _ _ c.if-rules-gt-MOST_RULES.true) refl

pub returns : goal.returns
returns c =
    let a = c.args in
    rw (le-ltb a.names 1 (omega arith), le-ltb most_names a.names (omega arith), le-ltb most_rules (length a.rules.now) (omega arith))
    (c.some_bad.ensures ∙ any_std (rule_out_of_range a.k a.names) a.rules.now)
