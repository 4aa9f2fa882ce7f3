-- `fragments::starred` meets its contract.
use mathlib.Core.Path.{◌∙◌}
use lib.ListN.{drop}
use Rattle.fragments.specs.Parts.{stars}
use Rattle.fragments.proofs.Rows.{starred_none, starred_some}
use Rattle.fragments.proofs.starred.Goals as goal

pub returns-then-from-end : goal.returns-then-from-end
returns-then-from-end c = let e = c in
    let a = c.args in
    let n = starred_some (stars (drop a.from a.text.now)) a.from c.stars_end-end.result a.x a.rows.now c.stars_end-end.ensures c.if-from-end.true in
    (n.0, c.link.ensures ∙ n.1)

pub returns : goal.returns
returns c = let a = c.args in
    starred_none (stars (drop a.from a.text.now)) a.from c.stars_end-end.result a.x a.rows.now c.stars_end-end.ensures c.if-from-end.false
