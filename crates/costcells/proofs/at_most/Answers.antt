-- `costcells::at_most` meets its contract. The costs that pass are counted.
use Rattle.std.proofs.Common.{rules, ◌≡◌, take, ◌∙◌}
use Rattle.std.specs.List.{count_by}
use lib.Dec.{leb}
use Rattle.costcells.proofs.Cells.{counted}
use Rattle.costcells.proofs.at_most.Goals as goal

pub returns : goal.returns
returns c =
    let a = c.args in
    let e : c.count.result ≡ count_by (λ n. leb n a.v) (take a.n a.costs.now) = search rules in
    e ∙ counted a.v (take a.n a.costs.now)
