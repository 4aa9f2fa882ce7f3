-- `costcells::pairs` meets its contract. All costs below none are counted.
use mathlib.Core.Path.{◌∙◌}
use lib.ListN.{take}
use Rattle.costcells.proofs.Cells.{pairs_number}
use Rattle.costcells.proofs.pairs.Goals as goal

pub returns : goal.returns
returns c = c.at_most.ensures ∙ pairs_number (take c.args.n c.args.costs.now)
