-- `costwalk::fits` meets its contract.
use mathlib.Core.Path.{ap, subst}
use Prim.Native.Nat.{◌*◌}
use lib.Dec.{leb}
use Rattle.costcells.specs.Cells.{Least}
use Rattle.costwalk.proofs.fits.Goals as goal

pub returns : goal.returns
returns c =
    let f = c.step_forward-reached in
    let a = c.args in record {
      cost = c.least_in-least.result;
      least = subst (λ S. Least a.costs.now (a.r * a.profile.now.shape.s) S c.least_in-least.result) f.ensures c.least_in-least.ensures;
      told = ap (λ n. leb n a.taken.left) c.plus.ensures;
    }
