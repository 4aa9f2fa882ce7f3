-- `forward::put_in` meets its contract.
use mathlib.Core.Path.{◌∙◌, ap}
use mathlib.Core.List.{[], ◌∷◌, ◌++◌}
use Prim.Native.Nat.{◌-◌, ◌*◌}
use borrow.Rule.Slice.PartMut.{put_mid}
use lib.ListN.{length}
use Rattle.counts.specs.Counts.{words}
use Rattle.forward.proofs.Drafts.{put_part}
use Rattle.forward.proofs.put_in.Goals as goal

pub returns : goal.returns
returns c =
    let a = c.args in
    ap (put_mid (10 * a.first) (length a.table.now - 10 * a.first) a.table.now) c.put.ensures
    ∙ put_part a.table.now (words a.c ++ (a.forward ∷ a.last ∷ [])) a.first a.j
