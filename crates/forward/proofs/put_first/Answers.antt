-- `forward::put_first` meets its contract.
use mathlib.Core.Path.{refl, ◌∙◌}
use Rattle.counts.specs.Counts.{words}
use Rattle.forward.proofs.Totals.{first_pairs, first_record}
use Rattle.forward.proofs.put_first.Goals as goal

pub returns : goal.returns
returns g c =
    let a = c.args in
    let r = c.requires in
    let v = c.none_counted-c in
    let found = c.addable-letters.ensures in (
      first_pairs r (words v.result) v.ensures _ found.1,
      c.put.ensures ∙ first_record r (words v.result) v.ensures a.table.now _ _ refl found.0,
    )
