-- `closestorder::put_judges` meets its contract.
use borrow.Author.Rules.{rules}
use mathlib.Core.Path.{◌∙◌}
use native.Mathlib.Omega.{arith}
use Rattle.costwalk.proofs.Rows.{some_record}
use Rattle.closestorder.proofs.Closing.{arranged, as_long, as_table, count_records, lent}
use Rattle.closestorder.proofs.put_judges.Goals as goal

pub put_order-requires : goal.put_order-requires
put_order-requires g c =
    let h = c.requires.0 in
    (as_table h, (c.records_in-records.ensures ∙ count_records h, (c.requires.1.1.0, omega (arith, as_long h, c.requires.1.1.1))))

pub swaps_of-requires : goal.swaps_of-requires
swaps_of-requires g c =
    let a = c.args in
    let h = c.requires.0 in
    let o = c.put_order in record {
      bound = some_record (lent h c.requires.1.0);
      placed = c.requires.1.0;
      arranged = arranged h c.requires.1.1.0 c.requires.1.0 a.order.now o.new.order (omega (arith, o.auto.order, c.requires.1.1.1)) o.ensures;
    }
