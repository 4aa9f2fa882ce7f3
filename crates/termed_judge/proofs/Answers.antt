-- The answer of the judge from what filling the table gives, for any rules.
use borrow.Author.Tests.{le-ltb, lt-ltb}
use mathlib.Core.Path.{◌≡◌, refl, sym, ◌∙◌, ap}
use mathlib.Core.Bool.{true, false}
use mathlib.Core.List.{List, [], ◌∷◌}
use mathlib.Core.Option.{none, some}
use Prim.Native.Nat.{ℕ}
use lib.ListN.{length}
use Rattle.std.specs.Prelude.{Ok, Err}
use Rattle.profile.specs.Rules.{Rules, order_by, prefixes_by}
use Rattle.profile.specs.Tables.{capacity, layout}
use Rattle.profile.specs.Refusals.{full_table, lowest}
use Rattle.profile.specs.declared.Refusal.{Refusal}
use Rattle.profile.specs.declared.Refusal.TheVariants.{FullTable}
use Rattle.theory.proofs.Refusals.{GoodEvents, GoodProfile}
use Rattle.table.specs.Table.{Fills}
use Rattle.table.specs.declared.Filled.{Filled}
use Rattle.earliest.specs.Earliest.{Table, found?, with_order}
use Rattle.verdict.specs.declared.Judged.TheVariants.{NoOrder, Order}
use Rattle.verdict.proofs.Judging.{none_told, some_told, table_ready}
use Rattle.termed_judge.specs.CodedCalls.{Answered}

module _ (p : Rules) (w order table table' : List ℕ) where
  -- the records do not fit
  pub told_refused : (r : Refusal) → Fills p w table table' (Err r) → Answered p w order order table table' (Err r)
  told_refused r h = record {
    refused = ap some h.answer.0 ∙ sym (rw (lt-ltb (capacity layout (length table)) (prefixes_by p w) h.answer.1, lowest));
    told = (refl, h.table.0, h.table.1);
  }

  -- the table is filled
  module _ (f : Filled) (h : Fills p w table table' (Ok f)) where
    unrefused : none ≡ lowest ((full_table (prefixes_by p w) (length table), FullTable) ∷ [])
    unrefused = sym (rw (le-ltb (capacity layout (length table)) (prefixes_by p w) h.answer, lowest))

    pub told_none : (order' : List ℕ) → found? (order_by p w) ≡ false → order' ≡ with_order (order_by p w) order → Answered p w order order' table table' (Ok (NoOrder f.prefixes f.looks))
    told_none = none_told p w order table table' _ f unrefused h.table

    pub told_some : (order' : List ℕ) → found? (order_by p w) ≡ true → order' ≡ with_order (order_by p w) order → Answered p w order order' table table' (Ok (Order f.prefixes f.looks))
    told_some = some_told p w order table table' _ f unrefused h.table

    -- what the extraction asks of the table
    pub ready : GoodProfile p.profile → GoodEvents p w → length table' ≡ length table → Table p w table'
    ready good events l = table_ready p w order table table' _ f unrefused h.table good events h.answer l
