-- The answer for codes from what filling the table gives.
use Rattle.std.specs.Prelude.{Result, Ok, Err}
use borrow.Author.Tests.{le-ltb, lt-ltb}
use mathlib.Core.Path.{sym, ◌∙◌, ap}
use mathlib.Core.Bool.{Bool}
use mathlib.Core.List.{List, [], ◌∷◌}
use mathlib.Core.Option.{some}
use Prim.Native.Nat.{ℕ}
use lib.ListN.{length}
use Rattle.profile.specs.Rules.{Rules, prefixes_by}
use Rattle.profile.specs.Tables.{capacity, layout}
use Rattle.profile.specs.Refusals.{full_table, lowest}
use Rattle.profile.specs.declared.Refusal.{Refusal}
use Rattle.profile.specs.declared.Refusal.TheVariants.{FullTable}
use Rattle.table.specs.Table.{Fills}
use Rattle.table.specs.declared.Filled.{Filled}
use Rattle.closestanswer.specs.declared.Closest.{Closest}
use Rattle.closestfilled.specs.Answered.{answered}
use Rattle.closestfilled.proofs.Answering as filled
use Rattle.termed_closest.specs.CodedAnswers.{Answered}

module _ (p : Rules) (w : List ℕ) (B : ℕ) (order table table' costs : List ℕ) where
  abbrev tenth : List (Bool × Refusal)
  tenth = (full_table (prefixes_by p w) (length table), FullTable) ∷ []

  -- the records do not fit
  pub told_refused : (r : Refusal) → Fills p w table table' (Err r) → Answered p w B order order table table' costs costs (Err r)
  told_refused r h = filled.refused_before p w B order table costs tenth
      (ap some h.answer.0 ∙ sym (rw (lt-ltb (capacity layout (length table)) (prefixes_by p w) h.answer.1, lowest))) table' h.table.0 h.table.1

  -- the table is filled
  pub told_answer : (made : Filled) → Fills p w table table' (Ok made) → (order' costs' : List ℕ) (r : Result Closest Refusal)
      → answered p w B made.prefixes made.looks order order' costs costs' r → Answered p w B order order' table table' costs costs' r
  told_answer made h = filled.told_answer p w B order table costs tenth table' made
      (sym (rw (le-ltb (capacity layout (length table)) (prefixes_by p w) h.answer, lowest))) h.table
