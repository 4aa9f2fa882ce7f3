-- `backward::fill_backward` meets its contract. The loop's invariant: the records from record `j` on are done.
use Rattle.std.proofs.Common.{◌≡◌, ◌*◌, length, get_or, drop}
use Rattle.profile.specs.Limits.{most_letters}
use Rattle.terms.specs.Coded.{rules_of}
use Rattle.profile.specs.Automata.{lent}
use Rattle.profile.specs.Tables.{layout, record_length}
use Rattle.theory.proofs.Refusals.{GoodEvents}
use Rattle.backward.proofs.Swept.{Swept}
use Rattle.backward.proofs.fill_backward.Given as goal

abbrev pub invariant-loop-j : goal.invariant-loop-j
invariant-loop-j g l =
    (length l.table ≡ length l.initial.table) × (length l.cursors ≡ most_letters)
    × ((good : GoodEvents (rules_of (lent l.profile) g.termed) l.log) → Swept good l.table (drop (record_length layout * l.records) l.initial.table) l.j (λ x. get_or l.cursors x 0))
