-- `scanner::letters_in` meets its contract.
use mathlib.Core.Path.{sym, ◌∙◌, ap}
use lib.ListN.{length}
use mathlib.Core.List.{[]}
use Rattle.scanner.proofs.Scans.{letters_first, letters_skip}
use Rattle.scanner.proofs.letters_in.Goals as goal

pub returns-then-is_letter : goal.returns-then-is_letter
returns-then-is_letter c =
    let a = c.args in
    sym (ap length (letters_first a.k a.c [] (sym c.is_letter.ensures ∙ c.if-is_letter.true)))

pub returns-else-is_letter : goal.returns-else-is_letter
returns-else-is_letter c =
    let a = c.args in
    sym (ap length (letters_skip a.k a.c [] (sym c.is_letter.ensures ∙ c.if-is_letter.false)))
