-- The program lends `respond` 16,384 bytes and 16,380 numbers, so what it writes is the text of document 01.
use borrow.Author.Tests.{le-ltb}
use mathlib.Core.Path.{◌≡◌, ◌∙◌, ap}
use mathlib.Core.List.{List}
use Prim.Native.Nat.{ℕ, ◌≤◌}
use lib.ListN.{length, take}
use Rattle.profile.specs.Limits.{program_numbers, program_text}
use Rattle.report.specs.Report.{Responds, printed, printed_with, response}

pub program_prints : (f out out' work work' : List ℕ) (r : ℕ) → program_text ≤ length out → length work ≡ program_numbers → Responds f out out' work work' r
    → take r out' ≡ printed f
program_prints f out out' work work' r room numbers h = h.text ∙ all_put ∙ ap (printed_with f) numbers
  where
    all_put : response f (length out) (length work) ≡ printed_with f (length work)
    all_put = let e = le-ltb (length out) program_text room in rw (e, response)
