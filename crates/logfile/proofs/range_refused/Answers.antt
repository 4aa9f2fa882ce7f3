-- `logfile::range_refused` meets its contract: the file's profile is out of range where its numbers are.
use mathlib.Core.Path.{◌≡◌, sym, ◌∙◌, ap, ap₂}
use mathlib.Core.Bool.{◌||◌, not}
use lib.Dec.{eqb}
use Rattle.profile.specs.Limits.{zero_byte}
use Rattle.profile.specs.Refusals.{profile_out_of_range}
use Rattle.logfile.specs.Files.{field, file_profile}
use Rattle.logfile.proofs.Sections.{range_eq}
use Rattle.logfile.proofs.range_refused.Goals as goal
use Rattle.logfile.proofs.range_refused.Goals.{After-numbers_refused}

tested : (c : After-numbers_refused) → profile_out_of_range (file_profile c.args.f.now) ≡ c.numbers_refused.result
tested c =
    let b = c in
    range_eq b.args.f.now
    ∙ sym (c.numbers_refused.ensures ∙ rw (b.field_at-k.ensures, b.field_at-s.ensures, b.field_at-start.ensures))

pub returns-then-numbers_refused : goal.returns-then-numbers_refused
returns-then-numbers_refused c =
    let f = c.args.f.now in
    sym (ap (λ t. t || not (eqb (field f zero_byte) 0)) (tested (goal.at.returns-then-numbers_refused c).After-numbers_refused ∙ c.if-numbers_refused.true))

pub returns : goal.returns
returns c =
    let f = c.args.f.now in
    sym (ap₂ (λ t n. t || not (eqb n 0)) (tested (goal.at.returns c).After-numbers_refused ∙ c.if-numbers_refused.false) (sym c.field_at.ensures))
