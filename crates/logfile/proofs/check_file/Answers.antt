-- `logfile::check_file` meets its contract: 1, then 2, then 3, then the content.
use borrow.Author.Tests.{le-ltb, lt-ltb}
use mathlib.Core.Path.{◌≡◌, sym, ◌∙◌}
use mathlib.Core.Bool.{false}
use Rattle.logfile.specs.Files.{file_out_of_range}
use Rattle.logfile.proofs.check_file.Goals as goal
use Rattle.logfile.proofs.check_file.Goals.{Else-range_refused}

pub returns-then-f-lt-TRAILER_LENGTH : goal.returns-then-f-lt-TRAILER_LENGTH
returns-then-f-lt-TRAILER_LENGTH c = rw (lt-ltb _ _ c.if-f-lt-TRAILER_LENGTH.true)

pub returns-then-range_refused : goal.returns-then-range_refused
returns-then-range_refused c =
    let e = sym c.range_refused.ensures ∙ c.if-range_refused.true in
    rw (le-ltb _ _ c.if-f-lt-TRAILER_LENGTH.false, e)

in_range : (c : Else-range_refused) → file_out_of_range c.args.f.now ≡ false
in_range c = sym c.range_refused.ensures ∙ c.if-range_refused.false

pub distance_refused-requires : goal.distance_refused-requires
distance_refused-requires c = in_range (goal.at.distance_refused-requires c).Else-range_refused

pub returns-then-distance_refused : goal.returns-then-distance_refused
returns-then-distance_refused c =
    let b = c in
    let e = sym c.distance_refused.ensures ∙ c.if-distance_refused.true in
    rw (le-ltb _ _ b.if-f-lt-TRAILER_LENGTH.false, in_range (goal.at.returns-then-distance_refused c).Else-range_refused, e)

pub check_content-requires : goal.check_content-requires
check_content-requires c = (in_range (goal.at.check_content-requires c).Else-range_refused, sym c.distance_refused.ensures ∙ c.if-distance_refused.false)

pub returns : goal.returns
returns c =
    let b = c in
    let e = sym c.distance_refused.ensures ∙ c.if-distance_refused.false in
    rw (le-ltb _ _ b.if-f-lt-TRAILER_LENGTH.false, in_range (goal.at.returns c).Else-range_refused, e) c.check_content.ensures
