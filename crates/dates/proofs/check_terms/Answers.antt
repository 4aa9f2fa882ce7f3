-- `dates::check_terms` meets its contract: the tests one after the other.
use mathlib.Core.Path.{sym, ◌∙◌}
use Rattle.dates.proofs.Codes.{day_refused, days_tested, none_refused, not_many, outside_refused, term_refused}
use Rattle.dates.proofs.check_terms.Goals as goal

pub returns-then-calendar-log : goal.returns-then-calendar-log
returns-then-calendar-log c = let a = c.args in day_refused a.log.now a.calendar.now.days.now a.calendar.now.terms.now (not_many a.log.now a.calendar.now.days.now a.calendar.now.terms.now c.if-calendar-log.true)

pub returns-then-has_bad_day : goal.returns-then-has_bad_day
returns-then-has_bad_day c = let a = c.args in day_refused a.log.now a.calendar.now.days.now a.calendar.now.terms.now (days_tested a.log.now a.calendar.now.days.now a.calendar.now.terms.now c.if-calendar-log.false ∙ sym c.has_bad_day.ensures ∙ c.if-has_bad_day.true)

pub returns-then-terms_bad : goal.returns-then-terms_bad
returns-then-terms_bad c = let a = c.args in term_refused a.log.now a.calendar.now.days.now a.calendar.now.terms.now (days_tested a.log.now a.calendar.now.days.now a.calendar.now.terms.now c.if-calendar-log.false ∙ sym c.has_bad_day.ensures ∙ c.if-has_bad_day.false) (sym c.terms_bad.ensures ∙ c.if-terms_bad.true)

pub returns-then-has_day_outside : goal.returns-then-has_day_outside
returns-then-has_day_outside c = let a = c.args in outside_refused a.log.now a.calendar.now.days.now a.calendar.now.terms.now (days_tested a.log.now a.calendar.now.days.now a.calendar.now.terms.now c.if-calendar-log.false ∙ sym c.has_bad_day.ensures ∙ c.if-has_bad_day.false) (sym c.terms_bad.ensures ∙ c.if-terms_bad.false) (sym c.has_day_outside.ensures ∙ c.if-has_day_outside.true)

pub returns : goal.returns
returns c = let a = c.args in none_refused a.log.now a.calendar.now.days.now a.calendar.now.terms.now (days_tested a.log.now a.calendar.now.days.now a.calendar.now.terms.now c.if-calendar-log.false ∙ sym c.has_bad_day.ensures ∙ c.if-has_bad_day.false) (sym c.terms_bad.ensures ∙ c.if-terms_bad.false) (sym c.has_day_outside.ensures ∙ c.if-has_day_outside.false)
