-- Document 02, Paper 8: terms, logs with terms, and their refusals. Terms are a list of days: the first and the last of each, one term after the other.
use Rattle.std.specs.Prelude.{Bool, not, ◌&&◌, ◌||◌, List, [], ◌∷◌, ◌++◌, ℕ, suc, ◌+◌, ◌*◌, ◌/◌, ◌%◌, eqb, ltb, leb, length, get_or}
use Rattle.std.proofs.Math.Option.{Option}
use Rattle.profile.specs.Lists.{all, any, below, first_place}
use Rattle.profile.specs.Traces.{independent}
use Rattle.profile.specs.Automata.{Profile}
use Rattle.profile.specs.Rules.{Rules, prefixes_by}
use Rattle.profile.specs.Refusals.{full_table, log_refusals, lowest, profile_refusals, short_buffer}
use Rattle.profile.specs.declared.Refusal.{Refusal}
use Rattle.profile.specs.declared.Refusal.TheVariants.{BadDay, BadTerm, FullTable, NoTerm, ShortBuffer}
use Rattle.terms.specs.Days.{day_bound, day?}

-- ---- terms

-- "1 to 12 terms"
abbrev pub most_terms : ℕ
most_terms = 12

abbrev pub first_day : List ℕ → ℕ → ℕ
first_day terms i = get_or terms (2 * i) 0

abbrev pub last_day : List ℕ → ℕ → ℕ
last_day terms i = get_or terms (2 * i + 1) 0

abbrev pub term_count : List ℕ → ℕ
term_count terms = length terms / 2

-- "A term has a first and a last such day, both inside it": day d is in term i; in some term; the term it is in, counted from 0
abbrev pub in_term? : List ℕ → ℕ → ℕ → Bool
in_term? terms d i = leb (first_day terms i) d && leb d (last_day terms i)

abbrev pub has_term? : List ℕ → ℕ → Bool
has_term? terms d = any (in_term? terms d) (below (term_count terms))

abbrev pub term_of : List ℕ → ℕ → ℕ
term_of terms d = first_place (in_term? terms d) (below (term_count terms))

-- "terms rise and do not overlap": the first day of term i is no later than its last, which is before the first of the next term, if there is one
abbrev pub rises? : List ℕ → ℕ → Bool
rises? terms i = leb (first_day terms i) (last_day terms i) && (leb (term_count terms) (suc i) || ltb (last_day terms i) (first_day terms (suc i)))

abbrev pub rise? : List ℕ → Bool
rise? terms = all (rises? terms) (below (term_count terms))

-- ---- logs with terms

-- "an event's day goes with it": an event carries its letter and its day, and is the number letter × 100,000,000 + day
abbrev pub dated : ℕ → ℕ → ℕ
dated a d = day_bound * a + d

abbrev pub letter_of : ℕ → ℕ
letter_of e = e / day_bound

abbrev pub day_of : ℕ → ℕ
day_of e = e % day_bound

-- the events of a log with one day for each event
abbrev pub events : List ℕ → List ℕ → List ℕ
events [] days = []
events (a ∷ w) [] = dated a 0 ∷ events w []
events (a ∷ w) (d ∷ days) = dated a d ∷ events w days

-- "An exchange now also needs both events in one term"
abbrev pub may_in : List ℕ → List ℕ → ℕ → ℕ → Bool
may_in masks terms e f = eqb (term_of terms (day_of e)) (term_of terms (day_of f)) && independent masks (letter_of e) (letter_of f)

-- the rules of a call with terms
abbrev pub with_terms : Profile → List ℕ → Rules
with_terms p terms = record { profile = p; may = may_in p.masks terms; letter = letter_of }

-- ---- refusals

-- 14: "when the days are not as many as the events or one is no such date"
abbrev pub bad_day : List ℕ → List ℕ → Bool
bad_day w days = not (eqb (length days) (length w)) || any (λ d. not (day? d)) days

-- 15: "when terms break these rules": none or more than 12, a first without a last, no such date, not rising
abbrev pub bad_term : List ℕ → Bool
bad_term terms =
    not (eqb (length terms % 2) 0) || (ltb (term_count terms) 1 || (ltb most_terms (term_count terms) || (any (λ d. not (day? d)) terms || not (rise? terms))))

-- 16: "when an event's day is in no term"
abbrev pub no_term : List ℕ → List ℕ → Bool
no_term days terms = any (λ d. not (has_term? terms d)) days

-- "these follow 8 and precede 9"
abbrev pub term_refusals : List ℕ → List ℕ → List ℕ → List (Bool × Refusal)
term_refusals w days terms = (bad_day w days, BadDay) ∷ (bad_term terms, BadTerm) ∷ (no_term days terms, NoTerm) ∷ []

-- the judge with terms, with n places for the order and m numbers of table
abbrev pub dated_refusals : Profile → List ℕ → List ℕ → List ℕ → ℕ → ℕ → List (Bool × Refusal)
dated_refusals p w days terms n m =
    profile_refusals p ++ (log_refusals p.k w ++ (term_refusals w days terms
    ++ ((short_buffer n w, ShortBuffer) ∷ (full_table (prefixes_by (with_terms p terms) (events w days)) m, FullTable) ∷ [])))

abbrev pub dated_refusal : Profile → List ℕ → List ℕ → List ℕ → ℕ → ℕ → Option Refusal
dated_refusal p w days terms n m = lowest (dated_refusals p w days terms n m)
