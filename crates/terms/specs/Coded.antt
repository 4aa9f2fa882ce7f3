-- Events as the table is built of them: letters, or letter and term in one byte.
use Rattle.std.specs.Prelude.{Bool, true, false, ◌&&◌, List, ℕ, ◌+◌, ◌*◌, ◌/◌, ◌%◌, ◌≤◌, ◌<◌, ◌≡◌, T, eqb, length}
use Rattle.profile.specs.Traces.{independent, letters_below}
use Rattle.profile.specs.Limits.{most_letters}
use Rattle.profile.specs.Lists.{Mem}
use Rattle.profile.specs.Automata.{Profile}
use Rattle.profile.specs.Rules.{Rules}
use Rattle.terms.specs.Days.{day_bound}
use Rattle.terms.specs.Terms.{day_of, letter_of, most_terms, term_count, term_of}

-- letter × 16 + term: terms are below 16, and so are letters
abbrev pub term_bound : ℕ
term_bound = 16

abbrev pub code : ℕ → ℕ → ℕ
code a t = term_bound * a + t

abbrev pub code_letter : ℕ → ℕ
code_letter e = e / term_bound

abbrev pub code_term : ℕ → ℕ
code_term e = e % term_bound

abbrev pub coded_may : List ℕ → ℕ → ℕ → Bool
coded_may masks e f = eqb (code_term e) (code_term f) && independent masks (code_letter e) (code_letter f)

-- the code of an event with its day
abbrev pub code_of : List ℕ → ℕ → ℕ
code_of terms e = code (letter_of e) (term_of terms (day_of e))

-- the rules of events that are letters, or that are such codes
abbrev pub may_of : List ℕ → Bool → ℕ → ℕ → Bool
may_of masks false = independent masks
may_of masks true = coded_may masks

abbrev pub event_letter : Bool → ℕ → ℕ
event_letter false = λ a. a
event_letter true = code_letter

abbrev pub rules_of : Profile → Bool → Rules
rules_of p termed = record { profile = p; may = may_of p.masks termed; letter = event_letter termed }

-- what coding the events of a log asks: letters below 16, a day for each event of at most eight digits, at most 12 terms, and n places
pub record Coding (w days terms : List ℕ) (n : ℕ) : Type 0 where
  pub letters : T (letters_below (λ a. a) most_letters w)
  pub many : length days ≡ length w
  pub short : (d : ℕ) → Mem d days → d < day_bound
  pub few : term_count terms ≤ most_terms
  pub room : length w ≤ n
