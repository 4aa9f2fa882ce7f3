-- Document 02, Paper 8: for each event of a log with terms, its term, and where the next event of its letter stands that is in another term. Events are codes.
use Rattle.std.specs.Prelude.{true, false, not, ◌&&◌, cond, List, [], ◌∷◌, ℕ, suc, ◌+◌, ◌-◌, ◌*◌, eqb}
use Rattle.profile.specs.Lists.{below, flat_map}
use Rattle.terms.specs.Coded.{code_letter, code_term, term_bound}

-- the place, counted from i, of the first event of w that has letter x and another term than t; the place behind the last event where there is none
abbrev pub other_from : ℕ → ℕ → ℕ → List ℕ → ℕ
other_from i x t [] = i
other_from i x t (e ∷ w) = cond (eqb (code_letter e) x && not (eqb (code_term e) t)) i (other_from (suc i) x t w)

-- a term and a place in one number: a place is at most the longest log's length, so below 4,096
abbrev pub place_bound : ℕ
place_bound = 4096

abbrev pub turn : ℕ → ℕ → ℕ
turn t i = place_bound * t + i

-- what stands for the term behind the last event: no term has this number
abbrev pub past_terms : ℕ
past_terms = term_bound - 1

-- the turns of the events of letter x, places counted from i; after them a turn with no term and the place behind the last event
abbrev pub turns_from : ℕ → ℕ → List ℕ → List ℕ
turns_from i x [] = turn past_terms i ∷ []
turns_from i x (e ∷ w) =
    elim (eqb (code_letter e) x) [ true ↦ turn (code_term e) (other_from (suc i) x (code_term e) w) ∷ turns_from (suc i) x w | false ↦ turns_from (suc i) x w ]

abbrev pub turns_of : List ℕ → ℕ → List ℕ
turns_of w x = turns_from 0 x w

-- the turns of the letters below k, one letter after the other
abbrev pub turn_table : ℕ → List ℕ → List ℕ
turn_table k w = flat_map (turns_of w) (below k)
