-- Document 02, Paper 8, "in the prefix rule an earlier event of another term must be marked": the test by the places and turns of each letter's next event.
-- A turn has the term of an event, and the place of the first later event of its letter in another term.
use Rattle.std.specs.Prelude.{Bool, ◌&&◌, ◌||◌, List, ℕ, ◌/◌, ◌%◌, eqb, ltb}
use Rattle.profile.specs.Lists.{all, below}
use Rattle.profile.specs.Prefixes.{at}
use Rattle.turns.specs.Turns.{place_bound}

-- letter y does not keep letter x from coming next by its term: it is x, or its next event is later than that of x, or all its events before that of x that
-- are left are in the term of that one. `next` and `turns` have the place and the turn of each letter's next event
abbrev pub lets_in? : (ℕ → ℕ) → (ℕ → ℕ) → ℕ → ℕ → Bool
lets_in? next turns x y = eqb y x || (ltb (next x) (next y) || (eqb (turns y / place_bound) (turns x / place_bound) && ltb (next x) (turns y % place_bound)))

-- no letter below k does
abbrev pub in_term? : ℕ → List ℕ → List ℕ → ℕ → Bool
in_term? k next turns x = all (lets_in? (at next) (at turns) x) (below k)
