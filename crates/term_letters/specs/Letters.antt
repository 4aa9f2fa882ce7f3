-- Document 02, Paper 8: the letters that can be added to a prefix of a log with terms, by its numbers of counts and the places and turns of each letter's
-- events.
use Rattle.std.specs.Prelude.{Bool, true, false, ◌&&◌, List, ℕ}
use Rattle.profile.specs.Lists.{below, filter}
use Rattle.events.specs.Events.{comes_next?}
use Rattle.letters.specs.Letters.{letters_by, next_by}
use Rattle.term_events.specs.InTerms.{in_term?}

-- the letters below k that can be added to the counts t of a log of n events with terms: `turns` has the turn of each event where `places` has its place
abbrev pub letters_in_terms : (ℕ → ℕ → Bool) → ℕ → ℕ → List ℕ → List ℕ → List ℕ → List ℕ → List ℕ
letters_in_terms may k n starts places turns t =
    filter (λ x. comes_next? may k n (next_by k starts places t) x && in_term? k (next_by k starts places t) (next_by k starts turns t) x) (below k)

-- with terms or without
abbrev pub letters_found : Bool → (ℕ → ℕ → Bool) → ℕ → ℕ → List ℕ → List ℕ → List ℕ → List ℕ → List ℕ
letters_found false may k n starts places turns t = letters_by may k n starts places t
letters_found true may k n starts places turns t = letters_in_terms may k n starts places turns t
