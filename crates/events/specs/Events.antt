-- The test whether a letter can be added to a prefix, by the places of each letter's next event.
use Rattle.std.specs.Prelude.{Bool, not, ◌&&◌, ◌||◌, List, map, ℕ, ◌^◌, eqb, ltb}
use Rattle.profile.specs.Limits.{most_letters}
use Rattle.profile.specs.Automata.{union}
use Rattle.profile.specs.Lists.{all, below, filter}
use Rattle.profile.specs.Prefixes.{at}

-- letter y does not keep letter x from coming next: it is x, or x may pass it, or its next event is later
abbrev pub lets_by? : (ℕ → ℕ → Bool) → (ℕ → ℕ) → ℕ → ℕ → Bool
lets_by? may next x y = eqb y x || (may y x || ltb (next x) (next y))

-- letter x of a log of n events can come next: it has an event left, and no letter keeps it from coming next
abbrev pub comes_next? : (ℕ → ℕ → Bool) → ℕ → ℕ → List ℕ → ℕ → Bool
comes_next? may k n next x = ltb (at next x) n && all (lets_by? may (at next) x) (below k)

-- letter y keeps letter x from coming next while its next event is earlier: it is another letter, and x may not pass it
abbrev pub keeps? : (ℕ → ℕ → Bool) → ℕ → ℕ → Bool
keeps? may x y = not (eqb y x || may y x)

-- the set of the letters below k that keep letter x: those that it depends on, itself left out
abbrev pub keepers : (ℕ → ℕ → Bool) → ℕ → ℕ → ℕ
keepers may k x = union (λ y. 2 ^ y) (filter (keeps? may x) (below k))

-- that set of each of the 16 letters that there may be
unfoldable pub all_keepers : (ℕ → ℕ → Bool) → ℕ → List ℕ
all_keepers may k = map (keepers may k) (below most_letters)
