-- Paper 10: "an event taken costs one for each earlier event not yet taken", told from the places of each letter's events.
use Rattle.std.specs.Prelude.{◌≡◌, List, ◌++◌, map, ℕ, ◌≤◌, ◌<◌, T, length}
use Rattle.profile.specs.Limits.{longest, most_letters}
use Rattle.profile.specs.Lists.{below}
use Rattle.profile.specs.Prefixes.{count}
use Rattle.profile.specs.Tables.{count_field, layout}
use Rattle.profile.specs.Traces.{letters_below}
use Rattle.places.specs.Places.{place_start, place_table}

-- a log w of letters below k, and the places of its events
pub record Placed (k : ℕ) (w starts places : List ℕ) : Type 0 where
  pub few : length w ≤ longest
  pub letters : k ≤ most_letters
  pub below_k : T (letters_below (λ a. a) k w)
  pub starts_rest : List ℕ
  pub places_rest : List ℕ
  pub starts_are : starts ≡ map (place_start w) (below k) ++ starts_rest
  pub places_are : places ≡ place_table k w ++ places_rest

-- the numbers c and `whole` hold counts of w and those of all its events; letter x has an event left
pub record Within (k : ℕ) (w c whole : List ℕ) (x : ℕ) : Type 0 where
  pub letter : x < k
  pub left : count_field layout c x < count (λ a. a) w x
  pub fits : (y : ℕ) → y < k → count_field layout c y ≤ count (λ a. a) w y
  pub all : (y : ℕ) → y < k → count_field layout whole y ≡ count (λ a. a) w y
