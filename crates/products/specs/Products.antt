-- The product of Paper 11 by the counts of the 16 letters, as the code makes it; `product_ceiling` says that it is the paper's.
use Rattle.std.specs.Prelude.{List, [], ◌∷◌, map, ℕ, suc, ◌*◌}
use Rattle.profile.specs.Limits.{most_letters}
use Rattle.profile.specs.Lists.{below, filter}
use Rattle.profile.specs.Prefixes.{at, total}
use Rattle.profile.specs.Traces.{bit}

-- the events of the letters of g, where each letter has the number of events that `counts` gives
unfoldable pub size_of : List ℕ → ℕ → ℕ
size_of counts g = total (map (at counts) (filter (bit g) (below most_letters)))

abbrev pub product_of : List ℕ → List ℕ → ℕ
product_of counts [] = 1
product_of counts (g ∷ groups) = suc (size_of counts g) * product_of counts groups
