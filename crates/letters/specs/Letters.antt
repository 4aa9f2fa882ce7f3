-- The letters that can be added to a prefix, by its numbers of counts and the places of each letter's events.
use Rattle.std.specs.Prelude.{◌≡◌, Bool, false, cond, List, map, ℕ, T, ◌+◌, ◌-◌, ◌^◌, get_or}
use Rattle.std.specs.Int.Bits.{bit_and, bit_or}
use Rattle.profile.specs.Automata.{union}
use Rattle.profile.specs.Lists.{Mem, below, filter}
use Rattle.profile.specs.Tables.{count_field, layout}
use Rattle.profile.specs.Traces.{bit}
use Rattle.events.specs.Events.{comes_next?}

-- the place of the next event of a letter, and of each letter below k, by the numbers of counts t: `starts` says where in `places` those of each letter begin
abbrev pub place_by : List ℕ → List ℕ → List ℕ → ℕ → ℕ
place_by starts places t x = get_or places (get_or starts x 0 + count_field layout t x) 0

abbrev pub next_by : ℕ → List ℕ → List ℕ → List ℕ → List ℕ
next_by k starts places t = map (place_by starts places t) (below k)

-- the letters below k that can be added to the counts t of a log of n events
abbrev pub letters_by : (ℕ → ℕ → Bool) → ℕ → ℕ → List ℕ → List ℕ → List ℕ → List ℕ
letters_by may k n starts places t = filter (comes_next? may k n (next_by k starts places t)) (below k)

-- the set of letter x alone where it can be added, else no letter; the union of these for the letters of G below k
abbrev pub letter_by : (ℕ → ℕ → Bool) → ℕ → ℕ → List ℕ → List ℕ → List ℕ → ℕ → ℕ
letter_by may k n starts places t x = cond (comes_next? may k n (next_by k starts places t) x) (2 ^ x) 0

abbrev pub tested_by : (ℕ → ℕ → Bool) → ℕ → ℕ → List ℕ → List ℕ → List ℕ → ℕ → ℕ
tested_by may k n starts places t G = union (letter_by may k n starts places t) (filter (bit G) (below k))

-- the letters below k that are in neither of two sets
abbrev pub neither : ℕ → ℕ → ℕ → ℕ
neither k a b = bit_and (2 ^ k - 1) (2 ^ 32 - 1 - bit_or a b)

-- what a finder is told of the letters found: those of the set `handed` are among them and, without terms, those of `passed` that are among them are handed on
abbrev pub Hands : Bool → List ℕ → ℕ → ℕ → Type 0
Hands termed found handed passed =
    ((x : ℕ) → T (bit handed x) → Mem x found) × (termed ≡ false → (x : ℕ) → Mem x found → T (bit passed x) → T (bit handed x))
