-- Document 01, "Words": independence, exchanges, reachable logs.
-- A log is a list of events. An event is a number, and `letter` gives its letter: in document 01 an event is its letter.
-- `may a b`: event a directly followed by event b may become b followed by a. It need not be symmetric.
use Rattle.std.specs.Prelude.{Bool, true, false, List, [], ◌∷◌, ◌++◌, map, ℕ, ◌/◌, ◌%◌, ◌^◌, T, eqb, ltb, get_or}
use Rattle.profile.specs.Lists.{all, flat_map}

-- "letter, 0 to k − 1": every event of the log has a letter below k
abbrev pub letters_below : (ℕ → ℕ) → ℕ → List ℕ → Bool
letters_below letter k w = all (λ a. ltb (letter a) k) w

-- "bit j of mask i is set (bit 0 is the lowest)": bit j of the number S; so is a set of states a number
abbrev pub bit : ℕ → ℕ → Bool
bit S j = eqb (S / 2 ^ j % 2) 1

-- "Bit j of mask i now means: i directly followed by j may become j followed by i": from Paper 4 on the relation is one-way, and the word is kept
abbrev pub independent : List ℕ → ℕ → ℕ → Bool
independent masks i j = bit (get_or masks i 0) j

-- "where the masks are symmetric": what may be exchanged may be exchanged the other way round
abbrev pub Symmetric : (ℕ → ℕ → Bool) → Type 0
Symmetric may = (a b : ℕ) → T (may a b) → T (may b a)

-- "exchange", "reachable": v is reachable from w by any number of exchanges, zero included
pub data Reachable (may : ℕ → ℕ → Bool) (w : List ℕ) : List ℕ → Type 0 where
  itself : Reachable may w w
  exchange : (u : List ℕ) (a b : ℕ) (v : List ℕ) → T (may a b) → Reachable may w (u ++ (a ∷ b ∷ v)) → Reachable may w (u ++ (b ∷ a ∷ v))

-- v with a put in front, or behind some of its first events, if each of these may pass a
abbrev pub insertions : (ℕ → ℕ → Bool) → ℕ → List ℕ → List (List ℕ)
insertions may a [] = (a ∷ []) ∷ []
insertions may a (b ∷ v) = (a ∷ b ∷ v) ∷ elim (may a b) [ true ↦ map (◌∷◌ b) (insertions may a v) | false ↦ [] ]

-- "order" (of a log, of a prefix, of the unmarked events): every log reachable from w, listed
abbrev pub orders : (ℕ → ℕ → Bool) → List ℕ → List (List ℕ)
orders may [] = [] ∷ []
orders may (a ∷ w) = flat_map (insertions may a) (orders may w)
