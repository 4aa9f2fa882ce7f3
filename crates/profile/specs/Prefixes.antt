-- Document 01, "Prefixes and their table": counts, marked events, prefixes, P, forward and backward; document 02, Paper 2: looks.
use Rattle.std.specs.Prelude.{◌≡◌, Bool, true, not, ◌&&◌, cond, List, [], ◌∷◌, ◌++◌, map, ℕ, zero, suc, ◌+◌, ◌-◌, ◌≤◌, ◌<◌, T, eqb, ltb, length, get_or}
use Rattle.profile.specs.Lists.{all, below, filter, flat_map}
use Rattle.profile.specs.Traces.{orders}
use Rattle.profile.specs.Automata.{Automaton, run, run_back, union}

-- 1 for the letter x, 0 for any other
abbrev pub one : ℕ → ℕ → ℕ
one x y = cond (eqb x y) 1 0

-- counts with one x more
abbrev pub more : (ℕ → ℕ) → ℕ → ℕ → ℕ
more c x y = one x y + c y

-- counts with one x less
abbrev pub less : (ℕ → ℕ) → ℕ → ℕ → ℕ
less c x y = c y - one x y

module _ (letter : ℕ → ℕ) where
  -- "count": how many events of u have the letter x
  abbrev pub count : List ℕ → ℕ → ℕ
  count [] x = 0
  count (a ∷ u) x = one (letter a) x + count u x

  -- "marked": the first so-many occurrences of each letter, in log order
  abbrev pub marked : List ℕ → (ℕ → ℕ) → List ℕ
  marked [] c = []
  marked (a ∷ w) c = elim (c (letter a)) [ zero ↦ marked w c | suc n ↦ a ∷ marked w (less c (letter a)) ]

  -- "the unmarked events", in log order
  abbrev pub unmarked : List ℕ → (ℕ → ℕ) → List ℕ
  unmarked [] c = []
  unmarked (a ∷ w) c = elim (c (letter a)) [ zero ↦ a ∷ unmarked w c | suc n ↦ unmarked w (less c (letter a)) ]

-- wherever w is u a v b x and b is marked, a is marked too unless a directly followed by b may become b a: "an earlier event must be marked unless its
-- letter may be moved past by the marked one". An event is marked when fewer events of its letter stand before it than its letter's count.
abbrev pub Closed : (ℕ → ℕ → Bool) → (ℕ → ℕ) → List ℕ → (ℕ → ℕ) → Type 0
Closed may letter w c = (u v x : List ℕ) (a b : ℕ) → w ≡ u ++ (a ∷ (v ++ (b ∷ x))) → count letter (u ++ (a ∷ v)) (letter b) < c (letter b)
    → T (not (may a b)) → count letter u (letter a) < c (letter a)

-- "prefix": no count exceeds that letter's count in w, and the rule holds
pub record IsPrefix (may : ℕ → ℕ → Bool) (letter : ℕ → ℕ) (w : List ℕ) (c : ℕ → ℕ) : Type 0 where
  pub fits : (x : ℕ) → c x ≤ count letter w x
  pub closed : Closed may letter w c

-- the rule as a test: what is marked behind an unmarked event may pass it
abbrev pub closed? : (ℕ → ℕ → Bool) → (ℕ → ℕ) → List ℕ → (ℕ → ℕ) → Bool
closed? may letter [] c = true
closed? may letter (a ∷ w) c =
    elim (c (letter a)) [ zero ↦ all (may a) (marked letter w c) && closed? may letter w c | suc n ↦ closed? may letter w (less c (letter a)) ]

-- "a count for each letter": the count of letter x in a list of counts, one for each letter below k
abbrev pub at : List ℕ → ℕ → ℕ
at c x = get_or c x 0

-- the lists of counts of which none exceeds its own in ns
abbrev pub vectors : List ℕ → List (List ℕ)
vectors [] = [] ∷ []
vectors (n ∷ ns) = flat_map (λ i. map (◌∷◌ i) (vectors ns)) (below (suc n))

-- the prefixes of w, listed
abbrev pub prefixes : (ℕ → ℕ → Bool) → (ℕ → ℕ) → ℕ → List ℕ → List (List ℕ)
prefixes may letter k w = filter (λ c. closed? may letter w (at c)) (vectors (map (count letter w) (below k)))

-- "P", the number of prefixes
abbrev pub prefix_count : (ℕ → ℕ → Bool) → (ℕ → ℕ) → ℕ → List ℕ → ℕ
prefix_count may letter k w = length (prefixes may letter k w)

-- "adding one of that letter gives a prefix again": of a prefix c and a letter x. No other count grows, so none but that of x can exceed its own in w.
abbrev pub addable? : (ℕ → ℕ → Bool) → (ℕ → ℕ) → List ℕ → (ℕ → ℕ) → ℕ → Bool
addable? may letter w c x = ltb (c x) (count letter w x) && closed? may letter w (more c x)

-- the letters of which that holds
abbrev pub additions : (ℕ → ℕ → Bool) → (ℕ → ℕ) → ℕ → List ℕ → List ℕ → List ℕ
additions may letter k w c = filter (addable? may letter w (at c)) (below k)

-- "looks", "exactly the number of pairs of a prefix and a letter such that adding one of that letter gives a prefix again"
abbrev pub looks : (ℕ → ℕ → Bool) → (ℕ → ℕ) → ℕ → List ℕ → ℕ
looks may letter k w = length (flat_map (additions may letter k w) (prefixes may letter k w))

-- "total count"
abbrev pub total : List ℕ → ℕ
total [] = 0
total (n ∷ c) = n + total c

-- the prefixes of total n; all prefixes "in rising order of total count". "Within one total, records now stand by their counts, the count of letter 0 first,
-- the smaller first" (document 02, Paper 5): so `vectors` lists them
abbrev pub level : (ℕ → ℕ → Bool) → (ℕ → ℕ) → ℕ → List ℕ → ℕ → List (List ℕ)
level may letter k w n = filter (λ c. eqb (total c) n) (prefixes may letter k w)

abbrev pub by_total : (ℕ → ℕ → Bool) → (ℕ → ℕ) → ℕ → List ℕ → List (List ℕ)
by_total may letter k w = flat_map (level may letter k w) (below (suc (length w)))

-- that order of counts: the letter order of the counts with their total before them
abbrev pub ranked : List ℕ → List ℕ
ranked c = total c ∷ c

-- "forward": states to which some order of the marked events leads from the start
abbrev pub forward : (ℕ → ℕ → Bool) → (ℕ → ℕ) → Automaton → List ℕ → (ℕ → ℕ) → ℕ
forward may letter M w c = union (run M letter M.start) (orders may (marked letter w c))

-- "backward": states from which some order of the unmarked events leads to a final state
abbrev pub backward : (ℕ → ℕ → Bool) → (ℕ → ℕ) → Automaton → List ℕ → (ℕ → ℕ) → ℕ
backward may letter M w c = union (run_back M letter M.final) (orders may (unmarked letter w c))
