-- Paper 7, "Verdict while the class is lending": the prefixes in order of arrival, and the table that keeps them.
use Rattle.std.specs.Prelude.{◌≡◌, Bool, ◌||◌, List, [], ◌∷◌, ◌++◌, map, ℕ, suc, ◌+◌, ◌*◌, ◌≤◌, ◌<◌, eqb, drop, get_or, length, replicate, set, take}
use Rattle.profile.specs.Lists.{all, below, filter}
use Rattle.profile.specs.Automata.{Automaton}
use Rattle.profile.specs.Prefixes.{at, count, forward}
use Rattle.profile.specs.Tables.{Layout, layout, packed, record_length}

-- a table of numbers has place for n records
abbrev pub HasRoom : List ℕ → ℕ → Type 0
HasRoom t n = record_length layout * n ≤ length t

-- counts with one more of letter a
abbrev pub with_one : List ℕ → ℕ → List ℕ
with_one c a = set c a (suc (at c a))

-- "an earlier event must be marked unless its letter may be moved past by the marked one": the event a after w can be added to the prefix c of w, which has
-- all events of every letter that a may not pass, of a itself too
abbrev pub joins? : (ℕ → ℕ → Bool) → ℕ → List ℕ → ℕ → List ℕ → Bool
joins? may k w a c = all (λ b. may b a || eqb (at c b) (count (λ x. x) w b)) (below k)

-- the prefixes that one event brings, "in the order of the records it is added to"
abbrev pub newcomers : (ℕ → ℕ → Bool) → ℕ → List ℕ → ℕ → List (List ℕ) → List (List ℕ)
newcomers may k w a l = map (λ c. with_one c a) (filter (joins? may k w a) l)

-- "records stand in order of arrival": l are those of the log w, and the event a comes; then the events of a list, one by one
abbrev pub arrive : (ℕ → ℕ → Bool) → ℕ → List ℕ → ℕ → List (List ℕ) → List (List ℕ)
arrive may k w a l = l ++ newcomers may k w a l

abbrev pub arrive_all : (ℕ → ℕ → Bool) → ℕ → List ℕ → List (List ℕ) → List ℕ → List (List ℕ)
arrive_all may k w l [] = l
arrive_all may k w l (a ∷ v) = arrive_all may k (w ++ (a ∷ [])) (arrive may k w a l) v

-- the prefixes of w in order of arrival; before all events there is the empty one
abbrev pub arrivals : (ℕ → ℕ → Bool) → ℕ → List ℕ → List (List ℕ)
arrivals may k w = arrive_all may k [] (replicate k 0 ∷ []) w

-- "ten-number records with counts and forward sets, the backward number unwritten": what is written of the record of c
abbrev pub written : Layout → (ℕ → ℕ → Bool) → Automaton → List ℕ → List ℕ → List ℕ
written L may M w c = packed L c ++ (forward may (λ a. a) M w (at c) ∷ [])

-- the numbers v, put in place of as many from number i on
abbrev pub put_numbers : List ℕ → ℕ → List ℕ → List ℕ
put_numbers t i v = take i t ++ (v ++ drop (i + length v) t)

-- the records of the counts cs, from record j on; every backward number and every number past them stays
abbrev pub put_written : Layout → (ℕ → ℕ → Bool) → Automaton → List ℕ → ℕ → List (List ℕ) → List ℕ → List ℕ
put_written L may M w j [] t = t
put_written L may M w j (c ∷ cs) t = put_written L may M w (suc j) cs (put_numbers t (record_length L * j) (written L may M w c))

-- "Its table keeps the judge's ten-number records with counts and forward sets": record r of t is that of the r-th prefix of w to arrive
pub record Keeps (L : Layout) (may : ℕ → ℕ → Bool) (M : Automaton) (k : ℕ) (w t : List ℕ) : Type 0 where
  pub fits : record_length L * length (arrivals may k w) ≤ length t
  pub holds : (r j : ℕ) → r < length (arrivals may k w) → j < suc L.numbers
      → get_or t (record_length L * r + j) 0 ≡ get_or (written L may M w (get_or (arrivals may k w) r [])) j 0
