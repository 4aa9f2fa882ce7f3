-- Document 02, Paper 1: the profile made of an expression, computed. That these sets are those of the paper's words is proved (`move_is`, `final_is`).
use Rattle.std.specs.Prelude.{Bool, true, false, ◌&&◌, ◌||◌, List, [], ◌∷◌, map, ℕ, zero, suc, ◌+◌, ◌^◌, eqb}
use Rattle.std.specs.Int.Bits.{bit_and, bit_or}
use Rattle.profile.specs.Automata.{Profile}
use Rattle.profile.specs.Lists.{below, flat_map}
use Rattle.profile.specs.Traces.{bit}
use Rattle.expressions.specs.Expressions.{Expr, choice, leaf, leaves, numbered, seq, size, star}

-- whether the empty list is described
abbrev pub empty? : Expr → Bool
empty? (leaf i) = false
empty? (choice e f) = empty? e || empty? f
empty? (seq e f) = empty? e && empty? f
empty? (star e) = true

-- the set where the test holds; none where not
abbrev pub when : Bool → ℕ → ℕ
when true S = S
when false S = 0

-- the numbers that may come first, last, and directly after i, as sets
abbrev pub firsts : Expr → ℕ
firsts (leaf i) = 2 ^ i
firsts (choice e f) = bit_or (firsts e) (firsts f)
firsts (seq e f) = bit_or (firsts e) (when (empty? e) (firsts f))
firsts (star e) = firsts e

abbrev pub lasts : Expr → ℕ
lasts (leaf i) = 2 ^ i
lasts (choice e f) = bit_or (lasts e) (lasts f)
lasts (seq e f) = bit_or (when (empty? f) (lasts e)) (lasts f)
lasts (star e) = lasts e

abbrev pub follows : Expr → ℕ → ℕ
follows (leaf j) i = 0
follows (choice e f) i = bit_or (follows e i) (follows f i)
follows (seq e f) i = bit_or (bit_or (follows e i) (follows f i)) (when (bit (lasts e) i) (firsts f))
follows (star e) i = bit_or (follows e i) (when (bit (lasts e) i) (firsts e))

-- the numbers, from n on, of the letters that are a
abbrev pub typed_as : ℕ → ℕ → List ℕ → ℕ
typed_as a n [] = 0
typed_as a n (b ∷ l) = bit_or (when (eqb b a) (2 ^ n)) (typed_as a (suc n) l)

-- "That letter leads from state q to i exactly when it may come directly after the q-th letter typed, or first for q = 0"
abbrev pub successors : Expr → ℕ → ℕ
successors p zero = firsts p
successors p (suc q) = follows p (suc q)

abbrev pub moves_of : ℕ → Expr → List ℕ
moves_of k e = flat_map (λ q. map (λ a. bit_and (successors (numbered 1 e) q) (typed_as a 1 (leaves e))) (below k)) (below (suc (size e)))

-- "Final are the states a described log may end in, 0 for the empty log"
abbrev pub finals_of : Expr → ℕ
finals_of e = bit_or (lasts (numbered 1 e)) (when (empty? (numbered 1 e)) 1)

-- "the profile made": "State 0 starts; … s is one more than the letters typed"; the masks are the caller's
abbrev pub made : ℕ → List ℕ → Expr → Profile
made k masks e = record { k = k; masks = masks; s = suc (size e); start = 0; finals = finals_of e; moves = moves_of k e }
