-- Sets of names by the rules of a grammar, gathered over the prefixes between two: the definitions that the contracts cite.
use Rattle.std.specs.Prelude.{Bool, ◌&&◌, cond, ◌⊎◌, List, ℕ, ◌^◌, T, eqb, get_or}
use Rattle.profile.specs.Traces.{bit}
use Rattle.profile.specs.Automata.{union}
use Rattle.grammars.specs.Grammars.{first_of, kind_of, name_of, second_of}

-- the set y is added to the set of each name in x, and nothing else
pub record Spread (x y : ℕ) (before after : List ℕ) : Type 0 where
  pub given : (l r : ℕ) → T (bit (get_or after l 0) r) → T (bit (get_or before l 0) r) ⊎ (T (bit x l) × T (bit y r))
  pub kept : (l r : ℕ) → T (bit (get_or before l 0) r) → T (bit (get_or after l 0) r)
  pub added : (l r : ℕ) → T (bit x l) → T (bit y r) → T (bit (get_or after l 0) r)

-- the names to which a rule gives two names, the second in the set of the first
abbrev pub closed_by : List ℕ → ℕ → ℕ
closed_by acc x = cond (eqb (kind_of x) 1 && bit (get_or acc (first_of x) 0) (second_of x)) (2 ^ name_of x) 0

abbrev pub closed : List ℕ → List ℕ → ℕ
closed rules acc = union (closed_by acc) rules

-- the rule z gives the name n two names, the first of x and the second of y
abbrev pub fits? : ℕ → ℕ → ℕ → ℕ → Bool
fits? n x y z = eqb (kind_of z) 1 && (eqb (name_of z) n && (bit x (first_of z) && bit y (second_of z)))
