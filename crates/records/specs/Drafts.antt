-- The records of a table while it is built: until the backward sets are put, the last number of a record has the letters that can be added in its lower
-- half, and those of which one can be taken away in its upper half.
use Rattle.std.specs.Prelude.{List, [], ◌∷◌, ◌++◌, ℕ, ◌+◌, ◌*◌, ◌^◌}
use Rattle.profile.specs.Rules.{Rules}
use Rattle.profile.specs.Lists.{below, filter, flat_map}
use Rattle.profile.specs.Automata.{automaton, union}
use Rattle.profile.specs.Prefixes.{additions, at, backward, by_total, forward, level}
use Rattle.profile.specs.Tables.{layout, packed, record_of}
use Rattle.theory.proofs.Prefixes.{removable?}

-- a record with f and g of the counts behind them
abbrev pub draft : (List ℕ → ℕ) → (List ℕ → ℕ) → List ℕ → List ℕ
draft f g c = packed layout c ++ (f c ∷ g c ∷ [])

module _ (p : Rules) (w : List ℕ) where
  -- the prefixes of total n, and all by rising total
  abbrev pub of_total : ℕ → List (List ℕ)
  of_total n = level p.may p.letter p.profile.k w n

  abbrev pub in_order : List (List ℕ)
  in_order = by_total p.may p.letter p.profile.k w

  -- the forward and the backward set of counts
  abbrev pub forward_set : List ℕ → ℕ
  forward_set c = forward p.may p.letter (automaton p.profile) w (at c)

  abbrev pub backward_set : List ℕ → ℕ
  backward_set c = backward p.may p.letter (automaton p.profile) w (at c)

  -- the letters that can be added to counts, and those of which one can be taken away
  abbrev pub letters_of : List ℕ → List ℕ
  letters_of c = additions p.may p.letter p.profile.k w c

  abbrev pub removals : List ℕ → List ℕ
  removals c = filter (removable? p.may p.letter w (at c)) (below p.profile.k)

  -- their sets, and both in one number
  abbrev pub addable_set : List ℕ → ℕ
  addable_set c = union (λ x. 2 ^ x) (letters_of c)

  abbrev pub removable_set : List ℕ → ℕ
  removable_set c = union (λ x. 2 ^ x) (removals c)

  abbrev pub letters_set : List ℕ → ℕ
  letters_set c = addable_set c + 65536 * removable_set c

  -- the records of C with these letters, and with the backward sets
  abbrev pub drafted : List (List ℕ) → List ℕ
  drafted C = flat_map (draft forward_set letters_set) C

  abbrev pub filled : List (List ℕ) → List ℕ
  filled C = flat_map (record_of layout p.may p.letter (automaton p.profile) w) C
