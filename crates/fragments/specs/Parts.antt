-- A part of an expression as it is read: document 02, Paper 1.
use Rattle.std.specs.Prelude.{true, false, ◌&&◌, ◌||◌, List, [], ◌∷◌, map, ℕ, zero, suc, ◌+◌, ◌^◌, eqb, length, get_or}
use Rattle.std.specs.Int.Bits.{bit_or}
use Rattle.profile.specs.Lists.{below}
use Rattle.profile.specs.Traces.{bit}
use Rattle.expressions.specs.Expressions.{Expr}
use Rattle.expressions.specs.Positions.{empty?, firsts, lasts, when}
use Rattle.fragments.specs.declared.Part.{Part}

-- the part that is p, ends at `at` and has the next number n
abbrev pub part_of : Expr → ℕ → ℕ → Part
part_of p at n = record { at = at; next = n; empty = empty? p; first = firsts p; last = lasts p }

-- one letter; one of two; one after the other
abbrev pub letter_part_of : ℕ → ℕ → Part
letter_part_of at n = record { at = at; next = n + 1; empty = false; first = 2 ^ n; last = 2 ^ n }

abbrev pub choice_part_of : Part → Part → Part
choice_part_of x y =
    record { at = y.at; next = y.next; empty = x.empty || y.empty; first = bit_or x.first y.first; last = bit_or x.last y.last }

abbrev pub sequence_part_of : Part → Part → Part
sequence_part_of x y = record {
  at = y.at;
  next = y.next;
  empty = x.empty && y.empty;
  first = bit_or x.first (when x.empty y.first);
  last = bit_or (when y.empty x.last) y.last;
}

-- the rows, each with the set of its number more
abbrev pub add_rows : List ℕ → (ℕ → ℕ) → List ℕ
add_rows rows f = map (λ i. bit_or (get_or rows i 0) (f i)) (below (length rows))

-- every number of `from` may be followed by those of `to`
abbrev pub linked : List ℕ → ℕ → ℕ → List ℕ
linked rows from to = add_rows rows (λ i. when (bit from i) to)

-- the stars that a text begins with
abbrev pub stars : List ℕ → ℕ
stars [] = 0
stars (c ∷ u) = elim (eqb c 42) [ true ↦ suc (stars u) | false ↦ 0 ]

-- a part that ends at `at`, with n stars behind it, and its rows
abbrev pub starred_part : ℕ → ℕ → Part → Part
starred_part zero at x = record { at = at; next = x.next; empty = x.empty; first = x.first; last = x.last }
starred_part (suc n) at x = record { at = at + suc n; next = x.next; empty = true; first = x.first; last = x.last }

abbrev pub starred_rows : ℕ → Part → List ℕ → List ℕ
starred_rows zero x rows = rows
starred_rows (suc n) x rows = linked rows x.last x.first
