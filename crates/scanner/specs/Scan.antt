-- The pass over a text: document 02, Paper 1.
use Rattle.std.specs.Prelude.{List, map, ℕ, length, Result, Ok, Err}
use Rattle.std.specs.Prelude as Rust
use Rattle.std.proofs.Math.Option.{Option, none, some}
use Rattle.profile.specs.Limits.{most_letters}
use Rattle.profile.specs.Lists.{below}
use Rattle.expressions.specs.Positions.{typed_as}
use Rattle.expressions.specs.Passes.{Place, after, deepest, fault, letters_of}
use Rattle.scanner.specs.declared.Scanned.{Scanned}
use Rattle.scanner.specs.declared.Stand.{Stand}

-- where the pass stands; none where the byte breaks the rules
abbrev pub placed : Rust.Option Stand → Option Place
placed (Rust.Some s) = after s.want s.depth
placed Rust.None = none

-- a text that keeps the rules, by how deep its brackets go and how many letters are typed
abbrev pub right_as : ℕ → ℕ → Result Scanned ℕ
right_as d n = Ok (record { deepest = d; letters = n })

-- what a text is: the place of 11, or how deep its brackets go and how many letters are typed
abbrev pub scanned_as : Option ℕ → ℕ → ℕ → Result Scanned ℕ
scanned_as (some i) d n = Err i
scanned_as none d n = right_as d n

abbrev pub scanned : ℕ → List ℕ → Result Scanned ℕ
scanned k u = scanned_as (fault k u) (deepest 0 u) (length (letters_of k u))

-- for each letter the numbers, from 1 on, under which it is typed
abbrev pub sets_of : ℕ → List ℕ → List ℕ
sets_of k u = map (λ a. typed_as a 1 (letters_of k u)) (below most_letters)
