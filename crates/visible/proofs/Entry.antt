-- The refusals up to 8, in the order in which they are checked.
use mathlib.Core.Path.{◌≡◌, sym, ◌∙◌}
use mathlib.Core.Bool.{Bool}
use mathlib.Core.List.{List, ◌++◌}
use Rattle.std.specs.Prelude.{Result, Ok, Err}
use Rattle.profile.specs.Refusals.{lowest, refused_by}
use Rattle.profile.specs.declared.Refusal.{Refusal}
use Rattle.theory.proofs.Refusals.{lowest_append, lowest_first}

-- the first of two checks that refuses, as `?` takes it
abbrev pub first_of : Result Unit Refusal → Result Unit Refusal → Result Unit Refusal
first_of (Err r) d = Err r
first_of (Ok u) d = d

-- it gives the lowest of both lists
pub first_lowest : (c d : Result Unit Refusal) (x y : List (Bool × Refusal)) → refused_by c ≡ lowest x → refused_by d ≡ lowest y → refused_by (first_of c d) ≡ lowest (x ++ y)
first_lowest (Err r) d x y e f = sym (lowest_first x y (sym e))
first_lowest (Ok u) d x y e f = f ∙ sym (lowest_append x y (sym e))
