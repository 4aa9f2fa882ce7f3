-- Paper 1: the expression that a text types, computed in one pass from its first byte to its last.
use Rattle.std.specs.Prelude.{List, [], ◌∷◌, ℕ, ◌-◌}
use Rattle.std.proofs.Math.Option.{Option, none, some}
use Rattle.expressions.specs.Expressions.{Expr, choice, leaf, seq, star}
use Rattle.expressions.specs.Passes.{Sign, closes, letter, opens, other, parts, repeats, sign}

-- what is built around the choice and around the factor that come next
pub record Frame : Type 0 where
  pub choices : Expr → Expr
  pub factors : Expr → Expr

-- the innermost bracket, the factor that was read last in it, and the brackets around it
pub record Reading : Type 0 where
  pub frame : Frame
  pub last : Option Expr
  pub outer : List Frame

-- "neighbours follow each other"
abbrev pub joined : Frame → Option Expr → Frame
joined f none = f
joined f (some e) = record { choices = f.choices; factors = λ x. f.factors (seq e x) }

-- the expression of a bracket whose last factor is e
abbrev pub whole : Frame → Expr → Expr
whole f e = f.choices (f.factors e)

abbrev pub fresh : (Expr → Expr) → Frame
fresh g = record { choices = g; factors = λ x. x }

abbrev pub closed : Frame → Expr → List Frame → Option Reading
closed f e [] = none
closed f e (g ∷ o) = some (record { frame = g; last = some (whole f e); outer = o })

-- one byte more
abbrev pub taken : Sign → ℕ → Frame → Option Expr → List Frame → Option Reading
taken letter c f l o = some (record { frame = joined f l; last = some (leaf (c - 97)); outer = o })
taken opens c f l o = some (record { frame = fresh (λ x. x); last = none; outer = joined f l ∷ o })
taken closes c f none o = none
taken closes c f (some e) o = closed f e o
taken repeats c f none o = none
taken repeats c f (some e) o = some (record { frame = f; last = some (star e); outer = o })
taken parts c f none o = none
taken parts c f (some e) o = some (record { frame = fresh (λ x. f.choices (choice (f.factors e) x)); last = none; outer = o })
taken other c f l o = none

abbrev pub ended_with : Frame → Option Expr → List Frame → Option Expr
ended_with f none o = none
ended_with f (some e) [] = some (whole f e)
ended_with f (some e) (g ∷ o) = none

abbrev pub read : ℕ → Reading → List ℕ → Option Expr
read k s [] = ended_with s.frame s.last s.outer
read k s (c ∷ u) = elim (taken (sign k c) c s.frame s.last s.outer) [ none ↦ none | some t ↦ read k t u ]

-- the expression that the text types; none where it types none
abbrev pub tree : ℕ → List ℕ → Option Expr
tree k u = read k (record { frame = fresh (λ x. x); last = none; outer = [] }) u
