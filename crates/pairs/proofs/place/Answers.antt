-- `pairs::place` meets its contract.
use mathlib.Core.Path.{refl}
use Rattle.pairs.proofs.Squares.{place_lt, small_square}
use native.Mathlib.Omega.{arith}
use Rattle.pairs.proofs.place.Goals as goal

pub overflow_mul-result : goal.overflow_mul-result
overflow_mul-result c = let a = c.args in omega (arith, place_lt a.records a.a a.b c.requires.0 c.requires.1, small_square a.records c.requires.2)

pub overflow_add-result : goal.overflow_add-result
overflow_add-result c = let a = c.args in omega (arith, place_lt a.records a.a a.b c.requires.0 c.requires.1, small_square a.records c.requires.2)

pub returns : goal.returns
returns c = let a = c.args in (refl, place_lt a.records a.a a.b c.requires.0 c.requires.1, small_square a.records c.requires.2)
