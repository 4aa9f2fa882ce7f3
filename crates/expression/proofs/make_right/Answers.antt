-- `expression::make_right` meets its contract.
use Prim.Native.Nat.{◌+◌, ◌≤◌}
use native.Mathlib.Nat.{mul-le-mul}
use native.Mathlib.Omega.{arith}
use Rattle.profile.specs.Limits.{most_states}
use Rattle.expression.proofs.Answers.{makes_equal, makes_profile, makes_short, right_text}
use borrow.Author.Rules.{rules}
use Rattle.expression.proofs.make_right.Goals as goal

pub overflow_mul-s : goal.overflow_mul-s
overflow_mul-s c =
    let a = c.args in
    let n : a.n + 1 ≤ most_states = omega arith in
    let m = mul-le-mul n c.requires.1 in
    search rules

pub returns-then-moves-s : goal.returns-then-moves-s
returns-then-moves-s c =
    let S = c in
    let a = S.args in
    let u = a.text.now in
    let v = a.moves.now in
    makes_equal a.k u v _ _ (makes_short a.k u v S.requires.0 S.requires.1 a.deepest a.n S.requires.2 (omega arith) (omega arith) c.if-moves-s.true)

pub write_moves-finals-requires : goal.write_moves-finals-requires
write_moves-finals-requires c =
    let S = c in
    let a = S.args in
    let u = a.text.now in
    let v = a.moves.now in
    right_text a.k u v S.requires.0 S.requires.1 a.deepest a.n S.requires.2 (omega arith) (omega arith) c.if-moves-s.false

pub returns : goal.returns
returns c =
    let S = c in
    let a = S.args in
    let u = a.text.now in
    let v = a.moves.now in
    makes_equal a.k u v _ _ (makes_profile a.k u v S.requires.0 S.requires.1 a.deepest a.n S.requires.2 (omega arith) (omega arith) c.if-moves-s.false c.write_moves-finals.result c.write_moves-finals.new.moves c.write_moves-finals.ensures)
