-- `expression::write_moves` meets its contract.
use mathlib.Core.Path.{refl, ◌∙◌, ap, ap₂}
use native.Mathlib.Omega.{arith}
use lib.Bits.{bit_or}
use lib.ListN.{set, length}
use Rattle.expressions.specs.Expressions.{numbered}
use Rattle.expressions.specs.Positions.{follows, when}
use Rattle.expression.specs.Making.{filled}
use Rattle.expression.proofs.Filling.{letters_few, moves_made, rows_long, sets_length, text_comes}
use Rattle.expression.proofs.write_moves.Goals as goal

pub expression-x-requires : goal.expression-x-requires
expression-x-requires c =
    let S = c in
    let a = S.args in
    let u = a.text.now in
    let v = a.moves.now in
    (omega arith, text_comes a.k a.s u v S.requires)

pub letter_sets-requires : goal.letter_sets-requires
letter_sets-requires c =
    let S = c in
    let a = S.args in
    let u = a.text.now in
    let v = a.moves.now in
    (S.requires.few, letters_few a.k a.s u v S.requires, refl)

pub fill-requires : goal.fill-requires
fill-requires c =
    let S = c in
    let a = S.args in
    let u = a.text.now in
    let v = a.moves.now in
    let t = S.requires in
    let R = c.expression-x.ensures (text_comes a.k a.s u v t) in
    let q = rows_long c.expression-x.new.rows (follows (numbered 1 t.tree)) c.expression-x.result.first R.rows in
    (t.some_letter, omega (arith, ap length c.letter_sets.ensures, sets_length a.k u, t.few), omega (arith, q, t.states, t.short), t.fits)

pub returns : goal.returns
returns c =
    let S = c in
    let a = S.args in
    let u = a.text.now in
    let v = a.moves.now in
    λ t. let R = c.expression-x.ensures (text_comes a.k a.s u v t) in (
      c.with_empty.ensures ∙ ap (λ p. bit_or p.last (when p.empty 1)) R.value,
      c.fill.ensures ∙ (ap₂ (λ rows sets. filled a.k a.s rows sets v) (ap₂ (λ l f. set l 0 f) R.rows (ap (λ p. p.first) R.value)) c.letter_sets.ensures ∙ moves_made a.k a.s u v t),
    )
