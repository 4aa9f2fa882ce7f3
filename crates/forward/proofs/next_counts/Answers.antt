-- `forward::next_counts` meets its contract.
use mathlib.Core.Path.{sym, ◌∙◌, ap, subst}
use native.Mathlib.Omega.{arith}
use lib.Dec.{T}
use borrow.Author.Rules.{rules}
use Rattle.profile.specs.Traces.{bit}
use Rattle.cursors.specs.Cursors.{advanced}
use Rattle.merge.specs.Merge.{inherited, least_letters, least_words, passing, united}
use Rattle.merge.proofs.Givers.{givers_inside}
use Rattle.forward.proofs.next_counts.Goals as goal

pub unite-handed-requires : goal.unite-handed-requires
unite-handed-requires c =
    let a = c.args in
    let e = sym (ap least_letters c.in_ok-c.was) ∙ c.least_counts.ensures.result_value_2 in
    record {
      in_bounds = search rules;
      given = λ x h m. givers_inside a.level.now a.cursors.now a.rows.now.profile.shape.k x (subst (λ S. T (bit S x)) e m);
    }

pub advance-requires : goal.advance-requires
advance-requires c =
    let s = c in
    let a = s.args in
    let e = sym (ap least_letters c.in_ok-c.was) ∙ c.least_counts.ensures.result_value_2 in
    record {
      k_le_most_letters = (s.requires.0, omega (arith, s.requires.0, s.requires.1));
      given = λ x h m. givers_inside a.level.now a.cursors.now a.rows.now.profile.shape.k x (subst (λ S. T (bit S x)) e m);
    }

pub returns-in_err-c : goal.returns-in_err-c
returns-in_err-c c = rw c.from_residual.ensures (sym c.least_counts.ensures.result_value ∙ ap least_words c.in_err-c.was)

pub returns : goal.returns
returns c =
    let a = c.args in
    let p = a.rows.now.profile in
    let x = c.least_counts in
    let u = c.unite-handed.ensures in
    let e = sym (ap least_letters c.in_ok-c.was) ∙ x.ensures.result_value_2 in (
      sym x.ensures.result_value ∙ ap least_words c.in_ok-c.was,
      u.0 ∙ ap (united p.shape.k p.shape.s p.moves.now a.level.now a.cursors.now) e,
      u.1 ∙ ap (inherited p.shape.k a.level.now a.cursors.now) e,
      u.2 ∙ ap (passing p.shape.k p.masks.now) e,
      c.advance.ensures ∙ ap (advanced p.shape.k a.level.now a.cursors.now) e,
      e,
    )
