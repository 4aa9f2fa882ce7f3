-- `grammar_judge::judge` meets its contract.
use mathlib.Core.Path.{sym, ◌∙◌, ap, subst}
use Rattle.profile.specs.Refusals.{refused_by}
use Rattle.grammar_judge.proofs.Answers.{answer_full, answer_log, answer_none, answer_order, answer_relation, answer_rules, answer_sets, answer_short}
use Prim.Native.Nat.{◌*◌, ◌≤◌, ◌<◌}
use lib.ListN.{length}
use Rattle.profile.specs.Tables.{capacity, layout}
use Rattle.std.specs.Prelude.{Err}
use Rattle.std.proofs.lemmas.Result.{err_from_is_err_and}
use Rattle.bare.specs.Bare.{BuiltIs}
use Rattle.grammar_judge.specs.GrammarJudge.{Promise, VerdictIs}
use Rattle.grammar_judge.proofs.Settings.{fits_of, setting_of, square_fits}
use Rattle.grammar_judge.proofs.judge.Goals as goal

pub returns-in_err-check_relation : goal.returns-in_err-check_relation
returns-in_err-check_relation c =
    let a = c.args in
    let e = err_from_is_err_and c.from_residual.result c.from_residual.ensures.1 in
    rw (e.1, e.2) (answer_relation a.grammar.now.k a.grammar.now.masks.now a.grammar.now.names a.grammar.now.rules.now a.log.now a.order.now a.work.now a.sets.now _ (sym c.check_relation.ensures ∙ ap refused_by c.in_err-check_relation.was))

pub returns-then-bad_rules : goal.returns-then-bad_rules
returns-then-bad_rules c =
    let a = c.args in
    answer_rules a.grammar.now.k a.grammar.now.masks.now a.grammar.now.names a.grammar.now.rules.now a.log.now a.order.now a.work.now a.sets.now (sym c.check_relation.ensures ∙ ap refused_by c.in_ok-check_relation.was) (sym c.bad_rules.ensures ∙ c.if-bad_rules.true)

pub returns-in_err-check_log : goal.returns-in_err-check_log
returns-in_err-check_log c =
    let a = c.args in
    let good = sym c.check_relation.ensures ∙ ap refused_by c.in_ok-check_relation.was in
    let right = sym c.bad_rules.ensures ∙ c.if-bad_rules.false in
    let e = err_from_is_err_and c.from_residual-in_err-check_log.result c.from_residual-in_err-check_log.ensures.1 in
    rw (e.1, e.2) (answer_log a.grammar.now.k a.grammar.now.masks.now a.grammar.now.names a.grammar.now.rules.now a.log.now a.order.now a.work.now a.sets.now good right _ (sym c.check_log.ensures ∙ ap refused_by c.in_err-check_log.was))

pub returns-then-order-log : goal.returns-then-order-log
returns-then-order-log c =
    let a = c.args in
    let good = sym c.check_relation.ensures ∙ ap refused_by c.in_ok-check_relation.was in
    let right = sym c.bad_rules.ensures ∙ c.if-bad_rules.false in
    let log = sym c.check_log.ensures ∙ ap refused_by c.in_ok-check_log.was in
    answer_short a.grammar.now.k a.grammar.now.masks.now a.grammar.now.names a.grammar.now.rules.now a.log.now a.order.now a.work.now a.sets.now good right log c.if-order-log.true

pub overflow_mul-prefixes : goal.overflow_mul-prefixes
overflow_mul-prefixes c =
    let a = c.args in
    let u = subst (BuiltIs a.grammar.now.k a.grammar.now.masks.now a.log.now a.work.now _) c.in_ok-prefixes.was c.build.ensures in
    let q = square_fits (length a.work.now) c.in_ok-prefixes.field-0.prefixes u.1 in fits_of (c.in_ok-prefixes.field-0.prefixes * c.in_ok-prefixes.field-0.prefixes) q

pub returns-then-sets-prefixes : goal.returns-then-sets-prefixes
returns-then-sets-prefixes c =
    let a = c.args in
    let good = sym c.check_relation.ensures ∙ ap refused_by c.in_ok-check_relation.was in
    let right = sym c.bad_rules.ensures ∙ c.if-bad_rules.false in
    let log = sym c.check_log.ensures ∙ ap refused_by c.in_ok-check_log.was in
    let long = c.if-order-log.false in
    let u = subst (BuiltIs a.grammar.now.k a.grammar.now.masks.now a.log.now a.work.now _) c.in_ok-prefixes.was c.build.ensures in
    let e₂ = u.0.prefixes in answer_sets a.grammar.now.k a.grammar.now.masks.now a.grammar.now.names a.grammar.now.rules.now a.log.now a.order.now a.work.now a.sets.now good right log long (subst (λ n. n ≤ capacity layout (length a.work.now)) e₂ u.1) _ u.0 (subst (λ n. length a.sets.now < n * n) e₂ c.if-sets-prefixes.true)

pub invariant_of-nested : goal.invariant_of-nested
invariant_of-nested c =
    let a = c.args in
    let good = sym c.check_relation.ensures ∙ ap refused_by c.in_ok-check_relation.was in
    let log = sym c.check_log.ensures ∙ ap refused_by c.in_ok-check_log.was in
    let u = subst (BuiltIs a.grammar.now.k a.grammar.now.masks.now a.log.now a.work.now _) c.in_ok-prefixes.was c.build.ensures in
    record { setting = setting_of a.grammar.now.k a.grammar.now.masks.now a.log.now a.work.now _ c.in_ok-prefixes.field-0.prefixes c.in_ok-prefixes.field-0.looks good log u.0 u.1 }

pub put_verdict-requires : goal.put_verdict-requires
put_verdict-requires c = (c.if-sets-prefixes.false, c.if-order-log.false)

pub returns-in_err-prefixes : goal.returns-in_err-prefixes
returns-in_err-prefixes c =
    let a = c.args in
    let good = sym c.check_relation.ensures ∙ ap refused_by c.in_ok-check_relation.was in
    let right = sym c.bad_rules.ensures ∙ c.if-bad_rules.false in
    let log = sym c.check_log.ensures ∙ ap refused_by c.in_ok-check_log.was in
    let long = c.if-order-log.false in
    let u = subst (BuiltIs a.grammar.now.k a.grammar.now.masks.now a.log.now a.work.now _) c.in_err-prefixes.was c.build.ensures in
    let e = err_from_is_err_and c.from_residual-in_err-prefixes.result c.from_residual-in_err-prefixes.ensures.1 in
    rw (e.1, e.2) (subst (λ r. Promise a.grammar.now.k a.grammar.now.masks.now a.grammar.now.names a.grammar.now.rules.now a.log.now a.order.now a.order.now a.work.now c.build.new.work a.sets.now a.sets.now (Err r)) (sym u.0) (answer_full a.grammar.now.k a.grammar.now.masks.now a.grammar.now.names a.grammar.now.rules.now a.log.now a.order.now a.work.now a.sets.now good right log long c.build.new.work u.2 u.1))

pub returns-then-put_verdict : goal.returns-then-put_verdict
returns-then-put_verdict c =
    let a = c.args in
    let good = sym c.check_relation.ensures ∙ ap refused_by c.in_ok-check_relation.was in
    let right = sym c.bad_rules.ensures ∙ c.if-bad_rules.false in
    let log = sym c.check_log.ensures ∙ ap refused_by c.in_ok-check_log.was in
    let long = c.if-order-log.false in
    let u = subst (BuiltIs a.grammar.now.k a.grammar.now.masks.now a.log.now a.work.now _) c.in_ok-prefixes.was c.build.ensures in
    let e₂ = u.0.prefixes in
    answer_order a.grammar.now.k a.grammar.now.masks.now a.grammar.now.names a.grammar.now.rules.now a.log.now a.order.now a.work.now a.sets.now good right log long (subst (λ n. n ≤ capacity layout (length a.work.now)) e₂ u.1) (subst (λ n. n * n ≤ length a.sets.now) e₂ c.if-sets-prefixes.false) _ _ _ c.in_ok-prefixes.field-0.prefixes c.in_ok-prefixes.field-0.looks u.0
    (subst (VerdictIs a.grammar.now.masks.now a.grammar.now.rules.now a.log.now a.order.now _) c.if-put_verdict.true c.put_verdict.ensures)

pub returns-else-put_verdict : goal.returns-else-put_verdict
returns-else-put_verdict c =
    let a = c.args in
    let good = sym c.check_relation.ensures ∙ ap refused_by c.in_ok-check_relation.was in
    let right = sym c.bad_rules.ensures ∙ c.if-bad_rules.false in
    let log = sym c.check_log.ensures ∙ ap refused_by c.in_ok-check_log.was in
    let long = c.if-order-log.false in
    let u = subst (BuiltIs a.grammar.now.k a.grammar.now.masks.now a.log.now a.work.now _) c.in_ok-prefixes.was c.build.ensures in
    let e₂ = u.0.prefixes in
    answer_none a.grammar.now.k a.grammar.now.masks.now a.grammar.now.names a.grammar.now.rules.now a.log.now a.order.now a.work.now a.sets.now good right log long (subst (λ n. n ≤ capacity layout (length a.work.now)) e₂ u.1) (subst (λ n. n * n ≤ length a.sets.now) e₂ c.if-sets-prefixes.false) _ _ _ c.in_ok-prefixes.field-0.prefixes c.in_ok-prefixes.field-0.looks u.0
    (subst (VerdictIs a.grammar.now.masks.now a.grammar.now.rules.now a.log.now a.order.now _) c.if-put_verdict.false c.put_verdict.ensures)

pub build-requires : goal.build-requires
build-requires c =
    (sym c.check_relation.ensures ∙ ap refused_by c.in_ok-check_relation.was, sym c.check_log.ensures ∙ ap refused_by c.in_ok-check_log.was)
