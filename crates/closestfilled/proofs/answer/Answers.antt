-- `closestfilled::answer` meets its contract.
use mathlib.Core.Bool.{not}
use borrow.Author.Rules.{rules}
use borrow.Author.Tests.{not-false, not-true}
use mathlib.Core.Path.{◌≡◌, refl, sym, ◌∙◌, ap, subst}
use Prim.Native.Nat.{◌*◌, ◌-◌, ◌≤◌}
use native.Mathlib.Omega.{arith}
use lib.ListN.{length, take}
use Rattle.profile.specs.Automata.{lent}
use Rattle.profile.specs.Tables.{layout, record_length}
use Rattle.profile.specs.Rules.{order_by}
use Rattle.terms.specs.Coded.{rules_of}
use Rattle.earliest.specs.Earliest.{record_count}
use Rattle.closestorder.proofs.Closing.{count_records}
use Rattle.closestfilled.proofs.Answering.{enough, held, none_found, too_few}
use Rattle.closestfilled.proofs.answer.Goals as goal

pub returns-then-costs-s : goal.returns-then-costs-s
returns-then-costs-s g c =
    let a = c.args in
    (too_few (length a.costs.now) a.profile.now.shape.s a.filled.prefixes c.requires.0.profile.states.0 c.if-costs-s.true, refl, refl, refl)

pub returns-then-not-has_order : goal.returns-then-not-has_order
returns-then-not-has_order g c =
    let a = c.args in
    let none-there = sym c.has_order.ensures ∙ not-true c.has_order.result (ap not c.if-not-has_order.true) in
    (enough (length a.costs.now) a.profile.now.shape.s a.filled.prefixes c.requires.0.profile.states.0 c.if-costs-s.false, refl, refl, none_found (order_by (rules_of (lent a.profile.now) g.termed) a.codes.now) none-there, refl)

pub put_order-found-requires : goal.put_order-found-requires
put_order-found-requires g c =
    let a = c.args in
    let tab = c.requires.0 in
    let end : record_length layout * a.filled.prefixes - 0 ≡ record_length layout * record_count (rules_of (lent a.profile.now) g.termed) a.codes.now = omega (arith, c.requires.1.0) in
    let h = held tab c.requires.1.1.0 (ap (λ n. take n a.work.now) end) in
    let found = sym c.has_order.ensures ∙ not-false c.has_order.result (ap not c.if-not-has_order.false) in
    let room = enough (length a.costs.now) a.profile.now.shape.s a.filled.prefixes tab.profile.states.0 c.if-costs-s.false in
    (h, (found, (c.requires.1.1.1, subst (λ n. n * a.profile.now.shape.s ≤ length a.costs.now) (c.requires.1.0 ∙ sym (count_records h)) room)))

pub returns : goal.returns
returns g c =
    let a = c.args in
    (enough (length a.costs.now) a.profile.now.shape.s a.filled.prefixes c.requires.0.profile.states.0 c.if-costs-s.false, refl, refl, c.put_order-found.ensures)
