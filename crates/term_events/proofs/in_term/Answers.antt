use mathlib.Core.Path.{◌≡◌, sym, ◌∙◌, ap, subst}
use mathlib.Core.Bool.{not}
use native.Mathlib.Omega.{arith}
use lib.Dec.{T}
use Rattle.profile.specs.Lists.{all, below}
use Rattle.profile.specs.Prefixes.{at}
use Rattle.profile.proofs.Lists.{is_true}
use Rattle.term_events.specs.InTerms.{lets_in?}
use Rattle.term_events.proofs.InTerms.{all_more, all_stopped}
use Rattle.term_events.proofs.in_term.Goals as goal

pub returns : goal.returns
returns c =
    let a = c.args in
    let l = c.loop-y in
    let p = lets_in? (at a.next.now) (at a.turns.now) a.x in
    let e : l.y ≡ a.k = omega arith in
    sym (is_true (all p (below a.k)) (subst (λ m. T (all p (below m))) e l.invariant))

pub returns-then-not-lets_in : goal.returns-then-not-lets_in
returns-then-not-lets_in c =
    let a = c.args in
    let l = c.loop-y in
    let p = lets_in? (at a.next.now) (at a.turns.now) a.x in
    all_stopped p a.k l.y (omega arith) (subst T (ap not c.lets_in.ensures) (subst T (sym (ap not c.if-not-lets_in.true)) tt))

pub loop-y-preserved : goal.loop-y-preserved
loop-y-preserved c =
    let a = c.args in
    let l = c.loop-y in
    let p = lets_in? (at a.next.now) (at a.turns.now) a.x in
    all_more p l.y l.invariant (subst T (sym c.if-not-lets_in.false ∙ c.lets_in.ensures) tt)
