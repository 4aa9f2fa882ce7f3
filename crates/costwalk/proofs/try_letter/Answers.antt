-- `costwalk::try_letter` meets its contract.
use mathlib.Core.Path.{sym, ◌∙◌, ap, subst}
use Prim.Native.Nat.{◌*◌}
use Rattle.profile.specs.Automata.{automaton, profile_of}
use Rattle.search.specs.Search.{found_in}
use Rattle.costwalk.specs.Walk.{Tested}
use Rattle.costwalk.proofs.Rows.{some_record}
use Rattle.costwalk.proofs.Trying.{absent_ends, ends_not, ends_of, own_cost, row_fits, step_inside, within}
use Rattle.costwalk.proofs.try_letter.Goals as goal

pub last_counts-whole-requires : goal.last_counts-whole-requires
last_counts-whole-requires c = some_record c.requires.stands.standing.lent

pub step_cost-more-requires : goal.step_cost-more-requires
step_cost-more-requires c =
    let z = c.requires.stands.standing in
    let f = ap (found_in c.args.t.now) (sym c.one_more.ensures) ∙ sym (c.find-found.ensures z.lent.records.ordered) ∙ c.in-Ok.is in
    record {
      placed = z.lent.placed;
      within = within z c.args.x c.requires.x_lt_k c.in-Ok.r f c.numbers-n.result c.last_counts-whole.result c.numbers-n.ensures c.last_counts-whole.ensures;
    }

pub fits-requires : goal.fits-requires
fits-requires c =
    let z = c.requires.stands.standing in
    let f = ap (found_in c.args.t.now) (sym c.one_more.ensures) ∙ sym (c.find-found.ensures z.lent.records.ordered) ∙ c.in-Ok.is in
    record {
      k_le_most_letters = (z.lent.profile.relation.most, z.lent.profile.states.1, row_fits z c.args.x c.requires.x_lt_k c.in-Ok.r f);
      x_bound = step_inside (profile_of c.args.profile.now.shape c.requires.stands.masks c.args.profile.now.moves.now) z.lent.profile c.args.taken.states c.args.x;
    }

pub returns-then-fits : goal.returns-then-fits
returns-then-fits c = λ masks may letter w z.
    let a = c.args in
    let f = ap (found_in a.t.now) (sym c.one_more.ensures) ∙ sym (c.find-found.ensures z.lent.records.ordered) ∙ c.in-Ok.is in
    let e = c.step_cost-more.ensures ∙ own_cost z a.x c.requires.x_lt_k c.in-Ok.r f c.numbers-n.result c.numbers-n.ensures in
    (ends_of z a.x c.requires.x_lt_k c.in-Ok.r f a.taken.states e (subst (λ b. Tested a.costs.now (c.in-Ok.r * a.profile.now.shape.s) ((automaton (profile_of a.profile.now.shape masks a.profile.now.moves.now)).step a.taken.states a.x) c.step_cost-more.result a.taken.left b) c.if-fits.true c.fits.ensures), e)

pub returns-else-fits : goal.returns-else-fits
returns-else-fits c = λ masks may letter w z.
    let a = c.args in
    let f = ap (found_in a.t.now) (sym c.one_more.ensures) ∙ sym (c.find-found.ensures z.lent.records.ordered) ∙ c.in-Ok.is in
    let e = c.step_cost-more.ensures ∙ own_cost z a.x c.requires.x_lt_k c.in-Ok.r f c.numbers-n.result c.numbers-n.ensures in
    ends_not z a.x c.requires.x_lt_k c.in-Ok.r f a.taken.states e (subst (λ b. Tested a.costs.now (c.in-Ok.r * a.profile.now.shape.s) ((automaton (profile_of a.profile.now.shape masks a.profile.now.moves.now)).step a.taken.states a.x) c.step_cost-more.result a.taken.left b) c.if-fits.false c.fits.ensures)

pub returns-in_default : goal.returns-in_default
returns-in_default c = λ masks may letter w z.
    let a = c.args in
    let f = ap (found_in a.t.now) (sym c.one_more.ensures) ∙ sym (c.find-found.ensures z.lent.records.ordered) ∙ c.in_default.is in
    absent_ends z a.x c.requires.x_lt_k _ a.taken.states f
