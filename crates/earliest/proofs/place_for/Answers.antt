-- `earliest::place_for` meets its contract.
use mathlib.Core.Path.{sym, subst}
use native.Mathlib.Numerals.{add-one}
use native.Mathlib.Omega.{arith}
use Rattle.counts.specs.Counts.{words}
use Rattle.search.proofs.Halves.{Between}
use Rattle.earliest.proofs.Choices.{only_between, only_place}
use Rattle.earliest.proofs.place_for.Goals as goal

pub overflow_add-first : goal.overflow_add-first
overflow_add-first c = let q = c.requires in omega (arith, q.behind, q.inside)

pub overflow_add-second : goal.overflow_add-second
overflow_add-second c = let q = c.requires in omega (arith, q.behind, q.inside)

pub returns-then-end-second : goal.returns-then-end-second
returns-then-end-second c =
    let a = c.args in
    let q = c.requires in
    record {
      at_lt_place = (omega arith, omega (arith, q.behind), omega arith);
      between = (λ o. q.between);
      i_value = λ o. only_between a.t.now (words a.c) o a.at a.end q c.if-end-second.true;
    }

pub place_between-place-requires : goal.place_between-place-requires
place_between-place-requires c =
    let a = c.args in
    let q = c.requires in
    record {
      from_le_end = (omega (arith, q.behind), q.inside);
      between = subst (λ n. Between a.t.now (words a.c) n a.end) (sym (add-one a.at)) q.between;
    }

pub returns : goal.returns
returns c =
    let a = c.args in
    let q = c.requires in
    let r = c.place_between-place.ensures in
    record {
      at_lt_place = (omega (arith, r.lower_bound.0), omega (arith, r.lower_bound.0), r.lower_bound.1);
      between = (λ o. (q.between.0, (r.between_2 o).1));
      i_value = λ o. only_place a.t.now (words a.c) o c.place_between-place.result (omega (arith, r.lower_bound.1, q.inside)) (r.between_2 o);
    }
