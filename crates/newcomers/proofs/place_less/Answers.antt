-- `newcomers::place_less` meets its contract.
use mathlib.Core.Path.{◌∙◌, ap}
use Rattle.newcomers.specs.Newcomers.{count_in}
use Rattle.newcomers.proofs.Loops.{told_ends, told_falls, told_goes, told_rises}
use Rattle.newcomers.proofs.place_less.Goals as goal

pub returns-then-last-own : goal.returns-then-last-own
returns-then-last-own c =
    let a = c.args in
    let own = c.count-own.ensures in
    let last = c.count-last.ensures ∙ ap (λ v. count_in v a.b) c.counts_at.ensures in
    told_rises own last c.if-last-own.true c.search_back.ensures

pub returns-then-own-last : goal.returns-then-own-last
returns-then-own-last c =
    let a = c.args in
    let own = c.count-own.ensures in
    let last = c.count-last.ensures ∙ ap (λ v. count_in v a.b) c.counts_at.ensures in
    told_falls own last c.if-own-last.true

pub returns-then-before-eq0 : goal.returns-then-before-eq0
returns-then-before-eq0 c =
    let a = c.args in
    let own = c.count-own.ensures in
    let last = c.count-last.ensures ∙ ap (λ v. count_in v a.b) c.counts_at.ensures in
    told_ends own last c.if-last-own.false c.if-own-last.false c.if-before-eq0.true

pub returns : goal.returns
returns c =
    let a = c.args in
    let own = c.count-own.ensures in
    let last = c.count-last.ensures ∙ ap (λ v. count_in v a.b) c.counts_at.ensures in
    told_goes own last c.if-last-own.false c.if-own-last.false c.if-before-eq0.false c.search_on.ensures
