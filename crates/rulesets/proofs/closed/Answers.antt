-- `rulesets::closed` meets its contract.
use mathlib.Core.Path.{◌≡◌, refl, subst}
use borrow.Author.Rules.{rules}
use Rattle.std.proofs.lemmas.Fn.{fold_over, slice_gives, fronts}
use Rattle.profile.specs.Automata.{union}
use Rattle.rulesets.specs.Rulesets.{closed_by}
use Rattle.rulesets.proofs.Loops.{union_more}
use Rattle.rulesets.proofs.closed.Goals as goal

pub returns : goal.returns
returns c =
    subst (λ l. c.fold.result ≡ union (closed_by c.args.acc.now) l) c.iter.ensures.rest
    (fold_over fronts (λ y. y.now) _ (λ ys n. n ≡ union (closed_by c.args.acc.now) ys) _ (λ ys n x b f' j k. let more = union_more (closed_by c.args.acc.now) ys x.now n b j in search rules)
    _ _ _ _ (slice_gives c.iter.result) refl c.fold.ensures.ran)
