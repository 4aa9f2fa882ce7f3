-- `rulesets::lettered` meets its contract.
use mathlib.Core.Path.{◌≡◌, refl, subst}
use borrow.Author.Rules.{rules}
use Rattle.std.proofs.lemmas.Fn.{fold_over, slice_gives, fronts}
use Rattle.profile.specs.Automata.{union}
use Rattle.grammars.specs.Sets.{lettered_by}
use Rattle.rulesets.proofs.Loops.{union_more}
use Rattle.rulesets.proofs.lettered.Goals as goal

pub returns : goal.returns
returns c =
    subst (λ l. c.fold.result ≡ union (lettered_by c.args.a) l) c.iter.ensures.rest
    (fold_over fronts (λ y. y.now) _ (λ ys n. n ≡ union (lettered_by c.args.a) ys) _ (λ ys n x b f' j k. let more = union_more (lettered_by c.args.a) ys x.now n b j in search rules)
    _ _ _ _ (slice_gives c.iter.result) refl c.fold.ensures.ran)
