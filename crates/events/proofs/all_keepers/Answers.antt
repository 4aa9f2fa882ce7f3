use mathlib.Core.Path.{◌≡◌, ◌∙◌, ap, ap₂}
use mathlib.Core.List.{◌++◌, map, append-nil}
use native.Mathlib.Omega.{arith}
use lib.ListN.{drop, replicate, set}
use Rattle.profile.specs.Limits.{most_letters}
use Rattle.profile.specs.Lists.{below}
use Rattle.profile.specs.Traces.{independent}
use Rattle.theory.proofs.Fronts.{front_put}
use Rattle.events.specs.Events.{all_keepers, keepers}
use Rattle.events.proofs.all_keepers.Goals as goal

pub loop-x-preserved : goal.loop-x-preserved
loop-x-preserved c =
    let a = c.args in
    let l = c.loop-x in
    ap₂ (λ r n. set r l.x n) l.invariant c.keepers_of.ensures ∙ front_put (keepers (independent a.masks.now) a.k) (replicate most_letters 0) l.x (omega arith)

pub returns : goal.returns
unfolding all_keepers
returns c =
    let a = c.args in
    let f = keepers (independent a.masks.now) a.k in
    let e : c.loop-x.x ≡ most_letters = omega arith in
    c.loop-x.invariant ∙ ap (λ n. map f (below n) ++ drop n (replicate most_letters 0)) e ∙ append-nil (map f (below most_letters))
