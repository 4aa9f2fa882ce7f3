use mathlib.Core.Path.{◌≡◌, ◌∙◌, ap, ap₂}
use mathlib.Core.List.{◌++◌, map}
use Prim.Native.Nat.{◌*◌}
use native.Mathlib.Omega.{arith}
use lib.ListN.{drop, replicate, set}
use Rattle.profile.specs.Limits.{most_moves, most_states}
use Rattle.profile.specs.Lists.{below}
use Rattle.rows.specs.Rows.{by_letter, led}
use Rattle.theory.proofs.Fronts.{front_put}
use Rattle.rows.proofs.by_letter.Goals as goal

pub loop-i-preserved : goal.loop-i-preserved
loop-i-preserved c =
    let a = c.args in
    let l = c.loop-i in
    ap₂ (λ r n. set r l.i n) l.invariant c.led-to.ensures ∙ front_put (led a.k a.s a.moves.now) (replicate most_moves 0) l.i (omega arith)

pub returns : goal.returns
unfolding by_letter
returns c =
    let a = c.args in
    let e : c.loop-i.i ≡ most_states * a.k = omega arith in
    c.loop-i.invariant ∙ ap (λ n. map (led a.k a.s a.moves.now) (below n) ++ drop n (replicate most_moves 0)) e
