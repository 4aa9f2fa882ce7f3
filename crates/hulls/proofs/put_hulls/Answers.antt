use mathlib.Core.Path.{◌≡◌, sym, ◌∙◌, ap, ap₂}
use Prim.Native.Nat.{◌+◌, ◌*◌}
use native.Mathlib.Numerals.{add-one}
use native.Mathlib.Omega.{arith}
use lib.ListN.{get_or, set}
use Rattle.profile.specs.Automata.{forward_step}
use Rattle.profile.specs.Tables.{layout, record_length}
use Rattle.hulls.specs.Hulls.{hulled}
use Rattle.hulls.proofs.put_hulls.Goals as goal

pub loop-j-preserved : goal.loop-j-preserved
loop-j-preserved c =
    let a = c.args in
    let l = c.loop-j in
    let at = record_length layout * l.j + layout.numbers in
    ap₂ (λ r x. set r at x) l.invariant (c.step_forward-to.ensures ∙ ap (λ t. forward_step 1 a.s a.reach.now (get_or t at 0) 0) l.invariant)
    ∙ ap (λ n. hulled a.s a.reach.now n a.table.now) (sym (add-one l.j))

pub returns : goal.returns
returns c =
    let a = c.args in
    let l = c.loop-j in
    let e : l.j ≡ a.records = omega arith in
    l.invariant ∙ ap (λ n. hulled a.s a.reach.now n a.table.now) e
