-- `newcomers::forward_from` meets its contract.
use mathlib.Core.Path.{◌∙◌, ap}
use lib.Bits.{bit_or}
use lib.ListN.{get_or}
use Rattle.newcomers.specs.Newcomers.{led_at}
use Rattle.newcomers.proofs.Loops.{union_more}
use Rattle.newcomers.proofs.forward_from.Goals as goal

pub loop-b-preserved : goal.loop-b-preserved
loop-b-preserved c =
    let a = c.args in
    let l = c.loop-b in
    ap (λ x. bit_or x c.led-out.result) l.invariant ∙ union_more (λ x. led_at a.profile.now.shape.k a.profile.now.shape.s a.profile.now.moves.now a.t.now (get_or a.places.now x 0) x) l.b c.led-out.ensures
