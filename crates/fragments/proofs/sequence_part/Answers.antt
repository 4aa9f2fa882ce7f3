-- `fragments::sequence_part` meets its contract.
use mathlib.Core.Bool.{◌&&◌}
use mathlib.Core.Path.{◌≡◌, ◌∙◌, ap, ap₂}
use lib.Bits.{bit_or}
use Rattle.std.proofs.Common.{arith}
use Rattle.fragments.proofs.Rows.{part}
use Rattle.fragments.proofs.sequence_part.Goals as goal

pub returns : goal.returns
returns c = let a = c.args in
    let both : c.if-x.result ≡ (a.x.empty && a.y.empty) = grind arith in
    ap (λ b. part a.y.at a.y.next b (bit_or a.x.first c.when.result) (bit_or c.when-2.result a.y.last)) both
    ∙ ap₂ (λ f l. part a.y.at a.y.next (a.x.empty && a.y.empty) (bit_or a.x.first f) (bit_or l a.y.last)) c.when.ensures c.when-2.ensures
