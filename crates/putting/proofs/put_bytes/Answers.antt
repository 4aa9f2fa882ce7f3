-- `putting::put_bytes` meets its contract.
use mathlib.Core.Path.{refl, ◌∙◌, ap}
use Prim.Native.Nat.{◌+◌}
use native.Mathlib.Omega.{arith}
use lib.ListN.{get_or, set}
use lib.Seq.{sets, take_all}
use Rattle.putting.proofs.Texts.{sets_more}
use Rattle.putting.proofs.put_bytes.Goals as goal

pub loop-i-preserved : goal.loop-i-preserved
loop-i-preserved c =
    let a = c.args in
    let i = c.loop-i.i in
    ap (λ t. set t (a.at + i) (get_or a.bytes.now i 0)) c.loop-i.invariant ∙ sets_more a.out.now a.bytes.now a.at i (omega arith)

pub returns : goal.returns
returns c = let a = c.args in record {
  put = c.loop-i.invariant ∙ ap (sets a.out.now a.at) (take_all c.loop-i.i a.bytes.now c.loop-i-test.false);
  behind = refl;
  room = omega arith;
}
