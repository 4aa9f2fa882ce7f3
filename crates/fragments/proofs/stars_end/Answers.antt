use Prim.Native.Nat.{◌≤◌, ◌<◌}
use native.Mathlib.Omega.{arith}
use lib.ListN.{length}
use Rattle.fragments.proofs.Stars.{stars_end, stars_more, stars_stop}
use Rattle.fragments.proofs.stars_end.Goals as goal

pub returns-then-text-at-ne42 : goal.returns-then-text-at-ne42
returns-then-text-at-ne42 c = let t = c.args.text.now in let l = c.loop-at in
    let h : l.at < length t = omega arith in omega (arith, stars_stop t l.at h c.if-text-at-ne42.true)

pub loop-at-preserved : goal.loop-at-preserved
loop-at-preserved c = let t = c.args.text.now in let l = c.loop-at in
    let h : l.at < length t = omega arith in omega (arith, stars_more t l.at h c.if-text-at-ne42.false)

pub returns : goal.returns
returns c =
    let t = c.args.text.now in
    let l = c.loop-at in
    let h : length t ≤ l.at = omega arith in
    omega (arith, stars_end t l.at h)
