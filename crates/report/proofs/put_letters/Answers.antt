use mathlib.Core.Path.{refl, ◌∙◌, ap}
use Prim.Native.Nat.{ℕ, ◌≤◌, ◌<◌}
use native.Mathlib.Omega.{arith}
use lib.ListN.{length, get_or}
use lib.Seq.{take_all}
use Rattle.profile.specs.Lists.{flat_map}
use Rattle.report.specs.Report.{spaced}
use Rattle.report.proofs.Decimal.{decimal_short}
use Rattle.putting.proofs.Texts.{put_as, put_kept, put_none, put_then, flat_map_more}
use Rattle.report.proofs.put_letters.Goals as goal

-- a letter takes at most four bytes
short : (n : ℕ) → n < 256 → length (spaced n) ≤ 4
short n h = omega (arith, decimal_short 2 n (omega arith))

pub loop-letter-init : goal.loop-letter-init
loop-letter-init c = let a = c.args in record { long = refl; put = put_none a.out.now a.at (omega (arith, c.requires)); short = omega arith }

pub put_spaced-to-requires : goal.put_spaced-to-requires
put_spaced-to-requires c =
    let l = c.loop-letter in
    let a = c.args in
    omega (arith, short (get_or a.letters.now l.letter-index 0) (omega (arith, c.type_inv.letters l.letter-index)), l.invariant, c.requires)

pub loop-letter-preserved : goal.loop-letter-preserved
loop-letter-preserved c =
    let a = c.args in
    let l = c.loop-letter in
    let i = l.letter-index in
    let h : i < length a.letters.now = omega arith in
    let s = c.put_spaced-to.ensures in record {
      long = put_kept s ∙ l.invariant.long;
      put = put_as (flat_map_more spaced a.letters.now i 0 h) (put_then l.invariant.put s);
      short = omega (arith, short (get_or a.letters.now i 0) (omega (arith, c.type_inv.letters i)), l.invariant.short, s.behind);
    }

pub returns-clause-put : goal.returns-clause-put
returns-clause-put c =
    let l = c.loop-letter in
    put_as (ap (flat_map spaced) (take_all l.letter-index c.args.letters.now (omega arith))) l.invariant.put

pub returns-clause-upper_bound : goal.returns-clause-upper_bound
returns-clause-upper_bound c = omega (arith, c.loop-letter.invariant)
