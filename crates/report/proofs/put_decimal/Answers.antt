-- `report::put_decimal` meets its contract.
use mathlib.Core.Path.{◌≡◌, ap}
use Prim.Native.Nat.{◌-◌}
use native.Mathlib.Omega.{arith}
use lib.ListN.{length, take, drop}
use Rattle.report.specs.Report.{decimal}
use Rattle.report.proofs.Decimal.{first_digits}
use Rattle.putting.proofs.Texts.{put_as}
use Rattle.report.proofs.put_decimal.Goals as goal
use Rattle.report.proofs.put_decimal.Goals.{After-decimal-k}

-- the digits are those of n
digits-put : (c : After-decimal-k) → take (c.decimal-k.result - 0) (drop 0 c.decimal-k.new.out) ≡ decimal c.args.n
digits-put c = first_digits c.decimal-k.new.out c.decimal-k.ensures.len c.decimal-k.ensures.digits

pub put_bytes-requires : goal.put_bytes-requires
put_bytes-requires c = let b = c in omega (arith, ap length (digits-put (goal.at.put_bytes-requires c).After-decimal-k), b.requires)

pub returns : goal.returns
returns c = put_as (digits-put (goal.at.returns c).After-decimal-k) c.put_bytes.ensures
