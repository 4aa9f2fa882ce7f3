-- `filling::put_pair` meets its contract.
use mathlib.Core.Path.{ap₂}
use lib.ListN.{set, length-set}
use native.Mathlib.Omega.{arith}
use Rattle.filling.proofs.put_pair.Goals as goal

pub bounds-sets-turned : goal.bounds-sets-turned
bounds-sets-turned c = simp length-set (omega (arith, c.place-turned.ensures.1))

pub returns : goal.returns
returns c = let a = c.args in ap₂ (λ m n. set (set a.sets.now m a.set) n a.set) c.place-at.ensures.0 c.place-turned.ensures.0
