-- `products::product` meets its contract. The loop's invariant: the product so far times that of the groups to come is the whole, and it is within 32 bits.
use mathlib.Core.Path.{◌≡◌}
use Prim.Native.Nat.{◌*◌, ◌≤◌}
use lib.ListN.{drop}
use Rattle.products.specs.Products.{product_of}
use Rattle.products.proofs.product.Given as goal

abbrev pub invariant-loop-group : goal.invariant-loop-group
invariant-loop-group l = (l.n * product_of l.counts (drop l.group-index l.groups) ≡ product_of l.counts l.groups) × (l.n ≤ 4294967295)
