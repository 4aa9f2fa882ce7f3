-- `records::counts_at` meets its contract.
use Prim.Native.Nat.{◌+◌, ◌*◌}
use mathlib.Core.Path.{sym, ap}
use mathlib.Core.List.{[], ◌∷◌}
use native.Mathlib.Nat.{add-zero}
use lib.ListN.{get_or}
use Rattle.records.proofs.counts_at.Goals as goal

pub returns : goal.returns
returns c =
    let a = c.args in
    let t = a.t.now in
    ap (λ n. get_or t n 0 ∷ get_or t (10 * a.j + 1) 0 ∷ get_or t (10 * a.j + 2) 0 ∷ get_or t (10 * a.j + 3) 0 ∷ get_or t (10 * a.j + 4) 0 ∷ get_or t (10 * a.j + 5) 0 ∷ get_or t (10 * a.j + 6) 0 ∷ get_or t (10 * a.j + 7) 0 ∷ []) (sym (add-zero (10 * a.j)))
