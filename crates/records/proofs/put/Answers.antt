-- `records::put` meets its contract: ten stores in a row.
use mathlib.Core.Path.{◌≡◌, ◌∙◌}
use mathlib.Core.List.{[], ◌∷◌, ◌++◌, append_assoc}
use Prim.Native.Nat.{suc, ◌+◌, ◌*◌}
use native.Mathlib.Omega.{arith}
use lib.ListN.{drop, length-set, take}
use lib.Seq.{sets-eq}
use Rattle.counts.specs.Counts.{words}
use Rattle.records.proofs.put.Goals as goal

pub bounds-part-at-2 : goal.bounds-part-at-2
bounds-part-at-2 c = simp length-set (omega arith)

pub bounds-part-at-3 : goal.bounds-part-at-3
bounds-part-at-3 c = simp length-set (omega arith)

pub bounds-part-at-4 : goal.bounds-part-at-4
bounds-part-at-4 c = simp length-set (omega arith)

pub bounds-part-at-5 : goal.bounds-part-at-5
bounds-part-at-5 c = simp length-set (omega arith)

pub bounds-part-at-6 : goal.bounds-part-at-6
bounds-part-at-6 c = simp length-set (omega arith)

pub bounds-part-at-7 : goal.bounds-part-at-7
bounds-part-at-7 c = simp length-set (omega arith)

pub bounds-part-at-8 : goal.bounds-part-at-8
bounds-part-at-8 c = simp length-set (omega arith)

pub bounds-part-at-9 : goal.bounds-part-at-9
bounds-part-at-9 c = simp length-set (omega arith)

pub bounds-part-at-10 : goal.bounds-part-at-10
bounds-part-at-10 c = simp length-set (omega arith)

pub shape_of-part : goal.shape_of-part
shape_of-part c = simp length-set

pub returns : goal.returns
returns c =
    let at = 10 * c.args.j in
    let e1 : at + 1 ≡ suc at = omega arith in
    let e2 : at + 2 ≡ suc (suc at) = omega arith in
    let e3 : at + 3 ≡ suc (suc (suc at)) = omega arith in
    let e4 : at + 4 ≡ suc (suc (suc (suc at))) = omega arith in
    let e5 : at + 5 ≡ suc (suc (suc (suc (suc at)))) = omega arith in
    let e6 : at + 6 ≡ suc (suc (suc (suc (suc (suc at))))) = omega arith in
    let e7 : at + 7 ≡ suc (suc (suc (suc (suc (suc (suc at)))))) = omega arith in
    let e8 : at + 8 ≡ suc (suc (suc (suc (suc (suc (suc (suc at))))))) = omega arith in
    let e9 : at + 9 ≡ suc (suc (suc (suc (suc (suc (suc (suc (suc at)))))))) = omega arith in
    let l = c.args.part.now in
    let v = words c.args.c ++ (c.args.forward ∷ c.args.last ∷ []) in
    rw (e1, e2, e3, e4, e5, e6, e7, e8, e9) (sets-eq v l at (omega arith) ∙ append_assoc (take at l) v (drop (at + 10) l))
