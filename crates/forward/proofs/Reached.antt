-- A log of n events has a prefix of each total from 0 to n.
use mathlib.Core.Path.{◌≡◌, refl, sym, subst}
use mathlib.Core.Bool.{Bool}
use mathlib.Core.Logic.{◌≢◌}
use mathlib.Core.List.Memᴰ
use mathlib.Core.List.{List, [], ◌∷◌, map}
use Prim.Native.Nat.{ℕ, zero, suc, ◌≤◌}
use native.Mathlib.Omega.{arith}
use lib.Dec.{T, ltb, ltb→lt}
use lib.ListN.{length}
use Rattle.profile.specs.Lists.{Mem, below}
use Rattle.profile.specs.Traces.{letters_below}
use Rattle.profile.specs.Prefixes.{at, level, unmarked}
use Rattle.profile.proofs.Traces.{Pick, first}
use Rattle.theory.proofs.Prefixes.{addable_of, all_of_pick, more_of_pick}
use Rattle.theory.proofs.Levels.{bump, level_next}
use Rattle.theory.proofs.Merge.{level_at, level_first, level_unmarked}

module _ (may : ℕ → ℕ → Bool) (letter : ℕ → ℕ) (distinct : (a b : ℕ) → T (may a b) → letter a ≢ letter b) (k : ℕ) (w : List ℕ)
    (letters : T (letters_below letter k w)) where
  -- no total up to the log's length is without prefixes
  pub level_some : (n : ℕ) → n ≤ length w → (c : List ℕ) × Mem c (level may letter k w n)
  level_some zero l = (map (λ x. 0) (below k), subst (Mem (map (λ x. 0) (below k))) (sym (level_first may letter distinct k w letters)) (Memᴰ.head refl))
  level_some (suc n) l = let m = level_some n (omega arith) in go m.0 m.1 (unmarked letter w (at m.0)) refl
    where
      go : (c : List ℕ) → Mem c (level may letter k w n) → (r : List ℕ) → unmarked letter w (at c) ≡ r → (c : List ℕ) × Mem c (level may letter k w (suc n))
      go c m [] e = absurd (level_unmarked may letter k w n c letters m (omega arith) e)
      go c m (a ∷ r) e =
          let p = (level_at may letter k w n c letters m).1 in
          let i : Pick may (unmarked letter w (at c)) a r = rw e first in
          let lt = ltb→lt (letter a) k (all_of_pick may letter distinct (λ a. ltb (letter a) k) p i letters) in
          let t = addable_of may letter distinct (at c) (letter a) (more_of_pick may letter distinct p i).0 in
          (bump c (letter a), level_next may letter distinct k w letters n (letter a) c m lt t)
