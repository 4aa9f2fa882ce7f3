-- The longest log: 4,000 letters of one kind have 4,001 prefixes.
use mathlib.Core.Path.{◌≡◌, refl, ◌∙◌, ap}
use mathlib.Core.Bool.{Bool, true}
use mathlib.Core.List.{[], ◌∷◌, map}
use mathlib.Core.Option.{none, some}
use Prim.Native.Nat.{ℕ, zero, suc}
use native.Mathlib.Omega.{arith}
use lib.ListN.{length, replicate}
use Rattle.profile.specs.Lists.{filter, flat_map, range}
use Rattle.profile.specs.Prefixes.{at, closed?, count, less, marked, prefix_count, vectors}
use Rattle.profile.specs.Refusals.{admission_refusals, full_table, judge_refusal, lowest}
use Rattle.profile.specs.Traces.{independent}
use Rattle.profile.specs.declared.Refusal.TheVariants.{FullTable}
use Rattle.profile.proofs.Cases.{free}
use Rattle.profile.proofs.Edges.{longest_admitted}
use Rattle.theory.proofs.Refusals.{lowest_append}

-- a log of one letter
module _ (may : ℕ → ℕ → Bool) where
  marked_none : (n : ℕ) (c : ℕ → ℕ) → c 0 ≡ 0 → marked (λ a. a) (replicate n 0) c ≡ []
  marked_none zero c e = refl
  marked_none (suc n) c e = rw (e, marked) (marked_none n c e)

  -- all its counts are prefixes
  line_closed : (n : ℕ) (c : ℕ → ℕ) → closed? may (λ a. a) (replicate n 0) c ≡ true
  line_closed zero c = refl
  line_closed (suc n) c = go (c 0) refl (line_closed n c) (line_closed n (less c 0))
    where
      go : (m : ℕ) → c 0 ≡ m → closed? may (λ a. a) (replicate n 0) c ≡ true → closed? may (λ a. a) (replicate n 0) (less c 0) ≡ true
          → closed? may (λ a. a) (0 ∷ replicate n 0) c ≡ true
      go zero e h k = rw (e, closed?) (rw (marked_none n c e) h)
      go (suc m) e h k = rw (e, closed?) k

  count_line : (n : ℕ) → count (λ a. a) (replicate n 0) 0 ≡ n
  count_line zero = refl
  count_line (suc n) = omega (arith, count_line n)

  line_count : (n : ℕ) → prefix_count may (λ a. a) 1 (replicate n 0) ≡ suc n
  line_count n = ap (λ m. length (filter (λ c. closed? may (λ a. a) (replicate n 0) (at c)) (vectors (m ∷ [])))) (count_line n) ∙ every (suc n) 0
    where
      every : (m a : ℕ) → length (filter (λ c. closed? may (λ a. a) (replicate n 0) (at c)) (flat_map (λ i. map (◌∷◌ i) (vectors [])) (range a m))) ≡ m
      every zero a = refl
      every (suc m) a = rw (line_closed n (at (a ∷ [])), filter) (ap suc (every m (suc a)))

-- 40,010 numbers have place for them, 40,009 have not
pub longest_fits : (judge_refusal (free 1 (0 ∷ [])) (replicate 4000 0) 4000 40010 ≡ none) × (judge_refusal (free 1 (0 ∷ [])) (replicate 4000 0) 4000 40009 ≡ some FullTable)
longest_fits = (at_size 40010 ∙ refl, at_size 40009 ∙ refl)
  where
    at_size : (m : ℕ) → judge_refusal (free 1 (0 ∷ [])) (replicate 4000 0) 4000 m ≡ lowest ((full_table 4001 m, FullTable) ∷ [])
    at_size m = lowest_append (admission_refusals (free 1 (0 ∷ [])) (replicate 4000 0) 4000) ((full_table (prefix_count (independent (0 ∷ [])) (λ a. a) 1 (replicate 4000 0)) m, FullTable) ∷ []) longest_admitted
        ∙ ap (λ P. lowest ((full_table P m, FullTable) ∷ [])) (line_count (independent (0 ∷ [])) 4000)
