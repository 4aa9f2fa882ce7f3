-- One pair after the other is known.
use mathlib.Core.Path.{◌≡◌, sym, subst}
use mathlib.Core.Logic.{◌⊎◌, inl, inr, ⊎_elim}
use mathlib.Core.List.{List}
use Prim.Native.Nat.{ℕ, ◌+◌, ◌*◌, ◌≤◌, ◌<◌}
use native.Mathlib.Omega.{arith}
use lib.ListN.{length, set}
use Rattle.profile.proofs.Lists.{lt_or_le}
use Rattle.pairs.specs.Settings.{Both, Known, Right}
use Rattle.filling.proofs.Twice.{twice_first, twice_other, twice_turned}

module _ (k : ℕ) (masks rules w : List ℕ) (records : ℕ) where
  -- nothing is, at the start
  pub known_start : (sets : List ℕ) → Known k masks rules w records sets 1 1
  known_start sets a b h c = ⊎_elim (λ l. absurd (omega arith)) (λ e. absurd (omega (arith, e.0, e.1))) c

  -- a whole column is
  pub known_column : (sets : List ℕ) (j : ℕ) → Known k masks rules w records sets j 0 → Known k masks rules w records sets (j + 1) (j + 1)
  known_column sets j known a b h c = ⊎_elim
      (λ l. ⊎_elim (λ lt. known a b h (inl lt)) (λ le. known a b h (inr (omega arith, omega arith))) (lt_or_le b j))
      (λ e. absurd (omega (arith, e.0, e.1))) c

  pub known_more : (sets : List ℕ) (i j S : ℕ) → i < j → j < records → records * records ≤ length sets → Right k masks rules w i j S
      → Known k masks rules w records sets j (i + 1) → Known k masks rules w records (set (set sets (i * records + j) S) (j * records + i) S) j i
  known_more sets i j S h hj room right known a b lt c = ⊎_elim
      (λ l. old (inl l) (omega arith) (λ e. omega (arith, e.1)))
      (λ e. ⊎_elim
      (λ more. old (inr (e.0, omega arith)) (omega (arith, e.0)) (λ q. omega (arith, q.0)))
      (λ le. new (omega (arith, e.1)) e.0) (lt_or_le i a)) c
    where
      hi : i < records
      hi = omega arith

      old : (b < j) ⊎ ((b ≡ j) × (i + 1 ≤ a)) → b < records → ((a ≡ i) × (b ≡ j) → ⊥) → Both k masks rules w records (set (set sets (i * records + j) S) (j * records + i) S) a b
      old c hb ne =
          let r = known a b lt c in (
            subst (Right k masks rules w a b) (sym (twice_other sets records i j S hi hj room a b hb ne (λ q. omega (arith, q.0, q.1)))) r.0,
            subst (Right k masks rules w a b) (sym (twice_other sets records i j S hi hj room b a (omega arith) (λ q. omega (arith, q.0, q.1)) (λ q. ne (q.1, q.0)))) r.1,
          )

      new : a ≡ i → b ≡ j → Both k masks rules w records (set (set sets (i * records + j) S) (j * records + i) S) a b
      new ea eb = subst (λ x. Both k masks rules w records (set (set sets (i * records + j) S) (j * records + i) S) x b) (sym ea)
          (subst (λ y. Both k masks rules w records (set (set sets (i * records + j) S) (j * records + i) S) i y) (sym eb) (
            subst (Right k masks rules w i j) (sym (twice_first sets records i j S hi hj room)) right,
            subst (Right k masks rules w i j) (sym (twice_turned sets records i j S hi hj room)) right,
          ))
