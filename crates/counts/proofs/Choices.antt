-- Eight numbers, one of them changed by tests of its place.
use Rattle.std.proofs.Common.{◌≡◌, ℕ, zero, suc, ◌<◌, false, cond, eqb, [], ◌∷◌, get_or, set, refl, ap, ap₂, arith, ne_eqb}

-- no place past the last is one of the eight
past : (i j : ℕ) → j < 8 → eqb (suc (suc (suc (suc (suc (suc (suc (suc i)))))))) j ≡ false
past i j h = ne_eqb (suc (suc (suc (suc (suc (suc (suc (suc i)))))))) j (λ e. omega arith)

-- lists of eight numbers, each known
pub eight : {n0 n1 n2 n3 n4 n5 n6 n7 m0 m1 m2 m3 m4 m5 m6 m7 : ℕ}
    → n0 ≡ m0 → n1 ≡ m1 → n2 ≡ m2 → n3 ≡ m3 → n4 ≡ m4 → n5 ≡ m5 → n6 ≡ m6 → n7 ≡ m7
    → n0 ∷ n1 ∷ n2 ∷ n3 ∷ n4 ∷ n5 ∷ n6 ∷ n7 ∷ [] ≡ m0 ∷ m1 ∷ m2 ∷ m3 ∷ m4 ∷ m5 ∷ m6 ∷ m7 ∷ []
eight e0 e1 e2 e3 e4 e5 e6 e7 = ap₂ ◌∷◌ e0 (ap₂ ◌∷◌ e1 (ap₂ ◌∷◌ e2 (ap₂ ◌∷◌ e3 (ap₂ ◌∷◌ e4 (ap₂ ◌∷◌ e5 (ap₂ ◌∷◌ e6 (ap (λ n. n ∷ []) e7)))))))

module _ (n0 n1 n2 n3 n4 n5 n6 n7 : ℕ) where
  -- number i changed, and none past the last
  pub changed : (f : ℕ → ℕ) (i : ℕ)
      → cond (eqb i 0) (f n0) n0 ∷ cond (eqb i 1) (f n1) n1 ∷ cond (eqb i 2) (f n2) n2 ∷ cond (eqb i 3) (f n3) n3
      ∷ cond (eqb i 4) (f n4) n4 ∷ cond (eqb i 5) (f n5) n5 ∷ cond (eqb i 6) (f n6) n6 ∷ cond (eqb i 7) (f n7) n7 ∷ []
      ≡ set (n0 ∷ n1 ∷ n2 ∷ n3 ∷ n4 ∷ n5 ∷ n6 ∷ n7 ∷ []) i (f (get_or (n0 ∷ n1 ∷ n2 ∷ n3 ∷ n4 ∷ n5 ∷ n6 ∷ n7 ∷ []) i 0))
  changed f zero = refl
  changed f (suc zero) = refl
  changed f (suc (suc zero)) = refl
  changed f (suc (suc (suc zero))) = refl
  changed f (suc (suc (suc (suc zero)))) = refl
  changed f (suc (suc (suc (suc (suc zero))))) = refl
  changed f (suc (suc (suc (suc (suc (suc zero)))))) = refl
  changed f (suc (suc (suc (suc (suc (suc (suc zero))))))) = refl
  changed f (suc (suc (suc (suc (suc (suc (suc (suc i)))))))) =
      rw (
        past i 0 (omega arith),
        past i 1 (omega arith),
        past i 2 (omega arith),
        past i 3 (omega arith),
        past i 4 (omega arith),
        past i 5 (omega arith),
        past i 6 (omega arith),
        past i 7 (omega arith),
      )
