-- The set of a pair, put at both of its places.
use mathlib.Core.Path.{◌≡◌, ◌∙◌, ap, subst}
use mathlib.Core.Logic.{⊎_elim}
use mathlib.Core.List.{List}
use Prim.Native.Nat.{ℕ, ◌+◌, ◌*◌, ◌≤◌, ◌<◌}
use native.Mathlib.Omega.{arith}
use lib.Dec.{T, T_not, eqb, eqb→eq, eqb_refl}
use lib.ListN.{get_or, length, set, length-set}
use lib.Seq.{get_or-set_same, get_or-set_other}
use Rattle.profile.proofs.Lists.{test}
use Rattle.pairs.proofs.Squares.{place_inj, place_lt}

module _ (l : List ℕ) (n i j S : ℕ) (hi : i < n) (hj : j < n) (room : n * n ≤ length l) where
  abbrev pub twice : List ℕ
  twice = set (set l (i * n + j) S) (j * n + i) S

  -- elsewhere the table stays
  pub twice_other : (a b : ℕ) → b < n → ((a ≡ i) × (b ≡ j) → ⊥) → ((a ≡ j) × (b ≡ i) → ⊥) → get_or twice (a * n + b) 0 ≡ get_or l (a * n + b) 0
  twice_other a b hb x y =
      get_or-set_other (set l (i * n + j) S) (j * n + i) (a * n + b) S 0 (λ e. y (place_inj n a b j i hb hi e))
      ∙ get_or-set_other l (i * n + j) (a * n + b) S 0 (λ e. x (place_inj n a b i j hb hj e))

  pub twice_turned : get_or twice (j * n + i) 0 ≡ S
  twice_turned = get_or-set_same (set l (i * n + j) S) (j * n + i) S 0 (omega (arith, length-set l (i * n + j) S, place_lt n j i hj hi))

  pub twice_first : get_or twice (i * n + j) 0 ≡ S
  twice_first = ⊎_elim
      (λ t. ap (λ p. get_or twice p 0) (eqb→eq (i * n + j) (j * n + i) t) ∙ twice_turned)
      (λ t. get_or-set_other (set l (i * n + j) S) (j * n + i) (i * n + j) S 0 (λ e. T_not (eqb (i * n + j) (j * n + i)) t (subst (λ p. T (eqb (i * n + j) p)) e (eqb_refl (i * n + j))))
      ∙ get_or-set_same l (i * n + j) S 0 (omega (arith, place_lt n i j hi hj))) (test (eqb (i * n + j) (j * n + i)))
