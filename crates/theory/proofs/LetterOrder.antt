-- Letter order: what it compares, and that it is a total order with a test.
use mathlib.Core.Path.{◌≡◌, refl, sym, ap, ap₂, subst, subst₂}
use mathlib.Core.Bool.{not}
use mathlib.Core.Logic.{◌⊎◌, inl, inr, ⊎_elim, ◌↔◌, ◌≢◌}
use mathlib.Core.List.{List, [], ◌∷◌, ◌++◌, append_cancel_left, head-eq_of_cons-eq}
use Prim.Native.Nat.{ℕ, ◌<◌}
use native.Mathlib.Omega.{arith}
use lib.Dec.{T, T_not, not_T}
use lib.ListN.{length}
use Rattle.profile.specs.Orders.{Earlier, NoLater, agrees, ends, no_later?, smaller}
use Rattle.theory.proofs.Earliest.{ge_of_test, no_later_antisym, no_later_of_test, no_later_refl, no_later_trans}
use Rattle.profile.proofs.Lists.{test}
pub use Rattle.profile.proofs.Orders.{no_later_test}

-- ---- the first place where two orders differ

first_difference : {u v : List ℕ} → NoLater u v → length u ≡ length v → u ≢ v
    → (x u' v' : List ℕ) × (a b : ℕ) × (u ≡ x ++ (a ∷ u')) × (v ≡ x ++ (b ∷ v')) × (a < b)
first_difference (ends {v = []}) e d = absurd (d refl)
first_difference (ends {v = b ∷ v}) e d = absurd (omega arith)
first_difference (smaller {a = a} {b = b} {u = u} {v = v} h) e d = ([], u, v, a, b, refl, refl, h)
first_difference (agrees {a = a} q h) e d =
    let n = first_difference h (omega arith) (λ r. d (ap₂ ◌∷◌ q r)) in
    (a ∷ n.0, n.1, n.2, n.3, n.4, ap (◌∷◌ a) n.5, ap₂ ◌∷◌ (sym q) n.6, n.7)

-- "Letter order compares at the first place where two orders differ; the smaller letter is earlier"
pub earlier_first_difference : (u v : List ℕ) → length u ≡ length v
    → Earlier u v ↔ ((x u' v' : List ℕ) × (a b : ℕ) × (u ≡ x ++ (a ∷ u')) × (v ≡ x ++ (b ∷ v')) × (a < b))
earlier_first_difference u v e = (
  λ h. first_difference h.0 e h.1,
  λ n. subst₂ Earlier (sym n.5) (sym n.6) (
    no-later n.0 n.1 n.2 n.7,
    λ q.
        let z : n.3 ≡ n.4 = head-eq_of_cons-eq (append_cancel_left n.0 (n.3 ∷ n.1) (n.4 ∷ n.2) q) in
        omega (arith, n.7),
  ),
)
  where
    no-later : (x u v : List ℕ) {a b : ℕ} → a < b → NoLater (x ++ (a ∷ u)) (x ++ (b ∷ v))
    no-later [] u v h = smaller h
    no-later (c ∷ x) u v h = agrees refl (no-later x u v h)

-- ---- a total order

pub no_later_total : (u v : List ℕ) → NoLater u v ⊎ NoLater v u
no_later_total u v = ⊎_elim (λ t. inl (no_later_of_test u v t)) (λ t. inr (ge_of_test u v t)) (test (no_later? u v))

-- earlier, by its test
pub earlier_test : (u v : List ℕ) → T (not (no_later? v u)) ↔ Earlier u v
earlier_test u v = (
  λ t. (ge_of_test v u t, λ e. T_not (no_later? v u) t ((no_later_test v u).1 (subst (NoLater v) (sym e) (no_later_refl v)))),
  λ h. not_T (no_later? v u) (λ t. h.1 (no_later_antisym h.0 (no_later_of_test v u t))),
)

-- what is no later is the same or earlier
pub no_later_cases : {u v : List ℕ} → NoLater u v → (u ≡ v) ⊎ Earlier u v
no_later_cases {u} {v} h = ⊎_elim (λ t. inl (no_later_antisym h (no_later_of_test v u t)))
    (λ t. inr ((earlier_test u v).0 t)) (test (no_later? v u))

pub earlier_irrefl : (u : List ℕ) → Earlier u u → ⊥
earlier_irrefl u h = h.1 refl

pub earlier_trans : {u v x : List ℕ} → Earlier u v → Earlier v x → Earlier u x
earlier_trans {v = v} h k = (no_later_trans h.0 k.0, λ e. h.1 (no_later_antisym h.0 (subst (NoLater v) (sym e) k.0)))
