-- Letter order by its test, and the same logs by the lists of their orders.
use mathlib.Core.Path.{subst}
use mathlib.Core.Bool.{Bool, ◌&&◌}
use mathlib.Core.Logic.{⊎_elim, ◌↔◌}
use mathlib.Core.List.{List, [], ◌∷◌}
use Prim.Native.Nat.{ℕ}
use lib.Dec.{T, eqb, eqb→eq, eqb_refl, ltb, ltb→lt, lt→ltb}
use Rattle.profile.specs.Lists.{Mem}
use Rattle.profile.specs.Orders.{NoLater, Same, agrees, ends, no_later?, smaller}
use Rattle.profile.specs.Traces.{orders}
use Rattle.profile.proofs.Lists.{both, either, fst_of, or_left, or_right, snd_of}
use Rattle.profile.proofs.Traces.{reach_orders}

pub no_later_of_test : (u v : List ℕ) → T (no_later? u v) → NoLater u v
no_later_of_test [] v t = ends
no_later_of_test (a ∷ u) (b ∷ v) t = ⊎_elim (λ h. smaller (ltb→lt a b h))
    (λ h. agrees (eqb→eq a b (fst_of (eqb a b) (no_later? u v) h)) (no_later_of_test u v (snd_of (eqb a b) (no_later? u v) h))) (either (ltb a b) (eqb a b && no_later? u v) t)
no_later_of_test (a ∷ u) [] t = elim t [ ]

-- no later, by its test
pub no_later_test : (u v : List ℕ) → T (no_later? u v) ↔ NoLater u v
no_later_test u v = (no_later_of_test u v, passes)
  where
    passes : {u v : List ℕ} → NoLater u v → T (no_later? u v)
    passes ends = tt
    passes (smaller {a = a} {b = b} {u = u} {v = v} h) = or_left (ltb a b) (eqb a b && no_later? u v) (lt→ltb a b h)
    passes (agrees {a = a} {b = b} {u = u} {v = v} e h) =
        or_right (ltb a b) (eqb a b && no_later? u v) (both (eqb a b) (no_later? u v) (subst (λ z. T (eqb a z)) e (eqb_refl a)) (passes h))

-- two logs are the same exactly when each is in the list of the other's orders
pub same_orders : (may : ℕ → ℕ → Bool) (v w : List ℕ) → Same may v w ↔ (Mem w (orders may v) × Mem v (orders may w))
same_orders may v w = (
  λ s. ((reach_orders may v w).0 s.0, (reach_orders may w v).0 s.1),
  λ m. ((reach_orders may v w).1 m.0, (reach_orders may w v).1 m.1),
)
