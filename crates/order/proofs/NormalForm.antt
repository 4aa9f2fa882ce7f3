-- Sameness and first orders, over what `same` and `first_order` return, for logs that are not refused: same logs have equal first orders, and "equal first
-- orders need prove sameness only where the masks are symmetric".
use mathlib.Core.Path.{◌≡◌, refl, sym, ◌∙◌, ap}
use mathlib.Core.Bool.{Bool, true, false}
use mathlib.Core.Logic.{◌↔◌}
use mathlib.Core.List.{List, [], ◌∷◌}
use mathlib.Core.Option.{none, some}
use Rattle.std.specs.Prelude.{Ok}
use Prim.Native.Nat.{ℕ, ◌≤◌}
use native.Mathlib.Omega.{arith}
use lib.Dec.{T}
use lib.ListN.{length, drop, take}
use lib.Seq.{take_at}
use Rattle.profile.specs.Orders.{Same, first_order, same?}
use Rattle.profile.specs.Refusals.{log_refusals, lowest, relation_refusals}
use Rattle.profile.specs.Traces.{Symmetric, independent, orders}
use Rattle.theory.proofs.Earliest.{earliest_at, first_of, first_same, same_first}
use Rattle.profile.proofs.Lists.{is_true}
use Rattle.theory.proofs.Refusals.{log_at, relation_at}
use Rattle.theory.proofs.Sameness.{same_test}
use Rattle.profile.proofs.Traces.{order_of_mem, takes_length}
use Rattle.comparison.specs.Comparison.{comparison}
use Rattle.comparison.proofs.Answers.{compared_same}
use Rattle.order.specs.Order.{first_letters, letters_or_none, ordered_buffer}
use Rattle.order.proofs.Answers.{answers, ordered_none}

-- the first order is that of its letters, as many as the log has
first_letters_of : (masks w : List ℕ) → first_order (independent masks) w ≡ some (first_letters masks w)
first_letters_of masks w = let n = first_of (independent masks) w in n.1 ∙ ap some (sym (ap letters_or_none n.1))

first_letters_length : (masks w : List ℕ) → length (first_letters masks w) ≡ length w
first_letters_length masks w =
    let m = (earliest_at (orders (independent masks) w) (first_letters_of masks w)).0 in
    omega (arith, takes_length (independent masks) (order_of_mem (independent masks) w m))

module _ (k : ℕ) (masks : List ℕ) (e₀ : lowest (relation_refusals k masks) ≡ none) where
  -- what a first order writes, in a buffer that is long enough
  pub written : (w before : List ℕ) → lowest (log_refusals k w) ≡ none → length w ≤ length before → take (length w) (ordered_buffer k masks w before) ≡ first_letters masks w
  written w before e h =
      ap (take (length w)) (sym (answers k masks w before (ordered_none k masks w (length before) e₀ e h)).1)
      ∙ take_at (first_letters masks w) (drop (length w) before) (length w) (first_letters_length masks w)

  module _ (v w : List ℕ) (e₁ : lowest (log_refusals k v) ≡ none) (e₂ : lowest (log_refusals k w) ≡ none) where
    equal_test : (comparison k masks v w ≡ Ok true) ↔ T (same? (independent masks) k v w)
    equal_test = (go (same? (independent masks) k v w) refl, λ t. compared_same k masks v w e₀ e₁ e₂ (is_true (same? (independent masks) k v w) t))
      where
        go : (b : Bool) → same? (independent masks) k v w ≡ b → comparison k masks v w ≡ Ok true → T b
        go true q e = tt
        go false q e = let d = compared_same k masks v w e₀ e₁ e₂ q in let z : ◌≡◌ {A = ℕ} 0 1 = cc in absurd (omega arith)

    -- "Same still means reachable each way"
    pub equal_same : (comparison k masks v w ≡ Ok true) ↔ Same (independent masks) v w
    equal_same =
        let s = same_test (independent masks) (relation_at k masks e₀).own k v w (log_at k v e₁).letters (log_at k w e₂).letters in
        (λ e. s.0 (equal_test.0 e), λ h. equal_test.1 (s.1 h))

    -- so their first orders are equal
    pub equal_first : comparison k masks v w ≡ Ok true → first_order (independent masks) v ≡ first_order (independent masks) w
    equal_first e = let s = equal_same.0 e in same_first (independent masks) s.0 s.1

    -- so are the bytes written to two buffers
    pub equal_written : (before after : List ℕ) → length v ≤ length before → length w ≤ length after → comparison k masks v w ≡ Ok true
        → take (length v) (ordered_buffer k masks v before) ≡ take (length w) (ordered_buffer k masks w after)
    equal_written before after h j e = written v before e₁ h ∙ ap letters_or_none (equal_first e) ∙ sym (written w after e₂ j)

    -- and the other way round, where the masks are symmetric
    module _ (symmetric : Symmetric (independent masks)) where
      pub first_equal : first_order (independent masks) v ≡ first_order (independent masks) w → comparison k masks v w ≡ Ok true
      first_equal h = equal_same.1 (first_same (independent masks) symmetric h)

      pub written_equal : (before after : List ℕ) → length v ≤ length before → length w ≤ length after
          → take (length v) (ordered_buffer k masks v before) ≡ take (length w) (ordered_buffer k masks w after) → comparison k masks v w ≡ Ok true
      written_equal before after h j q = first_equal (first_letters_of masks v ∙ ap some (sym (written v before e₁ h) ∙ q ∙ written w after e₂ j) ∙ sym (first_letters_of masks w))

-- They do not prove it for one-way masks: with only bit a of mask b, ba and ab have the first order ab, and are not the same.
pub one_way_first : (first_letters (0 ∷ 1 ∷ []) (1 ∷ 0 ∷ []) ≡ 0 ∷ 1 ∷ []) × (first_letters (0 ∷ 1 ∷ []) (0 ∷ 1 ∷ []) ≡ 0 ∷ 1 ∷ [])
    × (comparison 2 (0 ∷ 1 ∷ []) (1 ∷ 0 ∷ []) (0 ∷ 1 ∷ []) ≡ Ok false)
one_way_first = (refl, refl, refl)
