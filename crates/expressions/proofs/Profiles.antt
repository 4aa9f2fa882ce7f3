-- A profile made is in range: refusals 2 and 6 do not apply to it, where the masks are as many as the letters.
use mathlib.Core.Path.{◌≡◌, refl, sym, ◌∙◌, ap, ap₂, subst}
use mathlib.Core.Bool.{Bool, true, false, not, ◌&&◌, ◌||◌}
use mathlib.Core.Logic.{⊎_elim}
use mathlib.Core.List.Memᴰ
use mathlib.Core.List.{List, map}
use Prim.Native.Nat.{ℕ, suc, ◌*◌, ◌≤◌}
use native.Mathlib.Omega.{arith}
use lib.Bits.{bit_and}
use lib.Dec.{T}
use lib.ListN.{length, length-map}
use borrow.Author.Tests.{eq-eqb, le-ltb, lt-leb}
use Rattle.profile.specs.Limits.{most_letters, most_states, most_typed}
use Rattle.profile.specs.Lists.{Mem, any, below}
use Rattle.profile.specs.Refusals.{bit_from, profile_out_of_range, state_bit}
use Rattle.profile.specs.Traces.{bit}
use Rattle.profile.proofs.Lists.{any_at, either, flat_map_at, flat_map_length, snd_of}
use Rattle.profile.proofs.Sets.{bit_of_and, bit_single}
use Rattle.theory.proofs.Refusals.{bit_from_at}
use Rattle.expressions.specs.Expressions.{Expr, leaves, numbered, size}
use Rattle.expressions.specs.Positions.{empty?, finals_of, lasts, made, moves_of, successors, typed_as, when}
use Rattle.expressions.proofs.Language.{ends_in}
use Rattle.expressions.proofs.Made.{range_length, typed_at}
use Rattle.expressions.proofs.Numbers.{length_leaves, numbers_at}
use Rattle.expressions.proofs.Sets.{lasts_at, or_at, when_at}

refuted : (b : Bool) → (T b → ⊥) → b ≡ false
refuted true f = absurd (f tt)
refuted false f = refl

pub moves_length : (k : ℕ) (e : Expr) → length (moves_of k e) ≡ suc (size e) * k
moves_length k e =
    let f : ℕ → ℕ → ℕ = λ q a. bit_and (successors (numbered 1 e) q) (typed_as a 1 (leaves e)) in
    flat_map_length (λ q. map (f q) (below k)) k (λ q. length-map (below k) (f q) ∙ range_length k 0) (below (suc (size e)))
    ∙ (ap (λ m. k * m) (range_length (suc (size e)) 0) ∙ omega arith)

module _ (k : ℕ) (masks : List ℕ) (e : Expr) where
  final_below : (j : ℕ) → T (bit (finals_of e) j) → j ≤ size e
  final_below j h = ⊎_elim
      (λ t. let n = numbers_at 1 e j (ends_in (numbered 1 e) j (lasts_at (numbered 1 e) j t)) in omega arith)
      (λ t. let z = bit_single 0 j (when_at (empty? (numbered 1 e)) 1 j t).1 in omega arith)
      (or_at (lasts (numbered 1 e)) (when (empty? (numbered 1 e)) 1) j h)

  move_below : (m j : ℕ) → Mem m (moves_of k e) → T (bit m j) → j ≤ size e
  move_below m j h t =
      let p = numbered 1 e in
      let f : ℕ → ℕ → ℕ = λ q a. bit_and (successors p q) (typed_as a 1 (leaves e)) in
      let n = flat_map_at (λ q. map (f q) (below k)) (below (suc (size e))) h in
      let i = Memᴰ.of_map (f n.0) (below k) n.2 in
      let S = successors p n.0 in
      let R = typed_as i.0 1 (leaves e) in
      let b : T (bit S j && bit R j) = subst T (bit_of_and S R j) (subst (λ x. T (bit x j)) (sym i.2) t) in
      let a = typed_at i.0 1 (leaves e) j (snd_of (bit S j) (bit R j) b) in
      omega (arith, a.1, a.2, length_leaves e)

  -- "A move or the final set with a bit from s on": none
  pub no_state_bit : state_bit (made k masks e) ≡ false
  no_state_bit = refuted (state_bit (made k masks e)) (λ t. ⊎_elim
      (λ h. let n = (bit_from_at (suc (size e)) (finals_of e)).0 h in let m = final_below n.0 n.2 in omega (arith, n.1))
      (λ h.
      let n = any_at (bit_from (suc (size e))) (moves_of k e) h in
      let b = (bit_from_at (suc (size e)) n.0).0 n.2 in
      let m = move_below n.0 b.0 n.1 b.2 in omega (arith, b.1))
      (either (bit_from (suc (size e)) (finals_of e)) (any (bit_from (suc (size e))) (moves_of k e)) t))

  -- "k, s or start out of range; … slices … not exactly k and s × k long": none
  pub in_range : 1 ≤ k → k ≤ most_letters → length masks ≡ k → size e ≤ most_typed → profile_out_of_range (made k masks e) ≡ false
  in_range a b m h =
      ap₂ (λ x y. x || y)
      (ap₂ (λ x y. x || y) (le-ltb k 1 a) (ap₂ (λ x y. x || not y) (le-ltb most_letters k b) (eq-eqb (length masks) k m)))
      (ap₂ (λ x y. x || y) (le-ltb (suc (size e)) 1 (omega arith))
      (ap₂ (λ x y. x || y) (le-ltb most_states (suc (size e)) (omega arith)) (ap₂ (λ x y. x || not y) (lt-leb (suc (size e)) 0 (omega arith)) (eq-eqb (length (moves_of k e)) (suc (size e) * k) (moves_length k e)))))
