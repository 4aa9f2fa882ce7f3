-- A table of costs is right when each of its numbers is the cost of some order, the start costs nothing, and no pair costs more than one with one letter less, and that
-- letter; and likewise for the costs of what is left. So each pass has only to show these three.
use mathlib.Core.Path.{◌≡◌, refl, sym, ◌∙◌, ap}
use mathlib.Core.Bool.{Bool}
use mathlib.Core.Logic.{◌⊎◌, ⊎_elim, ◌≢◌}
use mathlib.Core.List.{List, []}
use mathlib.Core.Option.{Option, none, some, some-injective, none-ne-some}
use Prim.Native.Nat.{ℕ, zero, suc, ◌+◌, ◌≤◌, ◌<◌}
use native.Mathlib.Omega.{arith}
use lib.Dec.{T}
use lib.ListN.{length}
use Rattle.profile.specs.Automata.{Automaton}
use Rattle.profile.specs.Prefixes.{IsPrefix, more, unmarked}
use Rattle.profile.specs.Traces.{bit}
use Rattle.profile.proofs.Traces.{Pick, pick_length}
use Rattle.theory.proofs.Automata.{Lawful}
use Rattle.theory.proofs.Prefixes.{front_length, front_of_prefix}
use Rattle.swaps.specs.Swaps.{step_cost}
use Rattle.swaps.specs.Closest.{pair_swaps, rest_swaps}
use Rattle.swaps.proofs.Pairs.{pair_last}
use Rattle.swaps.proofs.Rests.{rest_first}
use Rattle.costcells.specs.Cells.{cell, none_cost}
use Rattle.costrows.specs.Rows.{with_step}

module _ (may : ℕ → ℕ → Bool) (letter : ℕ → ℕ) (M : Automaton) (L : Lawful M) (w : List ℕ) (distinct : (a b : ℕ) → T (may a b) → letter a ≢ letter b) where
  unmarked_le : {c : ℕ → ℕ} → IsPrefix may letter w c → length (unmarked letter w c) ≤ length w
  unmarked_le p = omega (arith, front_length may (front_of_prefix may letter p))

  -- ---- the costs to each pair; `there c q` is what the table has for the prefix c and the state q

  module _ (there : (ℕ → ℕ) → ℕ → ℕ)
      (start : (q : ℕ) → T (bit M.start q) → there (λ x. 0) q ≡ 0)
      (led : (d : ℕ → ℕ) (a p q : ℕ) (r : List ℕ) → IsPrefix may letter w d → Pick may (unmarked letter w d) a r → T (M.move p (letter a) q)
      → there (more d (letter a)) q ≤ with_step (there d p) (step_cost letter w d (letter a))) where
    no_larger : (n : ℕ) {c : ℕ → ℕ} {m : ℕ} (q : ℕ) → IsPrefix may letter w c → length w ≤ n + length (unmarked letter w c) → pair_swaps may letter M w c q ≡ some m → there c q ≤ m
    no_larger zero {c} {m} q p h e = ⊎_elim
        (λ z. omega (arith, ap (λ f. there f q) z.0, start q z.2))
        (λ z. absurd (omega (arith, h, pick_length may z.6, unmarked_le z.4))) (pair_last may letter M L w distinct q p e)
    no_larger (suc n) {c} {m} q p h e = ⊎_elim
        (λ z. omega (arith, ap (λ f. there f q) z.0, start q z.2))
        (λ z.
        let d = z.0 in
        let ih = no_larger n z.2 z.4 (omega (arith, h, pick_length may z.6)) z.7 in
        omega (arith, ap (λ f. there f q) z.5, led d z.1 z.2 q (unmarked letter w c) z.4 z.6 z.8, ih, z.9)) (pair_last may letter M L w distinct q p e)

    -- each number is the cost of some order
    module _ (by : (c : ℕ → ℕ) (q : ℕ) → IsPrefix may letter w c → (there c q ≡ none_cost) ⊎ ((n : ℕ) × (pair_swaps may letter M w c q ≡ some n) × (n ≤ there c q)))
        (small : (c : ℕ → ℕ) (q n : ℕ) → IsPrefix may letter w c → pair_swaps may letter M w c q ≡ some n → n < none_cost) where
      pub settled_there : (c : ℕ → ℕ) (q : ℕ) → IsPrefix may letter w c → there c q ≡ cell (pair_swaps may letter M w c q)
      settled_there c q p = go (pair_swaps may letter M w c q) refl
        where
          go : (o : Option ℕ) → pair_swaps may letter M w c q ≡ o → there c q ≡ cell (pair_swaps may letter M w c q)
          go none e = ⊎_elim (λ z. z ∙ sym (ap cell e)) (λ z. absurd (none-ne-some z.0 (sym e ∙ z.1))) (by c q p)
          go (some m) e =
              let le = no_larger (length w) q p (omega arith) e in
              ⊎_elim (λ z. absurd (omega (arith, le, z, small c q m p e)))
              (λ z. let s = some-injective _ _ (sym z.1 ∙ e) in omega (arith, le, z.2, s, ap cell e)) (by c q p)

  -- ---- the costs of what is left

  module _ (rest : (ℕ → ℕ) → ℕ → ℕ)
      (ends : (c : ℕ → ℕ) (q : ℕ) → IsPrefix may letter w c → unmarked letter w c ≡ [] → T (bit M.final q) → rest c q ≡ 0)
      (led : (c : ℕ → ℕ) (a p q : ℕ) → IsPrefix may letter w c → Pick may (unmarked letter w c) a (unmarked letter w (more c (letter a))) → T (M.move q (letter a) p)
      → rest c q ≤ with_step (rest (more c (letter a)) p) (step_cost letter w c (letter a))) where
    rest_no_larger : (n : ℕ) (c : ℕ → ℕ) (m q : ℕ) → IsPrefix may letter w c → length (unmarked letter w c) ≤ n → rest_swaps may letter M w c q ≡ some m → rest c q ≤ m
    rest_no_larger zero c m q p h e = ⊎_elim
        (λ z. omega (arith, ends c q p z.0 z.2))
        (λ z. absurd (omega (arith, h, pick_length may z.4))) (rest_first may letter M L w distinct q p e)
    rest_no_larger (suc n) c m q p h e = ⊎_elim
        (λ z. omega (arith, ends c q p z.0 z.2))
        (λ z.
        let ih = rest_no_larger n (more c (letter z.0)) z.2 z.1 z.3 (omega (arith, h, pick_length may z.4)) z.5 in
        omega (arith, led c z.0 z.1 q p z.4 z.6, ih, z.7)) (rest_first may letter M L w distinct q p e)

    module _ (by : (c : ℕ → ℕ) (q : ℕ) → IsPrefix may letter w c → (rest c q ≡ none_cost) ⊎ ((n : ℕ) × (rest_swaps may letter M w c q ≡ some n) × (n ≤ rest c q)))
        (small : (c : ℕ → ℕ) (q n : ℕ) → IsPrefix may letter w c → rest_swaps may letter M w c q ≡ some n → n < none_cost) where
      pub settled_rest : (c : ℕ → ℕ) (q : ℕ) → IsPrefix may letter w c → rest c q ≡ cell (rest_swaps may letter M w c q)
      settled_rest c q p = go (rest_swaps may letter M w c q) refl
        where
          go : (o : Option ℕ) → rest_swaps may letter M w c q ≡ o → rest c q ≡ cell (rest_swaps may letter M w c q)
          go none e = ⊎_elim (λ z. z ∙ sym (ap cell e)) (λ z. absurd (none-ne-some z.0 (sym e ∙ z.1))) (by c q p)
          go (some m) e =
              let le = rest_no_larger (length (unmarked letter w c)) c m q p (omega arith) e in
              ⊎_elim (λ z. absurd (omega (arith, le, z, small c q m p e)))
              (λ z. let s = some-injective _ _ (sym z.1 ∙ e) in omega (arith, le, z.2, s, ap cell e)) (by c q p)
