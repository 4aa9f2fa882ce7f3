-- What is read from a right cost table: the fewest swaps of any accepted order, and whether a letter fits the walk.
use mathlib.Core.Path.{◌≡◌, refl, sym, ◌∙◌, ap}
use mathlib.Core.Bool.{Bool}
use mathlib.Core.Logic.{⊎_elim, ◌≢◌}
use mathlib.Core.List.{List}
use mathlib.Core.Option.{Option, none, some, some-injective}
use Prim.Native.Nat.{ℕ, ◌+◌, ◌≤◌, ◌<◌}
use native.Mathlib.Omega.{arith}
use lib.Dec.{T}
use lib.ListN.{length}
use Rattle.profile.specs.Automata.{Automaton}
use Rattle.profile.specs.Prefixes.{count, more}
use Rattle.profile.specs.Traces.{bit}
use Rattle.theory.proofs.Automata.{Lawful}
use Rattle.swaps.specs.Swaps.{step_cost}
use Rattle.swaps.specs.Closest.{fewest_swaps, pair_swaps, rest_swaps}
use Rattle.swaps.proofs.Bounds.{fewest_small}
use Rattle.swaps.proofs.Rests.{whole_at, whole_of}
use Rattle.costcells.specs.Cells.{Least, cell, cost_in, none_cost}
use Rattle.costrows.specs.Rows.{with_step}

module _ (may : ℕ → ℕ → Bool) (letter : ℕ → ℕ) (M : Automaton) (L : Lawful M) (w : List ℕ) (distinct : (a b : ℕ) → T (may a b) → letter a ≢ letter b) (few : length w ≤ 4000) (n : ℕ)
    (is-fewest : fewest_swaps may letter M w ≡ some n) where
  -- the least cell of the final states in the row of the whole log
  pub fewest_found : (t : List ℕ) (row r : ℕ) → Least t row M.final r
      → ((q : ℕ) → T (bit M.final q) → cost_in t (row + q) ≡ cell (pair_swaps may letter M w (count letter w) q)) → r ≡ n
  fewest_found t row r least cells =
      let z = whole_at may letter M L w distinct is-fewest in
      let up : r ≤ n = omega (arith, least.no_less z.0 z.1, cells z.0 z.1, ap cell z.2) in
      let small = fewest_small may letter M L w distinct few is-fewest in
      ⊎_elim (λ e. absurd (omega (arith, up, small, e))) (λ y. go y.0 y.1 y.2 up small (pair_swaps may letter M w (count letter w) y.0) refl) least.is_one
    where
      go : (q : ℕ) → T (bit M.final q) → r ≡ cost_in t (row + q) → r ≤ n → n ≤ 16000000 → (o : Option ℕ) → pair_swaps may letter M w (count letter w) q ≡ o → r ≡ n
      go q b e up small none p = absurd (omega (arith, up, small, e, cells q b, ap cell p))
      go q b e up small (some m) p =
          let y = whole_of may letter M L w distinct q b p in
          let s : y.0 ≡ n = some-injective _ _ (sym y.1 ∙ is-fewest) in
          omega (arith, up, e, cells q b, ap cell p, s, y.2)

-- the counts c and the states S of what is taken, `left` swaps that are left, the row of the prefix with one x more, and its least cell among the states then reached
module _ (may : ℕ → ℕ → Bool) (letter : ℕ → ℕ) (M : Automaton) (w : List ℕ) (c : ℕ → ℕ) (S left x : ℕ) (small : left < none_cost) (t : List ℕ) (row r : ℕ)
    (least : Least t row (M.step S x) r)
    (cells : (q : ℕ) → T (bit (M.step S x) q) → cost_in t (row + q) ≡ cell (rest_swaps may letter M w (more c x) q)) where
  -- some state reached is at a cost that fits
  abbrev pub Fit : Type 0
  Fit = (q m : ℕ) × T (bit (M.step S x) q) × (rest_swaps may letter M w (more c x) q ≡ some m) × (step_cost letter w c x + m ≤ left)

  pub fits_of : with_step r (step_cost letter w c x) ≤ left → Fit
  fits_of le =
      let sum : r + step_cost letter w c x ≤ left = omega (arith, le, small) in
      ⊎_elim (λ e. absurd (omega (arith, sum, small, e))) (λ y. go y.0 y.1 y.2 sum (rest_swaps may letter M w (more c x) y.0) refl) least.is_one
    where
      go : (q : ℕ) → T (bit (M.step S x) q) → r ≡ cost_in t (row + q) → r + step_cost letter w c x ≤ left
          → (o : Option ℕ) → rest_swaps may letter M w (more c x) q ≡ o → Fit
      go q b e sum none p = absurd (omega (arith, sum, small, e, cells q b, ap cell p))
      go q b e sum (some m) p = (q, m, b, p, omega (arith, sum, e, cells q b, ap cell p))

  pub fits_at : Fit → with_step r (step_cost letter w c x) ≤ left
  fits_at (q, m, b, p, le) = omega (arith, least.no_less q b, cells q b, ap cell p, le)
