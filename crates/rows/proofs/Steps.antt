-- The moves by letter: what a row holds, and that a step by the rows is the step of the moves.
use mathlib.Core.Path.{◌≡◌, sym, ◌∙◌, ap, ap₂, subst}
use mathlib.Core.Bool.{cond}
use mathlib.Core.List.{List}
use Prim.Native.Nat.{ℕ, ◌+◌, ◌*◌, ◌/◌, ◌%◌, ◌^◌, ◌≤◌, ◌<◌}
use native.Mathlib.Omega.{arith}
use borrow.Author.Tests.{lt-ltb}
use lib.Dec.{T, ltb}
use lib.ListN.{replicate}
use Rattle.profile.specs.Limits.{most_letters, most_moves, most_states}
use Rattle.profile.specs.Automata.{backward_step, forward_step, meets, row, union}
use Rattle.profile.specs.Lists.{below, filter}
use Rattle.profile.specs.Traces.{bit}
use Rattle.profile.proofs.Lists.{below_at, filter_agree, filter_at}
use Rattle.profile.proofs.Sets.{t_eq, bit_self, bit_single, meets_at, meets_of, union_agree}
use Rattle.rows.specs.Rows.{backward_by, by_letter, forward_by, led, led_by}
use Rattle.theory.proofs.Fronts.{front_at}

-- a state is in a set where the set of this state meets it
pub meets_one : (S q : ℕ) → meets S (2 ^ q) ≡ bit S q
meets_one S q = t_eq (meets S (2 ^ q)) (bit S q)
    (λ t. let m = meets_at S (2 ^ q) t in subst (λ z. T (bit S z)) (sym (bit_single q m.0 m.2)) m.1)
    (λ t. meets_of S (2 ^ q) q t (bit_self q))

module _ (k s : ℕ) (moves rows : List ℕ) (e : rows ≡ by_letter k s moves) (letters : k ≤ most_letters) (states : s ≤ most_states) (a : ℕ) (h : a < k) where
  led_same : (q : ℕ) → q < s → led_by rows a q ≡ row k moves q a
  unfolding by_letter
  led_same q l =
      let m : (most_states * a + q) % most_states ≡ q = omega arith in
      let d : (most_states * a + q) / most_states ≡ a = omega arith in
      ap (λ r. led_by r a q) e ∙ front_at (led k s moves) (replicate most_moves 0) (most_states * k) (omega arith) (most_states * a + q) (omega arith)
      ∙ ap₂ (λ x y. cond (ltb x s) (row k moves x y) 0) m d ∙ ap (λ b. cond b (row k moves q a) 0) (lt-ltb q s l)

  pub forward_same : (S : ℕ) → forward_by s rows S a ≡ forward_step k s moves S a
  forward_same S = union_agree (led_by rows a) (λ q. row k moves q a) (filter (bit S) (below s))
      (λ q m. led_same q (below_at s q (filter_at (bit S) (below s) m).0))

  pub backward_same : (R : ℕ) → backward_by s rows R a ≡ backward_step k s moves R a
  backward_same R = ap (union (λ q. 2 ^ q)) (filter_agree (λ q. meets (led_by rows a q) R) (λ q. meets (row k moves q a) R) (below s)
      (λ q m. ap (λ x. meets x R) (led_same q (below_at s q m))))
