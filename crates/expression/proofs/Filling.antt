-- The moves, number by number.
use mathlib.Core.Path.{◌≡◌, sym, ◌∙◌, ap, ap₂, subst}
use mathlib.Core.List.{List, [], ◌++◌, append-nil, map}
use Prim.Native.Nat.{ℕ, zero, suc, ◌+◌, ◌*◌, ◌/◌, ◌%◌, ◌≤◌, ◌<◌}
use native.Mathlib.Nat.{div-add-mod', div-lt_iff_lt-mul, mod-lt}
use native.Mathlib.Omega.{arith}
use lib.Bits.{bit_and, bit_or}
use lib.ListN.{drop, get_or, get_or-replicate, length, length-set, replicate, set}
use lib.Seq.{ext_get_or, get_or-set_other, get_or-set_same}
use Rattle.profile.specs.Limits.{most_letters, most_states, most_typed}
use Rattle.profile.specs.Lists.{below}
use Rattle.theory.proofs.Counting.{at_map, length_range}
use Rattle.expressions.specs.Expressions.{Expr, leaves, numbered, size}
use Rattle.expressions.specs.Positions.{firsts, follows, moves_of, successors, typed_as}
use Rattle.expressions.specs.Texts.{expression}
use Rattle.expressions.specs.Passes.{letters_of}
use Rattle.expressions.proofs.Letters.{letters_typed}
use Rattle.expressions.proofs.Made.{row_is}
use Rattle.expressions.proofs.Numbers.{length_leaves}
use Rattle.expressions.proofs.Profiles.{moves_length}
use Rattle.fragments.specs.Parts.{add_rows}
use Rattle.fragments.proofs.Rows.{rows_at, rows_length}
use Rattle.scanner.specs.Scan.{sets_of}
use Rattle.walk.specs.Walk.{Comes}
use Rattle.expression.specs.Making.{RightText, filled, move_from, moves_put}

pub row_below : (k s j : ℕ) → 1 ≤ k → j < s * k → j / k < s
row_below k s j h lt = (div-lt_iff_lt-mul {k = k} {x = j} {y = s} h).1 lt

pub column_below : (k j : ℕ) → 1 ≤ k → j % k < k
column_below k j h = mod-lt j {m = k} h

-- the whole text comes at its start
abbrev pub text_comes : (k s : ℕ) (u moves : List ℕ) → RightText k s u moves → Comes expression u 0 1
text_comes k s u moves t = record { k = k; few = t.few; part = u; rest = []; tree = t.tree; typed = t.typed; here = sym (append-nil u); stop = tt; room = omega (arith, t.short) }

pub letters_few : (k s : ℕ) (u moves : List ℕ) → RightText k s u moves → length (letters_of k u) ≤ most_typed
letters_few k s u moves t = omega (arith, ap length (letters_typed k t.few t.typed), length_leaves t.tree, t.short)

-- row q of the walk, with the first numbers in row 0
row_made : (p : Expr) (q : ℕ) → q < most_states → get_or (set (add_rows (replicate most_states 0) (follows p)) 0 (firsts p)) q 0 ≡ successors p q
row_made p zero h = get_or-set_same (add_rows (replicate most_states 0) (follows p)) 0 (firsts p) 0 (omega (arith, rows_length (replicate most_states 0) (follows p)))
row_made p (suc q) h =
    get_or-set_other (add_rows (replicate most_states 0) (follows p)) 0 (suc q) (firsts p) 0 (λ e. omega arith)
    ∙ (rows_at (replicate most_states 0) (follows p) (suc q) h ∙ ap (λ S. bit_or S (follows p (suc q))) (get_or-replicate most_states (suc q) 0 0 h))

module _ (k s : ℕ) (u moves : List ℕ) (t : RightText k s u moves) where
  set_made : (a : ℕ) → a < most_letters → get_or (sets_of k u) a 0 ≡ typed_as a 1 (leaves t.tree)
  set_made a h =
      let z : 0 + a ≡ a = omega arith in
      at_map (λ a. typed_as a 1 (letters_of k u)) most_letters 0 a h ∙ (ap (λ a. typed_as a 1 (letters_of k u)) z ∙ ap (typed_as a 1) (letters_typed k t.few t.typed))

  pub moves_made : filled k s (set (add_rows (replicate most_states 0) (follows (numbered 1 t.tree))) 0 (firsts (numbered 1 t.tree))) (sets_of k u) moves ≡ moves_put k t.tree moves
  moves_made =
      let e = t.tree in
      let rows = set (add_rows (replicate most_states 0) (follows (numbered 1 e))) 0 (firsts (numbered 1 e)) in
      let R : ℕ → ℕ = move_from k rows (sets_of k u) in
      let n = suc (size e) * k in
      let same : map R (below n) ≡ moves_of k e =
      ext_get_or 0 (map R (below n)) (moves_of k e) (length_range R n 0 ∙ sym (moves_length k e)) (λ j h.
      let lt : j < n = subst (λ m. j < m) (length_range R n 0) h in
      let z : 0 + j ≡ j = omega arith in
      let q : j / k < suc (size e) = row_below k (suc (size e)) j t.some_letter lt in
      let a : j % k < k = column_below k j t.some_letter in
      at_map R n 0 j lt ∙ (ap R z
      ∙ (ap₂ bit_and (row_made (numbered 1 e) (j / k) (omega (arith, t.short))) (set_made (j % k) (omega (arith, t.few)))
      ∙ (sym (row_is k [] e (j / k) (j % k) q a) ∙ ap (λ i. get_or (moves_of k e) i 0) (div-add-mod' j k))))) in
      ap (λ s. map R (below (s * k)) ++ drop (s * k) moves) t.states ∙ ap (λ l. l ++ drop n moves) same

pub sets_length : (k : ℕ) (u : List ℕ) → length (sets_of k u) ≡ most_letters
sets_length k u = length_range (λ a. typed_as a 1 (letters_of k u)) most_letters 0

pub rows_long : (t : List ℕ) (f : ℕ → ℕ) (x : ℕ) → t ≡ add_rows (replicate most_states 0) f → length (set t 0 x) ≡ most_states
rows_long t f x e = simp length-set (ap length e ∙ rows_length (replicate most_states 0) f)
