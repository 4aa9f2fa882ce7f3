-- The table of a profile without moves and final states: all its forward and backward numbers are 0, save the start in the first record.
use mathlib.Core.Path.{◌≡◌, refl, sym, ◌∙◌, ap₂, subst}
use mathlib.Core.Logic.{⊎_elim}
use mathlib.Core.List.Memᴰ
use mathlib.Core.List.{List, [], ◌∷◌, ◌++◌, map}
use Prim.Native.Nat.{ℕ, ◌+◌, ◌*◌, ◌^◌, ◌≤◌, ◌<◌}
use native.Mathlib.Omega.{arith}
use lib.Dec.{T}
use lib.ListN.{get_or, length, set, drop, get_or-eq_default}
use lib.Seq.{ext_get_or}
use Rattle.profile.specs.Limits.{count_numbers}
use Rattle.profile.specs.Lists.{Mem, below, filter, flat_map}
use Rattle.profile.specs.Traces.{bit, independent, letters_below, orders}
use Rattle.profile.specs.Automata.{Profile, automaton, backward_step, forward_step, meets, row, run, run_back, union}
use Rattle.profile.specs.Prefixes.{at, backward, by_total, forward, marked, ranked, total, unmarked}
use Rattle.profile.specs.Tables.{layout, packed, record_length, record_of, table_of}
use Rattle.profile.proofs.Lists.{NoDup, filter_at, flat_map_agree, lt_or_le, mem_getd}
use Rattle.profile.proofs.Sets.{meets_at, not_in_none, sets_eq, union_at}
use Rattle.profile.proofs.Traces.{order_of_mem, takes_length}
use Rattle.theory.proofs.Counting.{prefixes_at}
use Rattle.theory.proofs.Levels.{by_total_at, by_total_nodup, le_total, total_prefix}
use Rattle.theory.proofs.Merge.{Sorted}
use Rattle.theory.proofs.RecordOrder.{by_total_sorted, ranked_total}
use Rattle.bare.specs.Bare.{bare_record, bare_table, prefixes_of}

zero_set : (S : ℕ) → ((q : ℕ) → T (bit S q) → ⊥) → S ≡ 0
zero_set S h = sets_eq S 0 (λ q t. absurd (h q t)) (λ q t. absurd (not_in_none q t))

union_zero : (f : List ℕ → ℕ) (l : List (List ℕ)) → ((v : List ℕ) → Mem v l → f v ≡ 0) → union f l ≡ 0
union_zero f l h = zero_set (union f l) (λ q t. let u = union_at f l q t in not_in_none q (subst (λ S. T (bit S q)) (h u.0 u.1) u.2))

module _ (k : ℕ) (masks moves : List ℕ) (none_moves : (i : ℕ) → get_or moves i 0 ≡ 0) where
  -- one state, no moves, no final state
  abbrev pub silent : Profile
  silent = record { k = k; masks = masks; s = 1; start = 0; finals = 0; moves = moves }

  step_none : (S x : ℕ) → forward_step k 1 moves S x ≡ 0
  step_none S x = zero_set (forward_step k 1 moves S x) (λ r t.
      let u = union_at (λ q. row k moves q x) (filter (bit S) (below 1)) r t in
      not_in_none r (subst (λ n. T (bit n r)) (none_moves (u.0 * k + x)) u.2))

  back_none : (R x : ℕ) → backward_step k 1 moves R x ≡ 0
  back_none R x = zero_set (backward_step k 1 moves R x) (λ q t.
      let u = union_at (λ q. 2 ^ q) (filter (λ q. meets (row k moves q x) R) (below 1)) q t in
      let m = filter_at (λ q. meets (row k moves q x) R) (below 1) u.1 in
      let n = meets_at (row k moves u.0 x) R m.1 in
      not_in_none n.0 (subst (λ S. T (bit S n.0)) (none_moves (u.0 * k + x)) n.1))

  run_none : (S a : ℕ) (u : List ℕ) → run (automaton silent) (λ x. x) S (a ∷ u) ≡ 0
  run_none S a [] = step_none S a
  run_none S a (b ∷ u) = run_none (forward_step k 1 moves S a) b u

  run_back_none : (u : List ℕ) → run_back (automaton silent) (λ x. x) 0 u ≡ 0
  run_back_none [] = refl
  run_back_none (a ∷ u) = back_none (run_back (automaton silent) (λ x. x) 0 u) a

  module _ (w : List ℕ) where
    pub backward_none : (c : ℕ → ℕ) → backward (independent masks) (λ a. a) (automaton silent) w c ≡ 0
    backward_none c = union_zero (run_back (automaton silent) (λ x. x) 0) (orders (independent masks) (unmarked (λ a. a) w c)) (λ v m. run_back_none v)

    pub forward_none : (c : ℕ → ℕ) → 1 ≤ length (marked (λ a. a) w c) → forward (independent masks) (λ a. a) (automaton silent) w c ≡ 0
    forward_none c h = union_zero (run (automaton silent) (λ x. x) 1) (orders (independent masks) (marked (λ a. a) w c))
        (λ v m. some v (takes_length (independent masks) (order_of_mem (independent masks) (marked (λ a. a) w c) m)))
      where
        some : (v : List ℕ) → length (marked (λ a. a) w c) ≡ length v + 0 → run (automaton silent) (λ x. x) 1 v ≡ 0
        some [] e = absurd (omega arith)
        some (a ∷ v) e = run_none 1 a v

    abbrev record_is : List ℕ → List ℕ
    record_is c = record_of layout (independent masks) (λ a. a) (automaton silent) w c

    -- a list of prefixes in which only the first may be empty
    pub set_first : (C : List (List ℕ)) (rest : List ℕ) → 0 < length C → NoDup C → ((c : List ℕ) → Mem c C → length c ≡ k) → Sorted (map ranked C)
        → ((c : List ℕ) → Mem c C → total c ≡ length (marked (λ a. a) w (at c))) → set (flat_map record_is C ++ rest) count_numbers 0 ≡ flat_map bare_record C ++ rest
    set_first [] rest h d lens sorted tot = absurd (omega arith)
    set_first (c ∷ C) rest h d lens sorted tot =
        ap₂ (λ b l. packed layout c ++ (0 ∷ b ∷ (l ++ rest))) (backward_none (at c)) (flat_map_agree record_is bare_record C (λ e m. agree e m))
      where
        same_counts : (e : List ℕ) → Mem e C → total e ≡ 0 → c ≡ e
        same_counts e m z =
            let y : total c ≡ 0 = omega (arith, ranked_total c e (sorted.0 (ranked e) (Memᴰ.map ranked m))) in
            ext_get_or 0 c e (lens c (Memᴰ.head refl) ∙ sym (lens e (Memᴰ.tail m))) (λ i l. none_at c y i ∙ sym (none_at e z i))
          where
            none_at : (c : List ℕ) → total c ≡ 0 → (x : ℕ) → at c x ≡ 0
            none_at c e x = ⊎_elim (λ h. omega (arith, le_total (mem_getd c x 0 h))) (λ h. get_or-eq_default c 0 h) (lt_or_le x (length c))

        agree : (e : List ℕ) → Mem e C → record_is e ≡ bare_record e
        agree e m = ap₂ (λ f b. packed layout e ++ (f ∷ b ∷ [])) (forward_none (at e) (⊎_elim (λ h. h) (λ h. absurd (d.0 (subst (λ x. Mem x C) (sym (same_counts e m (omega (arith, tot e (Memᴰ.tail m))))) m))) (lt_or_le 0 (length (marked (λ a. a) w (at e)))))) (backward_none (at e))

-- the table of the silent profile, with 0 for the start in the first record, is the table with forward and backward 0
module _ (k : ℕ) (masks moves : List ℕ) (none_moves : (i : ℕ) → get_or moves i 0 ≡ 0) (w : List ℕ) (letters : T (letters_below (λ a. a) k w)) (before : List ℕ) where
  pub bare_is : 0 < length (by_total (independent masks) (λ a. a) k w)
      → set (table_of layout (independent masks) (λ a. a) (automaton (silent k masks moves none_moves)) k w before) count_numbers 0 ≡ bare_table k masks w before
  bare_is h =
      let C = by_total (independent masks) (λ a. a) k w in
      set_first k masks moves none_moves w C (drop (record_length layout * prefixes_of k masks w) before) h (by_total_nodup (independent masks) (λ a. a) k w)
      (λ c m. (prefixes_at (independent masks) (λ a. a) k w c letters (by_total_at (independent masks) (λ a. a) k w c m)).0) (by_total_sorted (independent masks) (λ a. a) k w)
      (λ c m. total_prefix (independent masks) (λ a. a) k w c letters (by_total_at (independent masks) (λ a. a) k w c m))
