-- "Every result reached with the old record is reached with the new one wherever its table fits." Verdict, order, P and looks are defined without a record's
-- layout; so here are what a call needs not to be refused, and the fields of the records in two layouts. `old` is the layout of six numbers, and 255 the
-- longest log of that time.
use mathlib.Core.Path.{◌≡◌, refl, sym, ◌∙◌, ap}
use mathlib.Core.Bool.{Bool, false}
use mathlib.Core.Logic.{⊎_elim}
use mathlib.Core.List.Memᴰ
use mathlib.Core.List.{List, [], ◌∷◌, ◌++◌, map}
use mathlib.Core.Option.{none}
use Prim.Native.Nat.{ℕ, ◌+◌, ◌*◌, ◌^◌, ◌≤◌, ◌<◌}
use native.Mathlib.Omega.{arith}
use borrow.Author.Tests.{le-ltb, ltb-false}
use lib.Dec.{T, lt→ltb, ltb}
use lib.ListN.{length, get_or}
use lib.Seq.{ext_get_or}
use native.Mathlib.Nat.{zero-add}
use Rattle.profile.specs.Automata.{Automaton, Profile}
use Rattle.profile.specs.Lists.{Mem, all, below}
use Rattle.profile.specs.Rules.{plain, prefixes_by}
use Rattle.profile.specs.Prefixes.{at, by_total, prefix_count}
use Rattle.profile.specs.Refusals.{bad_letter, bad_place, full_table, judge_refusal, judge_refusals, log_refusals, longest, lowest, profile_refusals, short_buffer}
use Rattle.profile.specs.Tables.{Layout, capacity, count_field, layout, packed, record_length}
use Rattle.profile.specs.declared.Refusal.{Refusal}
use Rattle.profile.specs.declared.Refusal.TheVariants.{BadLetter, FullTable, LongLog, ShortBuffer}
use Rattle.profile.proofs.Lists.{all_of}
use Rattle.theory.proofs.Counting.{at_map, length_range, prefixes_at}
use Rattle.theory.proofs.Levels.{le_total, total_prefix}
use Rattle.theory.proofs.Prefixes.{front_length, front_of_prefix}
use Rattle.theory.proofs.Packing.{field_packed, packed_length}
use Rattle.theory.proofs.Refusals.{lowest_none}
use Rattle.theory.proofs.Tables.{Holds, holds_backward, holds_counts, holds_forward, holds_prefix}

abbrev pub old : Layout
old = record { width = 8; per = 4; numbers = 4 }

-- the judge's refusals of that time, 5 aside, which is no longer given
abbrev pub old_judge_refusals : Profile → List ℕ → ℕ → ℕ → List (Bool × Refusal)
old_judge_refusals p w n m =
    profile_refusals p ++ ((ltb 255 (length w), LongLog) ∷ (bad_letter p.k w, BadLetter (bad_place p.k w)) ∷ (short_buffer n w, ShortBuffer)
    ∷ (ltb (capacity old m) (prefixes_by (plain p) w), FullTable) ∷ [])

-- a call that got a verdict gets one, where the new records fit the table
pub still_judged : (p : Profile) (w : List ℕ) (n m m' : ℕ) → lowest (old_judge_refusals p w n m) ≡ none
    → prefixes_by (plain p) w ≤ capacity layout m' → judge_refusal p w n m' ≡ none
still_judged p w n m m' e fits =
    (lowest_none (judge_refusals p w n m')).1
    (λ c i. ⊎_elim (λ j. ⊎_elim (λ k. h c (Memᴰ.append_left rest k))
    (λ k. ⊎_elim (of_log c) (of-buffer c) (Memᴰ.append_cases (log_refusals p.k w) k)) (Memᴰ.append_cases (profile_refusals p) j)) (of-table c)
    (Memᴰ.append_cases (profile_refusals p ++ (log_refusals p.k w ++ ((short_buffer n w, ShortBuffer) ∷ []))) i))
  where
    rest : List (Bool × Refusal)
    rest = (ltb 255 (length w), LongLog) ∷ (bad_letter p.k w, BadLetter (bad_place p.k w)) ∷ (short_buffer n w, ShortBuffer)
        ∷ (ltb (capacity old m) (prefixes_by (plain p) w), FullTable) ∷ []

    h : (c : Bool × Refusal) → Mem c (profile_refusals p ++ rest) → c.0 ≡ false
    h = (lowest_none (old_judge_refusals p w n m)).0 e

    short : length w ≤ 255
    short = ltb-false 255 (length w) (h (ltb 255 (length w), LongLog) (Memᴰ.append_right (profile_refusals p) (Memᴰ.head refl)))

    of_log : (c : Bool × Refusal) → Mem c (log_refusals p.k w) → c.0 ≡ false
    of_log c i = ⊎_elim (λ q. ap (λ (x : Bool × Refusal). x.0) q ∙ le-ltb longest (length w) (omega (arith, short)))
        (λ j. ⊎_elim (λ q. ap (λ (x : Bool × Refusal). x.0) q
        ∙ h (bad_letter p.k w, BadLetter (bad_place p.k w)) (Memᴰ.append_right (profile_refusals p) (Memᴰ.tail (Memᴰ.head refl))))
        (λ z. absurd (Memᴰ.not-nil z)) (Memᴰ.cases_cons j)) (Memᴰ.cases_cons i)

    of-buffer : (c : Bool × Refusal) → Mem c ((short_buffer n w, ShortBuffer) ∷ []) → c.0 ≡ false
    of-buffer c i = ⊎_elim (λ q. ap (λ (x : Bool × Refusal). x.0) q
        ∙ h (short_buffer n w, ShortBuffer) (Memᴰ.append_right (profile_refusals p) (Memᴰ.tail (Memᴰ.tail (Memᴰ.head refl)))))
        (λ z. absurd (Memᴰ.not-nil z)) (Memᴰ.cases_cons i)

    of-table : (c : Bool × Refusal) → Mem c ((full_table (prefixes_by (plain p) w) m', FullTable) ∷ []) → c.0 ≡ false
    of-table c i = ⊎_elim (λ q. ap (λ (x : Bool × Refusal). x.0) q ∙ le-ltb (capacity layout m') (prefixes_by (plain p) w) fits)
        (λ z. absurd (Memᴰ.not-nil z)) (Memᴰ.cases_cons i)

-- the numbers of counts of record r
abbrev pub numbers_at : Layout → List ℕ → ℕ → List ℕ
numbers_at L t r = map (λ j. get_or t (record_length L * r + j) 0) (below L.numbers)

module _ {L : Layout} {may : ℕ → ℕ → Bool} {letter : ℕ → ℕ} {M : Automaton} {k : ℕ} {w before after : List ℕ} (h : Holds L may letter M k w before after)
    (r : ℕ) (lt : r < prefix_count may letter k w) where
  numbers_are : numbers_at L after r ≡ packed L (get_or (by_total may letter k w) r [])
  numbers_are = ext_get_or 0 (numbers_at L after r) (packed L (get_or (by_total may letter k w) r []))
      (length_range (λ j. get_or after (record_length L * r + j) 0) L.numbers 0 ∙ sym (packed_length L (get_or (by_total may letter k w) r [])))
      (λ i l.
      let q : i < L.numbers = omega (arith, length_range (λ j. get_or after (record_length L * r + j) 0) L.numbers 0) in
      at_map (λ j. get_or after (record_length L * r + j) 0) L.numbers 0 i q ∙ ap (λ j. get_or after (record_length L * r + j) 0) (zero-add i) ∙ holds_counts h r i lt q)

  -- no count of a prefix exceeds the log's length
  small : length w < 2 ^ L.width → T (all (λ n. ltb n (2 ^ L.width)) (get_or (by_total may letter k w) r []))
  small short = all_of (λ n. ltb n (2 ^ L.width)) (get_or (by_total may letter k w) r []) (λ n m.
      let c = get_or (by_total may letter k w) r [] in
      let p = holds_prefix h r lt in
      let q = prefixes_at may letter k w c h.letters p in
      lt→ltb n (2 ^ L.width) (omega (arith, le_total m, total_prefix may letter k w c h.letters p, front_length may (front_of_prefix may letter q.1))))

  -- a letter's count in record r
  pub count_is : length w < 2 ^ L.width → (i : ℕ) → i < L.per * L.numbers → count_field L (numbers_at L after r) i ≡ at (get_or (by_total may letter k w) r []) i
  count_is short i l = ap (λ t. count_field L t i) numbers_are ∙ field_packed L (get_or (by_total may letter k w) r []) i (small short) l

-- the same records in two layouts: each letter's count, forward and backward
module _ {L L' : Layout} {may : ℕ → ℕ → Bool} {letter : ℕ → ℕ} {M : Automaton} {k : ℕ} {w before after before' after' : List ℕ}
    (h : Holds L may letter M k w before after) (h' : Holds L' may letter M k w before' after') (r : ℕ) (lt : r < prefix_count may letter k w) where
  pub same_forward : get_or after (record_length L * r + L.numbers) 0 ≡ get_or after' (record_length L' * r + L'.numbers) 0
  same_forward = holds_forward h r lt ∙ sym (holds_forward h' r lt)

  pub same_backward : get_or after (record_length L * r + (L.numbers + 1)) 0 ≡ get_or after' (record_length L' * r + (L'.numbers + 1)) 0
  same_backward = holds_backward h r lt ∙ sym (holds_backward h' r lt)

  pub same_count : length w < 2 ^ L.width → length w < 2 ^ L'.width → (i : ℕ) → i < L.per * L.numbers → i < L'.per * L'.numbers
      → count_field L (numbers_at L after r) i ≡ count_field L' (numbers_at L' after' r) i
  same_count short short' i l l' = count_is h r lt short i l ∙ sym (count_is h' r lt short' i l')
