-- What a table that holds the prefixes of a log has in its numbers.
use mathlib.Core.Path.{◌≡◌, sym, ◌∙◌, ap, ap₂, subst}
use mathlib.Core.Bool.{Bool}
use mathlib.Core.Logic.{⊎_elim}
use mathlib.Core.List.{List, [], ◌∷◌}
use Prim.Native.Nat.{ℕ, ◌+◌, ◌-◌, ◌*◌, ◌≤◌, ◌<◌}
use native.Mathlib.Omega.{arith}
use lib.Arith.{digits_lt}
use lib.Dec.{T}
use lib.ListN.{length, get_or, drop, length-append, get_or-append}
use lib.Seq.{get_or-append-add, get_or-drop}
use Rattle.profile.specs.Lists.{Mem, flat_map}
use Rattle.profile.specs.Automata.{Automaton}
use Rattle.profile.specs.Prefixes.{at, backward, by_total, forward, prefix_count, prefixes, total}
use Rattle.profile.specs.Tables.{Layout, packed, record_length, record_of, table_of}
use Rattle.profile.proofs.Lists.{flat_map_getd, flat_map_length, lt_or_le, mem_getd, mem_place, nodup_place}
use Rattle.profile.specs.Traces.{letters_below}
use Rattle.theory.proofs.Levels.{by_total_at, by_total_length, by_total_nodup, by_total_of}
use Rattle.theory.proofs.RecordOrder.{by_total_sorted, ranked_getd, ranked_total}
use Rattle.theory.proofs.Packing.{packed_length}

-- ---- the record of a prefix

module _ (L : Layout) (may : ℕ → ℕ → Bool) (letter : ℕ → ℕ) (M : Automaton) (w c : List ℕ) where
  pub record_of_length : length (record_of L may letter M w c) ≡ record_length L
  record_of_length =
      omega (arith, length-append (packed L c) (forward may letter M w (at c) ∷ backward may letter M w (at c) ∷ []), packed_length L c)

  pub record_of_counts : (j : ℕ) → j < L.numbers → get_or (record_of L may letter M w c) j 0 ≡ get_or (packed L c) j 0
  record_of_counts j h = get_or-append (packed L c) (forward may letter M w (at c) ∷ backward may letter M w (at c) ∷ []) 0 j (omega (arith, packed_length L c))

  -- the numbers behind the counts
  record_of_behind : (j : ℕ) → get_or (record_of L may letter M w c) (L.numbers + j) 0 ≡ get_or (forward may letter M w (at c) ∷ backward may letter M w (at c) ∷ []) j 0
  record_of_behind j =
      ap (λ n. get_or (record_of L may letter M w c) (n + j) 0) (sym (packed_length L c))
      ∙ get_or-append-add (packed L c) (forward may letter M w (at c) ∷ backward may letter M w (at c) ∷ []) j 0

-- ---- a table that holds the prefixes

-- the table `before` became `after`, with the prefixes of a log of letters below k
pub record Holds (L : Layout) (may : ℕ → ℕ → Bool) (letter : ℕ → ℕ) (M : Automaton) (k : ℕ) (w before after : List ℕ) : Type 0 where
  pub letters : T (letters_below letter k w)
  pub written : after ≡ table_of L may letter M k w before

module _ {L : Layout} {may : ℕ → ℕ → Bool} {letter : ℕ → ℕ} {M : Automaton} {k : ℕ} {w before after : List ℕ} (h : Holds L may letter M k w before after) where
  pub holds_count : length (by_total may letter k w) ≡ prefix_count may letter k w
  holds_count = by_total_length may letter k w h.letters

  records_length : length (flat_map (record_of L may letter M w) (by_total may letter k w)) ≡ record_length L * prefix_count may letter k w
  records_length =
      flat_map_length (record_of L may letter M w) (record_length L) (record_of_length L may letter M w) (by_total may letter k w) ∙ ap (λ n. record_length L * n) holds_count

  -- number j of record r is number j of the record of prefix r
  pub holds_number : (r j : ℕ) → r < prefix_count may letter k w → j < record_length L
      → get_or after (record_length L * r + j) 0 ≡ get_or (record_of L may letter M w (get_or (by_total may letter k w) r [])) j 0
  holds_number r j hr hj =
      let records = flat_map (record_of L may letter M w) (by_total may letter k w) in
      ap (λ l. get_or l (record_length L * r + j) 0) h.written
      ∙ get_or-append records (drop (record_length L * prefix_count may letter k w) before) 0 (record_length L * r + j) (omega (arith, records_length, digits_lt hr hj))
      ∙ flat_map_getd (record_of L may letter M w) (record_length L) (record_of_length L may letter M w) (by_total may letter k w) r j [] 0 (omega (arith, holds_count)) hj

  pub holds_counts : (r j : ℕ) → r < prefix_count may letter k w → j < L.numbers
      → get_or after (record_length L * r + j) 0 ≡ get_or (packed L (get_or (by_total may letter k w) r [])) j 0
  holds_counts r j hr hj = holds_number r j hr (omega arith) ∙ record_of_counts L may letter M w (get_or (by_total may letter k w) r []) j hj

  pub holds_forward : (r : ℕ) → r < prefix_count may letter k w
      → get_or after (record_length L * r + L.numbers) 0 ≡ forward may letter M w (at (get_or (by_total may letter k w) r []))
  holds_forward r hr =
      let c = get_or (by_total may letter k w) r [] in
      let e : L.numbers ≡ L.numbers + 0 = omega arith in
      holds_number r L.numbers hr (omega arith) ∙ ap (λ j. get_or (record_of L may letter M w c) j 0) e ∙ record_of_behind L may letter M w c 0

  pub holds_backward : (r : ℕ) → r < prefix_count may letter k w
      → get_or after (record_length L * r + (L.numbers + 1)) 0 ≡ backward may letter M w (at (get_or (by_total may letter k w) r []))
  holds_backward r hr = holds_number r (L.numbers + 1) hr (omega arith) ∙ record_of_behind L may letter M w (get_or (by_total may letter k w) r []) 1

  -- numbers past the last record are as before
  pub holds_past : (i : ℕ) → record_length L * prefix_count may letter k w ≤ i → get_or after i 0 ≡ get_or before i 0
  holds_past i le =
      let records = flat_map (record_of L may letter M w) (by_total may letter k w) in
      let rest = record_length L * prefix_count may letter k w in
      let e : i ≡ length records + (i - length records) = omega (arith, records_length) in
      let d : rest + (i - length records) ≡ i = omega (arith, records_length) in
      ap₂ (λ l n. get_or l n 0) h.written e ∙ get_or-append-add records (drop rest before) (i - length records) 0
      ∙ get_or-drop rest before (i - length records) 0 ∙ ap (λ n. get_or before n 0) d

  pub holds_rises : (i j : ℕ) → i ≤ j → j < prefix_count may letter k w → total (get_or (by_total may letter k w) i []) ≤ total (get_or (by_total may letter k w) j [])
  holds_rises i j le lt =
      let l = by_total may letter k w in
      ⊎_elim
      (λ h. ranked_total (get_or l i []) (get_or l j []) (ranked_getd l (by_total_sorted may letter k w) i j h (omega (arith, holds_count))))
      (λ g. let e : i ≡ j = omega arith in subst (λ r. total (get_or l i []) ≤ total (get_or l r [])) e (omega arith))
      (lt_or_le i j)

  -- each place has a prefix, each prefix a place, and only one
  pub holds_prefix : (r : ℕ) → r < prefix_count may letter k w → Mem (get_or (by_total may letter k w) r []) (prefixes may letter k w)
  holds_prefix r lt = by_total_at may letter k w (get_or (by_total may letter k w) r []) (mem_getd (by_total may letter k w) r [] (omega (arith, holds_count)))

  pub holds_find : (c : List ℕ) → Mem c (prefixes may letter k w) → (r : ℕ) × (r < prefix_count may letter k w) × (get_or (by_total may letter k w) r [] ≡ c)
  holds_find c m =
      let p = mem_place [] (by_total_of may letter k w c h.letters m) in
      let lt : p.0 < prefix_count may letter k w = omega (arith, p.1, holds_count) in (p.0, lt, p.2)

  pub holds_once : (r r' : ℕ) → r < prefix_count may letter k w → r' < prefix_count may letter k w → get_or (by_total may letter k w) r [] ≡ get_or (by_total may letter k w) r' [] → r ≡ r'
  holds_once r r' hr hr' e = nodup_place (by_total may letter k w) [] (by_total_nodup may letter k w) r r' (omega (arith, holds_count)) (omega (arith, holds_count)) e
