-- Laws of the cells of a cost table, for the loops over them.
use mathlib.Core.Path.{◌≡◌, refl, sym, ◌∙◌, ap}
use mathlib.Core.Bool.{Bool, true, false, cond}
use mathlib.Core.Logic.{◌⊎◌, inl, inr, ⊎_elim}
use mathlib.Core.List.{List, [], ◌∷◌}
use mathlib.Core.Option.{Option, none, some, none-ne-some}
use Prim.Native.Nat.{ℕ, zero, suc, ◌+◌, ◌-◌, ◌≤◌, ◌<◌, ◌^◌}
use native.Mathlib.Omega.{arith}
use lib.Bits.{bit_and}
use lib.Count.{count_trailing_zeros}
use lib.Dec.{T, not_T, leb, leb→le, le→leb, ltb, ltb→lt, lt→ltb}
use lib.ListN.{length, get_or}
use Rattle.profile.specs.Lists.{filter}
use Rattle.profile.specs.Traces.{bit}
use Rattle.profile.proofs.Lists.{filter_agree, filter_no, filter_yes, lt_or_le}
use Rattle.profile.proofs.Sets.{t_eq, bit_below, not_in_none}
use Rattle.theory.proofs.SetLoops.{rest_first, rest_in, rest_other}
use Rattle.std.specs.List.{count_by, filter as passing}
use Rattle.std.proofs.lemmas.List.Sums.{length-filter}
use Rattle.swaps.specs.Closest.{after, smaller, sorted}
use Rattle.swaps.proofs.Fewest.{at_most_no, at_most_yes, ranked_at, ranked_of}
use Rattle.costcells.specs.Cells.{Least, at_most, cost_in, none_cost, pair_costs}

-- within a list it does not matter what stands behind it
pub inside : (l : List ℕ) (i d e : ℕ) → i < length l → get_or l i d ≡ get_or l i e
inside [] i d e h = absurd (omega (arith, h))
inside (a ∷ l) zero d e h = refl
inside (a ∷ l) (suc i) d e h = inside l i d e (omega (arith, h))

-- ---- how many are at most v

-- the costs that the program keeps are those of the definition
kept : (p : ℕ → Bool) (l : List ℕ) → passing p l ≡ filter p l
kept p [] = refl
kept p (n ∷ l) = go (p n) (kept p l)
  where
    go : (b : Bool) → passing p l ≡ filter p l → cond b (n ∷ passing p l) (passing p l) ≡ elim b [ true ↦ n ∷ filter p l | false ↦ filter p l ]
    go true e = ap (◌∷◌ n) e
    go false e = e

pub counted : (v : ℕ) (l : List ℕ) → count_by (λ n. leb n v) l ≡ at_most v l
counted v l = sym (length-filter (λ n. leb n v) l) ∙ ap length (kept (λ n. leb n v) l)

-- the lowest state of a set
pub low_state : (s n : ℕ) → 0 < n → n < 2 ^ 32 → n < 2 ^ s → count_trailing_zeros 32 n < s
low_state s n p h l = bit_below s n (count_trailing_zeros 32 n) l (rest_first n p h)

-- ---- the least of a row, state by state

-- of the states of S those of `rest` are not yet looked at
abbrev pub Scanned : List ℕ → ℕ → ℕ → ℕ → ℕ → Type 0
Scanned t row S rest n =
    ((q : ℕ) → T (bit S q) → (n ≤ cost_in t (row + q)) ⊎ T (bit rest q))
    × ((q : ℕ) → T (bit rest q) → T (bit S q))
    × ((n ≡ none_cost) ⊎ ((q : ℕ) × T (bit S q) × (n ≡ cost_in t (row + q))))

-- the next state has the cost v; m is the smaller of v and the least so far
pub scan_more : (t : List ℕ) (row S n v m x : ℕ) → 0 < n → n < 2 ^ 32 → v ≡ cost_in t (row + count_trailing_zeros 32 n) → m ≤ x → m ≤ v → (m ≡ x) ⊎ (m ≡ v)
    → Scanned t row S n x → Scanned t row S (bit_and n (n - 1)) m
scan_more t row S n v m x p h e lx lv which inv = (
  λ q k. ⊎_elim (λ l. inl (omega (arith, l, lx)))
      (λ i. ⊎_elim (λ s. inl (omega (arith, lv, e, ap (λ z. cost_in t (row + z)) s))) (λ j. inr j) (rest_other n p h q i)) (inv.0 q k),
  λ q k. inv.1 q (rest_in n p h q k),
  ⊎_elim (λ s. ⊎_elim (λ z. inl (s ∙ z)) (λ z. inr (z.0, z.1, s ∙ z.2)) inv.2)
      (λ s. inr (count_trailing_zeros 32 n, inv.1 (count_trailing_zeros 32 n) (rest_first n p h), s ∙ e)) which,
)

pub scan_end : (t : List ℕ) (row S n : ℕ) → Scanned t row S 0 n → Least t row S n
scan_end t row S n inv = record { no_less = λ q h. ⊎_elim (λ l. l) (λ k. absurd (not_in_none q k)) (inv.0 q h); is_one = inv.2 }

-- ---- the floor

at_most_pairs : (v : ℕ) (l : List ℕ) → v < none_cost → at_most v (pair_costs l) ≡ at_most v l
at_most_pairs v [] h = refl
at_most_pairs v (n ∷ l) h = ⊎_elim
    (λ k. ⊎_elim (λ b. omega (arith, ap (at_most v) (filter_yes (λ n. ltb n none_cost) n l (lt→ltb n none_cost k)), at_most_no v n (pair_costs l) b, at_most_no v n l b, at_most_pairs v l h))
    (λ b. omega (arith, ap (at_most v) (filter_yes (λ n. ltb n none_cost) n l (lt→ltb n none_cost k)), at_most_yes v n (pair_costs l) b, at_most_yes v n l b, at_most_pairs v l h)) (lt_or_le v n))
    (λ k. omega (
      arith,
      ap (at_most v) (filter_no (λ n. ltb n none_cost) n l (not_T (ltb n none_cost) (λ t. omega (arith, ltb→lt n none_cost t, k)))),
      at_most_no v n l (omega (arith, h, k)),
      at_most_pairs v l h,
    )) (lt_or_le n none_cost)

pub at_most_le : (u v : ℕ) (l : List ℕ) → u ≤ v → at_most u l ≤ at_most v l
at_most_le u v [] h = omega arith
at_most_le u v (n ∷ l) h = ⊎_elim
    (λ b. ⊎_elim (λ d. omega (arith, at_most_no u n l b, at_most_no v n l d, at_most_le u v l h)) (λ d. omega (arith, at_most_no u n l b, at_most_yes v n l d, at_most_le u v l h)) (lt_or_le v n))
    (λ b. omega (arith, at_most_yes u n l b, at_most_yes v n l (omega (arith, b, h)), at_most_le u v l h)) (lt_or_le u n)

-- all costs below none are pairs
pub pairs_number : (l : List ℕ) → at_most 4294967294 l ≡ length (pair_costs l)
pairs_number l = ap length (filter_agree (λ n. leb n 4294967294) (λ n. ltb n none_cost) l
    (λ n m. t_eq (leb n 4294967294) (ltb n none_cost) (λ t. lt→ltb n none_cost (omega (arith, leb→le n 4294967294 t))) (λ t. le→leb n 4294967294 (omega (arith, ltb→lt n none_cost t)))))

-- v is the smaller of `few` and the (B + 1)-th of the pairs: no smaller number has more than B at most as large, and v is `few` or has
pub floor_found : (l : List ℕ) (B few v : ℕ) → few < none_cost → v ≤ few → ((u : ℕ) → u < v → at_most u l ≤ B) → (v ≡ few) ⊎ (B < at_most v l)
    → v ≡ smaller few (after B (sorted (pair_costs l)))
floor_found l B few v h le least which = go (after B (sorted (pair_costs l))) refl
  where
    go : (o : Option ℕ) → after B (sorted (pair_costs l)) ≡ o → v ≡ smaller few (after B (sorted (pair_costs l)))
    go none e = ⊎_elim (λ k. k ∙ sym (ap (smaller few) e))
        (λ k. absurd (none-ne-some v (sym e ∙ ranked_of B v (pair_costs l) (omega (arith, k, at_most_pairs v l (omega (arith, le, h))))
        (λ u z. omega (arith, least u z, at_most_pairs u l (omega (arith, z, le, h)))))))
        which
    go (some r) e =
        let k = ranked_at B r (pair_costs l) e in
        let up : v ≤ r = ⊎_elim (λ lt. absurd (omega (arith, k.0, least r lt, at_most_pairs r l (omega (arith, lt, le, h))))) (λ z. z) (lt_or_le r v) in
        ⊎_elim (λ s. omega (arith, ap (smaller few) e, s, up, le))
        (λ b.
        let down : r ≤ v = ⊎_elim (λ lt. absurd (omega (arith, b, k.1 v lt, at_most_pairs v l (omega (arith, le, h))))) (λ z. z) (lt_or_le v r) in
        omega (arith, ap (smaller few) e, up, down, le))
        which
