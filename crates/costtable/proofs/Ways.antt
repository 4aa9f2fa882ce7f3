-- Ways through the records of a table, letter by letter, and what they cost; the table's rows in a table of costs.
use mathlib.Core.Path.{◌≡◌, refl, sym, ◌∙◌, ap, subst}
use mathlib.Core.Bool.{Bool, true, false, cond, ◌&&◌}
use mathlib.Core.Logic.{◌⊎◌, inl, inr, ⊎_elim, ◌≢◌}
use mathlib.Core.List.{List}
use Prim.Native.Nat.{ℕ, suc, ◌+◌, ◌*◌, ◌/◌, ◌≤◌, ◌<◌}
use native.Mathlib.Omega.{arith}
use native.Mathlib.Nat.{mul-le-mul_right}
use lib.Arith.{digits_div}
use lib.Dec.{T, T_not, eqb, eqb→eq, eqb_refl, leb, leb→le, le→leb, ltb, ltb→lt, lt→ltb}
use Rattle.profile.specs.Automata.{row}
use Rattle.profile.specs.Tables.{count_field, layout}
use Rattle.profile.specs.Traces.{bit}
use Rattle.profile.specs.declared.Shape.{Shape}
use Rattle.profile.proofs.Lists.{both, fst_of, lt_or_le, snd_of, test}
use Rattle.counts.specs.Counts.{add_count}
use Rattle.records.specs.Records.{counts_at, records_in}
use Rattle.swaps.specs.Swaps.{step_cost}
use Rattle.costcells.specs.Cells.{Cleared, cost_in, none_cost}
use Rattle.costrows.specs.Rows.{with_step}

-- ---- rows of s cells, one behind the other

pub row_ends : (i r s : ℕ) → i < r → i * s + s ≤ r * s
row_ends i r s h = omega (arith, mul-le-mul_right {m = suc i} {n = r} s h)

pub row_same : (i r q q' s : ℕ) → q < s → q' < s → i * s + q ≡ r * s + q' → (i ≡ r) × (q ≡ q')
row_same i r q q' s a b e =
    let x : i ≡ r = sym (digits_div i a) ∙ ap (λ n. n / s) e ∙ digits_div r b in
    let y : i * s ≡ r * s = ap (λ n. n * s) x in
    (x, omega (arith, e, y))

pub same_or_not : (m n : ℕ) → (m ≡ n) ⊎ (m ≢ n)
same_or_not m n = ⊎_elim (λ t. inl (eqb→eq m n t)) (λ t. inr (λ e. T_not (eqb m n) t (subst (λ z. T (eqb m z)) e (eqb_refl m)))) (test (eqb m n))

-- ---- cells that are cleared

module _ (t t' : List ℕ) (at n : ℕ) (c : Cleared t t' at n) where
  pub cleared_in : (j : ℕ) → at ≤ j → j < at + n → cost_in t' j ≡ none_cost
  cleared_in j le lt = c.cells j ∙ chosen (leb at j && ltb j (at + n)) (both (leb at j) (ltb j (at + n)) (le→leb at j le) (lt→ltb j (at + n) lt))
    where
      chosen : (b : Bool) → T b → cond b none_cost (cost_in t j) ≡ none_cost
      chosen true h = refl
      chosen false h = absurd h

  pub cleared_out : (j : ℕ) → (j < at) ⊎ (at + n ≤ j) → cost_in t' j ≡ cost_in t j
  cleared_out j o = c.cells j ∙ other (leb at j && ltb j (at + n)) (λ y. ⊎_elim
      (λ lt. omega (arith, lt, leb→le at j (fst_of (leb at j) (ltb j (at + n)) y)))
      (λ ge. omega (arith, ge, ltb→lt j (at + n) (snd_of (leb at j) (ltb j (at + n)) y))) o)
    where
      other : (b : Bool) → (T b → ⊥) → cond b none_cost (cost_in t j) ≡ cost_in t j
      other true h = absurd (h tt)
      other false h = refl

-- ---- what a pass over the records finds

-- letter y of record i is done when the pass comes to letter x of record j; `earlier` is the order of its records
abbrev pub Done : (ℕ → ℕ → Type 0) → ℕ → ℕ → ℕ → ℕ → Type 0
Done earlier i y j x = earlier i j ⊎ ((i ≡ j) × (y < x))

-- with letter x nothing else is done
pub done_more : (earlier : ℕ → ℕ → Type 0) (i y j x : ℕ) → Done earlier i y j (suc x) → Done earlier i y j x ⊎ ((i ≡ j) × (y ≡ x))
done_more earlier i y j x b = ⊎_elim
    (λ e. inl (inl e))
    (λ z. ⊎_elim (λ lt. inl (inr (z.0, lt))) (λ ge. inr (z.0, omega (arith, ge, z.1))) (lt_or_le y x)) b

-- a cell has no cost, or at least that of a way
abbrev pub Costed : (ℕ → Type 0) → ℕ → Type 0
Costed way v = (v ≡ none_cost) ⊎ ((n : ℕ) × way n × (n ≤ v))

-- the cell of ways that are one letter longer
pub costed_step : (way way' : ℕ → Type 0) (u v more : ℕ) → u ≡ with_step v more → ((n : ℕ) → way n → way' (n + more)) → Costed way v → Costed way' u
costed_step way way' u v more e longer c = ⊎_elim
    (λ z. inl (omega (arith, e, z)))
    (λ z. ⊎_elim (λ less. inr (z.0 + more, longer z.0 z.1, omega (arith, e, z.2, less))) (λ ge. inl (omega (arith, e, ge))) (lt_or_le (v + more) none_cost)) c

-- ---- ways; t has the records of the prefixes of the log

module _ (h : Shape) (moves log t : List ℕ) where
  -- the next event of letter y after record i costs this
  abbrev pub cost_after : ℕ → ℕ → ℕ
  cost_after i y = step_cost (λ a. a) log (count_field layout (counts_at t i)) y

  -- record r has one y more than record i
  pub record Next (i y r : ℕ) : Type 0 where
    pub letter : y < h.k
    pub before : i < records_in t
    pub inside : r < records_in t
    pub one_more : counts_at t r ≡ add_count layout (counts_at t i) y

  -- the cell of record i and state q
  abbrev pub cost_of : List ℕ → ℕ → ℕ → ℕ
  cost_of costs i q = cost_in costs (i * h.s + q)

  -- letters lead from the first record and the start to record i and state q, and cost n
  pub data Way : ℕ → ℕ → ℕ → Type 0 where
    begins : Way 0 h.start 0
    goes_on : {i y r q q' n : ℕ} → Way i q n → Next i y r → q < h.s → T (bit (row h.k moves q y) q') → Way r q' (n + cost_after i y)

  -- letters lead from record i and state q to the last record and a final state, and cost n
  pub data WayOut : ℕ → ℕ → ℕ → Type 0 where
    ends : {i q : ℕ} → suc i ≡ records_in t → T (bit h.finals q) → WayOut i q 0
    goes_back : {i y r q q' n : ℕ} → WayOut r q' n → Next i y r → q < h.s → T (bit (row h.k moves q y) q') → WayOut i q (n + cost_after i y)

  -- what is known of the records and the moves
  pub record Laid : Type 0 where
    pub later : (i y r : ℕ) → Next i y r → i < r
    pub one : (i y r r' : ℕ) → Next i y r → Next i y r' → r' ≡ r
    pub state : (q y q' : ℕ) → q < h.s → y < h.k → T (bit (row h.k moves q y) q') → q' < h.s
    pub start : h.start < h.s
    pub finals : (q : ℕ) → T (bit h.finals q) → q < h.s
    pub some : 0 < records_in t

  -- a letter leads from a record to one other, at one cost
  pub same_next : Laid → {i y j x r r₂ : ℕ} → i ≡ j → y ≡ x → Next j x r → Next i y r₂ → (r₂ ≡ r) × (cost_after i y ≡ cost_after j x)
  same_next laid {i} {y} {j} {x} {r} {r₂} ei ey next n = (
    laid.one j x r r₂ next (subst (λ a. Next a x r₂) ei (subst (λ b. Next i b r₂) ey n)),
    ap (λ b. cost_after i b) ey ∙ ap (λ a. cost_after a x) ei,
  )
