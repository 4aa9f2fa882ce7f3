-- One letter of a record, as a pass comes to it: where its cursor may stand and stops, and what the code asks for there.
use mathlib.Core.Path.{◌≡◌, sym, ◌∙◌, ap, subst}
use mathlib.Core.Bool.{true, false, ◌&&◌}
use mathlib.Core.Logic.{inl, ⊎_elim}
use mathlib.Core.List.{List, []}
use Prim.Native.Nat.{ℕ, suc, ◌+◌, ◌-◌, ◌*◌, ◌≤◌, ◌<◌}
use native.Mathlib.Omega.{arith}
use lib.Dec.{T, ltb, ltb→lt}
use lib.ListN.{length, get_or, set}
use lib.Seq.{get_or-set_other, get_or-set_same}
use Rattle.profile.specs.Prefixes.{by_total}
use Rattle.profile.specs.Tables.{layout, packed}
use Rattle.profile.specs.declared.Shape.{Shape}
use Rattle.profile.proofs.Lists.{equal_test, fst_of, snd_of}
use Rattle.theory.proofs.Levels.{bump}
use Rattle.counts.specs.Counts.{add_count}
use Rattle.records.specs.Records.{counts_at, records_in}
use Rattle.search.specs.Search.{has?}
use Rattle.stepcost.specs.StepCosts.{Within}
use Rattle.costcursors.specs.Cursors.{High, Low, Splits}
use Rattle.costcursors.proofs.Successors.{high_on, low_on, next_packed, successor_of}
use Rattle.costrows.specs.Rows.{Rows}
use Rattle.costtable.specs.Costs.{Given}
use Rattle.costtable.proofs.Ways.{Laid, Next, row_ends, same_or_not}
use Rattle.costtable.proofs.Lending.{inside_of, laid, row_small, small_more, within}

-- the cost table may be another of the same length
pub given_as_long : (h : Shape) (moves t log starts places u v : List ℕ) → length v ≡ length u → Given h moves t log starts places u → Given h moves t log starts places v
given_as_long h moves t log starts places u v e g = record {
  masks = g.masks;
  may = g.may;
  letter = g.letter;
  events = g.events;
  lent = g.lent;
  room = omega (arith, e, g.room);
}

module _ (h : Shape) (moves t log starts places costs : List ℕ) (g : Given h moves t log starts places costs) where
  -- the prefixes, in order
  abbrev lists : List (List ℕ)
  lists = by_total g.may g.letter h.k g.events

  pub given_laid : Laid h moves log t
  given_laid = laid h g.masks moves g.may g.letter g.events t log starts places g.lent

  -- the row of a record
  pub row_fits : (j : ℕ) → j < records_in t → j * h.s + h.s ≤ length costs
  row_fits j lt = omega (arith, row_ends j (records_in t) h.s lt, g.room)

  -- the counts looked for after record j and letter x
  wanted : (j x : ℕ) → j < records_in t → x < h.k → add_count layout (counts_at t j) x ≡ packed layout (bump (get_or lists j []) x)
  wanted j x lt xk =
      let lj = inside_of h g.masks moves g.may g.letter g.events t log starts places g.lent j lt in
      next_packed t h.k lists g.lent.records j x lj xk (small_more h g.masks moves g.may g.letter g.events t log starts places g.lent j x lj xk)

  -- a cursor only moves on: what is right for record i is for a later record j, and back
  module _ (i j x : ℕ) (before : i < j) (lt : j < records_in t) (xk : x < h.k) where
    li : i < length lists
    li = inside_of h g.masks moves g.may g.letter g.events t log starts places g.lent i (omega (arith, before, lt))

    lj : j < length lists
    lj = inside_of h g.masks moves g.may g.letter g.events t log starts places g.lent j lt

    pub low_next : (r : ℕ) → Low t (add_count layout (counts_at t i) x) r → Low t (add_count layout (counts_at t j) x) r
    low_next r low = subst (λ c. Low t c r) (sym (wanted j x lt xk)) (low_on t h.k lists g.lent.records i j x before lj xk
        (small_more h g.masks moves g.may g.letter g.events t log starts places g.lent i x li xk)
        (small_more h g.masks moves g.may g.letter g.events t log starts places g.lent j x lj xk)
        r (subst (λ c. Low t c r) (wanted i x (omega (arith, before, lt)) xk) low))

    pub high_next : (r : ℕ) → High t (add_count layout (counts_at t j) x) r → High t (add_count layout (counts_at t i) x) r
    high_next r high = subst (λ c. High t c r) (sym (wanted i x (omega (arith, before, lt)) xk)) (high_on t h.k lists g.lent.records i j x before lj xk
        (small_more h g.masks moves g.may g.letter g.events t log starts places g.lent i x li xk)
        (small_more h g.masks moves g.may g.letter g.events t log starts places g.lent j x lj xk)
        r (subst (λ c. High t c r) (wanted j x lt xk) high))

  -- ---- letter x of record j; `want` are the counts looked for, r is where the cursor stops
  module _ (j x r : ℕ) (want : List ℕ) (lt : j < records_in t) (xk : x < h.k) (is-wanted : want ≡ add_count layout (counts_at t j) x) where
    -- the record there is the next
    pub found_next : (ltb r (records_in t) && has? t want r) ≡ true → Next h moves log t j x r
    found_next e =
        let y : T (ltb r (records_in t) && has? t want r) = rw e tt in
        record {
          letter = xk;
          before = lt;
          inside = ltb→lt r (records_in t) (fst_of (ltb r (records_in t)) (has? t want r) y);
          one_more = (equal_test (counts_at t r) want).0 (snd_of (ltb r (records_in t)) (has? t want r) y) ∙ is-wanted;
        }

    -- or there is none
    pub no_next : (ltb r (records_in t) && has? t want r) ≡ false → Splits t want r → (r' : ℕ) → Next h moves log t j x r' → ⊥
    no_next e s r' n =
        let lr = inside_of h g.masks moves g.may g.letter g.events t log starts places g.lent r' n.inside in
        let q : want ≡ packed layout (get_or lists r' []) = is-wanted ∙ sym n.one_more ∙ g.lent.records.counts r' lr in
        let z = successor_of t h.k lists g.lent.records r' r lr (subst (λ c. Splits t c r) q s) in
        let y : T (ltb r (records_in t) && has? t want r) = subst (λ c. T (ltb r (records_in t) && has? t c r)) (sym q) z.1 in
        rw e at y

    module _ (n : Next h moves log t j x r) where
      pub next_rows : Rows costs (j * h.s) (r * h.s) h.k h.s moves x
      next_rows = record {
        letters = g.lent.records.letters;
        letter = xk;
        states = g.lent.profile.states.1;
        first = row_fits j lt;
        second = row_fits r n.inside;
        apart = inl (row_ends j r h.s (given_laid.later j x r n));
        small = λ q qs. row_small h g.masks moves g.may g.letter g.events t log starts places g.lent q x qs xk;
      }

      pub next_within : Within h.k log (counts_at t j) (counts_at t (records_in t - 1)) x
      next_within = within h g.masks moves g.may g.letter g.events t log starts places g.lent j x r (records_in t - 1) n (omega (arith, lt))

-- the cursor of each letter may go on from where it stands, for record j; `stands` says where one may stand that seeks given counts: Low or High
abbrev pub StandsAll : (List ℕ → List ℕ → ℕ → Type 0) → List ℕ → ℕ → ℕ → List ℕ → Type 0
StandsAll stands t j k cursors = (x : ℕ) → x < k → (get_or cursors x 0 ≤ records_in t) × stands t (add_count layout (counts_at t j) x) (get_or cursors x 0)

-- the cursor of letter x moves to another place where it may stand
pub stands_set : (stands : List ℕ → List ℕ → ℕ → Type 0) (t : List ℕ) (j k x r : ℕ) (cursors : List ℕ) → x < length cursors → r ≤ records_in t
    → stands t (add_count layout (counts_at t j) x) r → StandsAll stands t j k cursors → StandsAll stands t j k (set cursors x r)
stands_set stands t j k x r cursors inside le here all y yk = ⊎_elim
    (λ e.
    let v : get_or (set cursors x r) y 0 ≡ r = ap (λ i. get_or (set cursors x r) i 0) e ∙ get_or-set_same cursors x r 0 inside in
    (omega (arith, v, le), subst (λ n. stands t (add_count layout (counts_at t j) y) n) (sym v) (subst (λ i. stands t (add_count layout (counts_at t j) i) r) (sym e) here)))
    (λ ne.
    let v : get_or (set cursors x r) y 0 ≡ get_or cursors y 0 = get_or-set_other cursors x y r 0 ne in
    (omega (arith, v, (all y yk).0), subst (λ n. stands t (add_count layout (counts_at t j) y) n) (sym v) (all y yk).1)) (same_or_not y x)

-- every cursor stands at the first record, or behind the last
pub low_start : (t : List ℕ) (j k : ℕ) (cursors : List ℕ) → ((x : ℕ) → x < k → get_or cursors x 0 ≡ 0) → StandsAll Low t j k cursors
low_start t j k cursors zeros x xk = (omega (arith, zeros x xk), λ i lt. absurd (omega (arith, lt, zeros x xk)))

pub high_start : (t : List ℕ) (j k : ℕ) (cursors : List ℕ) → ((x : ℕ) → x < k → get_or cursors x 0 ≡ records_in t) → StandsAll High t j k cursors
high_start t j k cursors last x xk = (omega (arith, last x xk), λ i ge lt. absurd (omega (arith, ge, lt, last x xk)))

-- from record to record
module _ (h : Shape) (moves t log starts places costs : List ℕ) (g : Given h moves t log starts places costs) (j : ℕ) (lt : suc j < records_in t) (cursors : List ℕ) where
  pub low_record : StandsAll Low t j h.k cursors → StandsAll Low t (suc j) h.k cursors
  low_record all x xk = ((all x xk).0, low_next h moves t log starts places costs g j (suc j) x (omega arith) lt xk (get_or cursors x 0) (all x xk).1)

  pub high_record : StandsAll High t (suc j) h.k cursors → StandsAll High t j h.k cursors
  high_record all x xk = ((all x xk).0, high_next h moves t log starts places costs g j (suc j) x (omega arith) lt xk (get_or cursors x 0) (all x xk).1)
