-- The costs to each record and state while they are found, record by record and letter by letter.
use mathlib.Core.Path.{◌≡◌, sym, ◌∙◌, ap, subst}
use mathlib.Core.Logic.{inl, inr, ⊎_elim, ◌≢◌}
use mathlib.Core.List.{List}
use Prim.Native.Nat.{ℕ, suc, ◌+◌, ◌*◌, ◌≤◌, ◌<◌, min}
use native.Mathlib.Omega.{arith}
use lib.Arith.{digits_lt}
use lib.Dec.{T}
use lib.ListN.{length, get_or, set, length-set}
use lib.Seq.{get_or-set_other, get_or-set_same}
use Rattle.profile.specs.Automata.{row}
use Rattle.profile.specs.Traces.{bit}
use Rattle.profile.specs.declared.Shape.{Shape}
use Rattle.profile.proofs.Lists.{lt_or_le}
use Rattle.records.specs.Records.{records_in}
use Rattle.costcells.specs.Cells.{Cleared, cost_in, none_cost}
use Rattle.costrows.specs.Rows.{LedOn, with_step}
use Rattle.costtable.proofs.Ways.{Costed, Done, Laid, Next, Way, begins, cleared_in, cleared_out, cost_after, cost_of, costed_step, done_more, goes_on, row_ends, row_same, same_next, same_or_not}

module _ (h : Shape) (moves log t : List ℕ) where
  -- letter y of record i comes before letter x of record j
  abbrev pub Before : ℕ → ℕ → ℕ → ℕ → Type 0
  Before = Done (λ i j. i < j)

  -- `before` became `costs`: the letters before letter x of record j have led on
  pub record Onward (before costs : List ℕ) (j x : ℕ) : Type 0 where
    pub as_long : length costs ≡ length before
    pub behind : (i : ℕ) → records_in t * h.s ≤ i → cost_in costs i ≡ cost_in before i
    pub start : cost_of h moves log t costs 0 h.start ≡ 0
    pub led : (i y r q q' : ℕ) → Next h moves log t i y r → Before i y j x → q < h.s → T (bit (row h.k moves q y) q')
        → cost_of h moves log t costs r q' ≤ with_step (cost_of h moves log t costs i q) (cost_after h moves log t i y)
    pub by : (i q : ℕ) → i < records_in t → q < h.s → Costed (Way h moves log t i q) (cost_of h moves log t costs i q)

  module _ (laid : Laid h moves log t) where
    -- all is none but the start
    pub onward_start : (u v v' : List ℕ) → Cleared u v 0 (records_in t * h.s) → v' ≡ set v h.start (min 0 (get_or v h.start none_cost))
        → records_in t * h.s ≤ length u → Onward u v' 0 0
    onward_start u v v' c e room = record {
      as_long = ap length e ∙ length-set v h.start (min 0 (get_or v h.start none_cost)) ∙ c.as_long;
      behind = λ i le. other i (λ q. omega (arith, q, le, first)) ∙ cleared_out u v 0 (records_in t * h.s) c i (inr (omega (arith, le)));
      start = here (0 * h.s + h.start) (omega arith);
      led = λ i y r q q' n b. ⊎_elim (λ lt. absurd (omega (arith, lt))) (λ z. absurd (omega (arith, z.1))) b;
      by = λ i q lt qs. ⊎_elim
          (λ s.
          let z : 0 * h.s + h.start ≡ h.start = omega arith in
          let w = row_same i 0 q h.start h.s qs laid.start (s ∙ sym z) in
          let way : Way h moves log t i q 0 = subst (λ a. Way h moves log t a q 0) (sym w.0) (subst (λ b. Way h moves log t 0 b 0) (sym w.1) begins) in
          inr (0, way, omega arith))
          (λ ne.
          let in_row = digits_lt lt qs in
          inl (other (i * h.s + q) ne ∙ cleared_in u v 0 (records_in t * h.s) c (i * h.s + q) (omega arith) (omega (arith, in_row))))
          (same_or_not (i * h.s + q) h.start);
    }
      where
        first : h.start < records_in t * h.s
        first = omega (arith, row_ends 0 (records_in t) h.s laid.some, laid.start)

        other : (i : ℕ) → i ≢ h.start → cost_in v' i ≡ cost_in v i
        other i ne = ap (λ z. cost_in z i) e ∙ get_or-set_other v h.start i (min 0 (get_or v h.start none_cost)) none_cost ne

        here : (i : ℕ) → i ≡ h.start → cost_in v' i ≡ 0
        here i q =
            let s = get_or-set_same v h.start (min 0 (get_or v h.start none_cost)) none_cost (omega (arith, first, room, c.as_long)) in
            omega (arith, ap (cost_in v') q, ap (λ z. cost_in z h.start) e, s)

    -- letter x leads from record j to record r
    pub onward_led : (u v v' : List ℕ) (j x r : ℕ) → Next h moves log t j x r
        → LedOn v v' (j * h.s) (r * h.s) h.k h.s moves x (cost_after h moves log t j x) h.s → Onward u v j x → Onward u v' j (suc x)
    onward_led u v v' j x r next l o = record {
      as_long = l.as_long ∙ o.as_long;
      behind = λ i le. l.outside i (inr (omega (arith, le, row_ends r (records_in t) h.s next.inside))) ∙ o.behind i le;
      start = omega (arith, l.no_more (0 * h.s + h.start), o.start);
      led = λ i y r₂ q q' n b lt m. ⊎_elim (λ d. old i y r₂ q q' n d lt m) (λ z. now i y r₂ q q' z.0 z.1 n lt m) (done_more (λ i j. i < j) i y j x b);
      by = λ i q lt qs. ⊎_elim
          (λ e. subst (Costed (Way h moves log t i q)) (sym e) (o.by i q lt qs))
          (λ z. new i q qs z.0 z.1 z.2 z.3 z.4 z.5) (l.by (i * h.s + q));
    }
      where
        cells : List ℕ → ℕ → ℕ → ℕ
        cells = cost_of h moves log t

        up : j < r
        up = laid.later j x r next

        -- the rows up to record j stay
        stays : (i q : ℕ) → i ≤ j → q < h.s → cost_in v' (i * h.s + q) ≡ cost_in v (i * h.s + q)
        stays i q le lt = l.outside (i * h.s + q) (inl (omega (arith, lt, row_ends i r h.s (omega (arith, le, up)))))

        old : (i y r₂ q q' : ℕ) → Next h moves log t i y r₂ → Before i y j x → q < h.s → T (bit (row h.k moves q y) q')
            → cost_in v' (r₂ * h.s + q') ≤ with_step (cost_in v' (i * h.s + q)) (cost_after h moves log t i y)
        old i y r₂ q q' n b lt m =
            let le : i ≤ j = ⊎_elim (λ less. omega (arith, less)) (λ z. omega (arith, z.0)) b in
            omega (arith, l.no_more (r₂ * h.s + q'), o.led i y r₂ q q' n b lt m, stays i q le lt)

        now : (i y r₂ q q' : ℕ) → i ≡ j → y ≡ x → Next h moves log t i y r₂ → q < h.s → T (bit (row h.k moves q y) q')
            → cost_in v' (r₂ * h.s + q') ≤ with_step (cost_in v' (i * h.s + q)) (cost_after h moves log t i y)
        now i y r₂ q q' ei ey n lt m =
            let m' = subst (λ b. T (bit (row h.k moves q b) q')) ey m in
            let same = same_next h moves log t laid ei ey next n in
            omega (
              arith,
              ap (λ a. cost_in v' (a * h.s + q')) same.0,
              l.led q q' lt m',
              stays j q (omega arith) lt,
              ap (λ a. cost_in v' (a * h.s + q)) ei,
              same.1,
            )

        new : (i q : ℕ) → q < h.s → (q₀ r₀ : ℕ) → q₀ < h.s → T (bit (row h.k moves q₀ x) r₀) → i * h.s + q ≡ r * h.s + r₀
            → cost_in v' (i * h.s + q) ≡ with_step (cost_in v (j * h.s + q₀)) (cost_after h moves log t j x) → Costed (Way h moves log t i q) (cost_in v' (i * h.s + q))
        new i q qs q₀ r₀ lt m e c =
            let same = row_same i r q r₀ h.s qs (laid.state q₀ x r₀ lt next.letter m) e in
            costed_step (Way h moves log t j q₀) (Way h moves log t i q) (cost_in v' (i * h.s + q)) (cost_in v (j * h.s + q₀)) (cost_after h moves log t j x) c
            (λ n way. subst (λ a. Way h moves log t a q (n + cost_after h moves log t j x)) (sym same.0)
            (subst (λ b. Way h moves log t r b (n + cost_after h moves log t j x)) (sym same.1) (goes_on way next lt m)))
            (o.by j q₀ next.before lt)

    -- letter x leads nowhere
    pub onward_none : (u v : List ℕ) (j x : ℕ) → ((r : ℕ) → Next h moves log t j x r → ⊥) → Onward u v j x → Onward u v j (suc x)
    onward_none u v j x none o = record {
      as_long = o.as_long;
      behind = o.behind;
      start = o.start;
      led = λ i y r q q' n b lt m. ⊎_elim
          (λ d. o.led i y r q q' n d lt m)
          (λ z. absurd (none r (subst (λ a. Next h moves log t a x r) z.0 (subst (λ b. Next h moves log t i b r) z.1 n)))) (done_more (λ i j. i < j) i y j x b);
      by = o.by;
    }

    -- all letters of record j have led on
    pub onward_record : (u v : List ℕ) (j x : ℕ) → h.k ≤ x → Onward u v j x → Onward u v (suc j) 0
    onward_record u v j x all o = record {
      as_long = o.as_long;
      behind = o.behind;
      start = o.start;
      led = λ i y r q q' n b lt m. ⊎_elim
          (λ less. ⊎_elim (λ low. o.led i y r q q' n (inl low) lt m) (λ ge. o.led i y r q q' n (inr (omega (arith, less, ge), omega (arith, n.letter, all))) lt m) (lt_or_le i j))
          (λ z. absurd (omega (arith, z.1))) b;
      by = o.by;
    }
