-- The costs from each record and state to the end while they are found, from the last record back, letter by letter.
use mathlib.Core.Path.{◌≡◌, refl, sym, ◌∙◌, ap, subst}
use mathlib.Core.Bool.{Bool, true, false, not, cond}
use mathlib.Core.Logic.{inl, inr, ⊎_elim}
use mathlib.Core.List.{List}
use Prim.Native.Nat.{ℕ, suc, ◌+◌, ◌-◌, ◌*◌, ◌≤◌, ◌<◌, min}
use native.Mathlib.Omega.{arith}
use lib.Dec.{T, T_not, leb, le→leb}
use lib.ListN.{length}
use Rattle.profile.specs.Automata.{row}
use Rattle.profile.specs.Traces.{bit}
use Rattle.profile.specs.declared.Shape.{Shape}
use Rattle.profile.proofs.Lists.{both, lt_or_le, snd_of, test}
use Rattle.records.specs.Records.{records_in}
use Rattle.costcells.specs.Cells.{Cleared, Lowered, cost_in, in_row?, none_cost}
use Rattle.costrows.specs.Rows.{LedBack, with_step}
use Rattle.costtable.proofs.Ways.{Costed, Done, Laid, Next, WayOut, cleared_in, cleared_out, cost_after, cost_of, costed_step, done_more, ends, goes_back, row_ends, row_same, same_next}

module _ (h : Shape) (moves log t : List ℕ) where
  -- letter y of record i comes after record j, or before letter x of that record
  abbrev pub After : ℕ → ℕ → ℕ → ℕ → Type 0
  After = Done (λ i j. j < i)

  -- `before` became `costs`: the records after record j are right, and the letters of record j before letter x have led back
  pub record Backward (before costs : List ℕ) (j x : ℕ) : Type 0 where
    pub as_long : length costs ≡ length before
    pub behind : (i : ℕ) → records_in t * h.s ≤ i → cost_in costs i ≡ cost_in before i
    pub finish : (i q : ℕ) → suc i ≡ records_in t → T (bit h.finals q) → cost_of h moves log t costs i q ≡ 0
    pub led : (i y r q q' : ℕ) → Next h moves log t i y r → After i y j x → q < h.s → T (bit (row h.k moves q y) q')
        → cost_of h moves log t costs i q ≤ with_step (cost_of h moves log t costs r q') (cost_after h moves log t i y)
    pub by : (i q : ℕ) → j ≤ i → i < records_in t → q < h.s → Costed (WayOut h moves log t i q) (cost_of h moves log t costs i q)

  module _ (laid : Laid h moves log t) where
    -- the last record
    pub backward_start : (u v v' : List ℕ) (j x : ℕ) → suc j ≡ records_in t → Cleared u v (j * h.s) h.s → Lowered v v' (j * h.s) h.finals 0 → Backward u v' j x
    backward_start u v v' j x last c l = record {
      as_long = l.as_long ∙ c.as_long;
      behind = λ i le.
          let w = row_ends j (records_in t) h.s (omega (arith, last)) in
          not-lowered i (λ y. let b = laid.finals (i - j * h.s) (snd_of (leb (j * h.s) i) (bit h.finals (i - j * h.s)) y) in omega (arith, b, le, w))
          ∙ cleared_out u v (j * h.s) h.s c i (inr (omega (arith, le, w)));
      finish = λ i q e b. let s : i ≡ j = omega (arith, e, last) in ap (λ a. cost_in v' (a * h.s + q)) s ∙ zero-at q b;
      led = λ i y r q q' n b. absurd (⊎_elim (λ lt. omega (arith, lt, n.before, last)) (λ z. omega (arith, z.0, laid.later i y r n, n.inside, last)) b);
      by = λ i q le lt qs.
          let s : i ≡ j = omega (arith, le, lt, last) in
          ⊎_elim
          (λ b. let e = ap (λ a. cost_in v' (a * h.s + q)) s ∙ zero-at q b in
          let w : suc i ≡ records_in t = omega (arith, s, last) in
          inr (0, ends w b, omega arith))
          (λ b. inl (ap (λ a. cost_in v' (a * h.s + q)) s ∙ none_at q qs b)) (test (bit h.finals q));
    }
      where
        not-lowered : (i : ℕ) → (T (in_row? (j * h.s) h.finals i) → ⊥) → cost_in v' i ≡ cost_in v i
        not-lowered i never = l.cells i ∙ go (in_row? (j * h.s) h.finals i) never
          where
            go : (b : Bool) → (T b → ⊥) → cond b (min 0 (cost_in v i)) (cost_in v i) ≡ cost_in v i
            go true n = absurd (n tt)
            go false n = refl

        place : (q : ℕ) → j * h.s + q - j * h.s ≡ q
        place q = omega arith

        zero-at : (q : ℕ) → T (bit h.finals q) → cost_in v' (j * h.s + q) ≡ 0
        zero-at q b = l.cells (j * h.s + q) ∙ go (in_row? (j * h.s) h.finals (j * h.s + q))
            (both (leb (j * h.s) (j * h.s + q)) (bit h.finals (j * h.s + q - j * h.s)) (le→leb (j * h.s) (j * h.s + q) (omega arith))
            (subst (λ z. T (bit h.finals z)) (sym (place q)) b))
          where
            go : (b : Bool) → T b → cond b (min 0 (cost_in v (j * h.s + q))) (cost_in v (j * h.s + q)) ≡ 0
            go true n = omega arith
            go false n = absurd n

        none_at : (q : ℕ) → q < h.s → T (not (bit h.finals q)) → cost_in v' (j * h.s + q) ≡ none_cost
        none_at q qs n =
            not-lowered (j * h.s + q) (λ y. T_not (bit h.finals q) n (subst (λ z. T (bit h.finals z)) (place q)
            (snd_of (leb (j * h.s) (j * h.s + q)) (bit h.finals (j * h.s + q - j * h.s)) y)))
            ∙ cleared_in u v (j * h.s) h.s c (j * h.s + q) (omega arith) (omega (arith, qs))

    -- the row of the record before is cleared
    pub backward_row : (u v v' : List ℕ) (j x : ℕ) → h.k ≤ x → suc j < records_in t → Cleared v v' (j * h.s) h.s → Backward u v (suc j) x → Backward u v' j 0
    backward_row u v v' j x all lt c o = record {
      as_long = c.as_long ∙ o.as_long;
      behind = λ i le. cleared_out v v' (j * h.s) h.s c i (inr (omega (arith, le, row_ends j (records_in t) h.s (omega (arith, lt))))) ∙ o.behind i le;
      finish = λ i q e b. stays i q (omega (arith, e, lt)) ∙ o.finish i q e b;
      led = λ i y r q q' n b qs m. ⊎_elim
          (λ less.
          let a : After i y (suc j) x = ⊎_elim (λ z. inl z) (λ ge. inr (omega (arith, less, ge), omega (arith, n.letter, all))) (lt_or_le (suc j) i) in
          omega (arith, stays i q less, stays r q' (omega (arith, less, laid.later i y r n)), o.led i y r q q' n a qs m))
          (λ z. absurd (omega (arith, z.1))) b;
      by = λ i q le il qs. ⊎_elim
          (λ less. subst (Costed (WayOut h moves log t i q)) (sym (stays i q less)) (o.by i q less il qs))
          (λ ge.
          let s : i ≡ j = omega (arith, le, ge) in
          inl (ap (λ a. cost_in v' (a * h.s + q)) s ∙ cleared_in v v' (j * h.s) h.s c (j * h.s + q) (omega arith) (omega (arith, qs)))) (lt_or_le j i);
    }
      where
        stays : (i q : ℕ) → j < i → cost_in v' (i * h.s + q) ≡ cost_in v (i * h.s + q)
        stays i q less = cleared_out v v' (j * h.s) h.s c (i * h.s + q) (inr (omega (arith, row_ends j i h.s less)))

    -- letter x leads back from record r to record j
    pub backward_led : (u v v' : List ℕ) (j x r : ℕ) → Next h moves log t j x r
        → LedBack v v' (j * h.s) (r * h.s) h.k h.s moves x (cost_after h moves log t j x) h.s → Backward u v j x → Backward u v' j (suc x)
    backward_led u v v' j x r next l o = record {
      as_long = l.as_long ∙ o.as_long;
      behind = λ i le. l.outside i (inr (omega (arith, le, row_ends j (records_in t) h.s next.before))) ∙ o.behind i le;
      finish = λ i q e b. stays i q (omega (arith, e, up, next.inside)) ∙ o.finish i q e b;
      led = λ i y r₂ q q' n b qs m. ⊎_elim
          (λ d. old i y r₂ q q' n d qs m)
          (λ z. now i y r₂ q q' z.0 z.1 n qs m) (done_more (λ i j. j < i) i y j x b);
      by = λ i q le lt qs. ⊎_elim
          (λ e. subst (Costed (WayOut h moves log t i q)) (sym e) (o.by i q le lt qs))
          (λ w. ⊎_elim (λ e. inl e) (λ z. new i q qs z.0 z.1 z.2 z.3 z.4 z.5) w) (l.by (i * h.s + q));
    }
      where
        up : j < r
        up = laid.later j x r next

        -- the rows after record j stay
        stays : (i q : ℕ) → j < i → cost_in v' (i * h.s + q) ≡ cost_in v (i * h.s + q)
        stays i q less = l.outside (i * h.s + q) (inr (omega (arith, row_ends j i h.s less)))

        old : (i y r₂ q q' : ℕ) → Next h moves log t i y r₂ → After i y j x → q < h.s → T (bit (row h.k moves q y) q')
            → cost_in v' (i * h.s + q) ≤ with_step (cost_in v' (r₂ * h.s + q')) (cost_after h moves log t i y)
        old i y r₂ q q' n b lt m =
            let le : j ≤ i = ⊎_elim (λ less. omega (arith, less)) (λ z. omega (arith, z.0)) b in
            omega (arith, l.no_more (i * h.s + q), stays r₂ q' (omega (arith, le, laid.later i y r₂ n)), o.led i y r₂ q q' n b lt m)

        now : (i y r₂ q q' : ℕ) → i ≡ j → y ≡ x → Next h moves log t i y r₂ → q < h.s → T (bit (row h.k moves q y) q')
            → cost_in v' (i * h.s + q) ≤ with_step (cost_in v' (r₂ * h.s + q')) (cost_after h moves log t i y)
        now i y r₂ q q' ei ey n lt m =
            let m' = subst (λ b. T (bit (row h.k moves q b) q')) ey m in
            let same = same_next h moves log t laid ei ey next n in
            omega (
              arith,
              ap (λ a. cost_in v' (a * h.s + q')) same.0,
              l.led q q' lt m',
              stays r q' up,
              ap (λ a. cost_in v' (a * h.s + q)) ei,
              same.1,
            )

        new : (i q : ℕ) → q < h.s → (q₀ r₀ : ℕ) → q₀ < h.s → T (bit (row h.k moves q₀ x) r₀) → i * h.s + q ≡ j * h.s + q₀
            → cost_in v' (i * h.s + q) ≡ with_step (cost_in v (r * h.s + r₀)) (cost_after h moves log t j x) → Costed (WayOut h moves log t i q) (cost_in v' (i * h.s + q))
        new i q qs q₀ r₀ lt m e c =
            let same = row_same i j q q₀ h.s qs lt e in
            costed_step (WayOut h moves log t r r₀) (WayOut h moves log t i q) (cost_in v' (i * h.s + q)) (cost_in v (r * h.s + r₀)) (cost_after h moves log t j x) c
            (λ n way. subst (λ a. WayOut h moves log t a q (n + cost_after h moves log t j x)) (sym same.0)
            (subst (λ b. WayOut h moves log t j b (n + cost_after h moves log t j x)) (sym same.1) (goes_back way next lt m)))
            (o.by r r₀ (omega (arith, up)) next.inside (laid.state q₀ x r₀ lt next.letter m))

    -- letter x leads nowhere
    pub backward_none : (u v : List ℕ) (j x : ℕ) → ((r : ℕ) → Next h moves log t j x r → ⊥) → Backward u v j x → Backward u v j (suc x)
    backward_none u v j x none o = record {
      as_long = o.as_long;
      behind = o.behind;
      finish = o.finish;
      led = λ i y r q q' n b lt m. ⊎_elim
          (λ d. o.led i y r q q' n d lt m)
          (λ z. absurd (none r (subst (λ a. Next h moves log t a x r) z.0 (subst (λ b. Next h moves log t i b r) z.1 n)))) (done_more (λ i j. j < i) i y j x b);
      by = o.by;
    }
