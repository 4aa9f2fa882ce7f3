-- Demands 1 and 3 as theorems about what a judging call promises, whatever its rules: `PromiseBy p w order order' table table' q j` is what holds of a call
-- with the rules p and the events w that was lent `order` and `table`, whatever these held, left `order'` and `table'`, and answered j; q is the refusal that
-- applies, if any.
use mathlib.Core.Path.{◌≡◌, refl, sym, ◌∙◌, ap, subst, subst₂}
use Rattle.std.specs.Prelude.{Result, Ok, Err}
use mathlib.Core.Logic.{◌⊎◌, inl, inr, ◌↔◌, ◌≢◌}
use mathlib.Core.List.{List, [], ◌++◌, map}
use mathlib.Core.Option.{Option, none, some, none-ne-some, some-ne-none, some-injective}
use Prim.Native.Nat.{ℕ, ◌+◌, ◌*◌, ◌≤◌, ◌<◌}
use native.Mathlib.Omega.{arith}
use lib.ListN.{length, get_or, take, drop}
use lib.Seq.{drop_at, take_at}
use Rattle.profile.specs.Traces.{Reachable}
use Rattle.profile.specs.Automata.{automaton}
use Rattle.profile.specs.Rules.{Rules, looks_by, order_by, prefixes_by, table_by}
use Rattle.profile.specs.Tables.{layout, packed, record_length}
use Rattle.profile.specs.Orders.{Earlier, NoLater, Same}
use Rattle.profile.specs.declared.Refusal.{Refusal}
use Rattle.theory.proofs.Calls.{WitnessBy, no_order_by, order_by_earliest, order_by_length, order_by_reach, prefixes_by_reach, same_answer_by}
use Rattle.theory.proofs.Comparison.{by_total_same}
use Rattle.theory.proofs.Refusals.{GoodEvents}
use Rattle.theory.proofs.Tables.{Holds, holds_counts}
use Rattle.profile.specs.Refusals.{refused_by}
use Rattle.verdict.specs.Verdict.{Counted, PromiseBy, judged, verdict_number}
use Rattle.verdict.specs.declared.Judged.{Judged}
use Rattle.verdict.specs.declared.Judged.TheVariants.{NoOrder, Order}

-- P, as it is told
abbrev pub told_prefixes : Result Judged Refusal → Option ℕ
told_prefixes (Err r) = none
told_prefixes (Ok (NoOrder P n)) = some P
told_prefixes (Ok (Order P n)) = some P

-- looks, as it is told
abbrev pub told_looks : Result Judged Refusal → Option ℕ
told_looks (Err r) = none
told_looks (Ok (NoOrder P n)) = some n
told_looks (Ok (Order P n)) = some n

-- the two verdicts are different
zero_one : ◌≡◌ {A = Option ℕ} (some 0) (some 1) → ⊥
zero_one e = let q = some-injective 0 1 e in omega arith

-- ---- one call

module _ (p : Rules) (w order order' table table' : List ℕ) (q : Option Refusal) where
  -- a call is refused by r exactly when r is the refusal that applies; else there is a verdict
  pub refused_exactly_by : (j : Result Judged Refusal) → PromiseBy p w order order' table table' q j → (r : Refusal) → (j ≡ Err r) ↔ (q ≡ some r)
  refused_exactly_by (Err s) h r = ((λ e. sym h.refused ∙ ap refused_by e), λ e. ap Err (some-injective s r (h.refused ∙ e)))
  refused_exactly_by (Ok (NoOrder P n)) h r = ((λ e. sym h.refused ∙ ap refused_by e), λ e. absurd (none-ne-some r (h.refused ∙ e)))
  refused_exactly_by (Ok (Order P n)) h r = ((λ e. sym h.refused ∙ ap refused_by e), λ e. absurd (none-ne-some r (h.refused ∙ e)))

  -- the order's bytes, as many as the log has
  pub order_bytes : (P n : ℕ) (h : PromiseBy p w order order' table table' q (Ok (Order P n))) → take (length w) order' ≡ h.told.0
  order_bytes P n h = ap (take (length w)) h.told.2 ∙ take_at h.told.0 (drop (length w) order) (length w) (order_by_length p w h.told.1)

  -- the call is not refused
  module _ (unrefused : q ≡ none) where
    -- there is a verdict, 0 or 1
    pub verdict_cases_by : (j : Result Judged Refusal) → PromiseBy p w order order' table table' q j → (verdict_number j ≡ some 0) ⊎ (verdict_number j ≡ some 1)
    verdict_cases_by (Err r) h = absurd (some-ne-none r (h.refused ∙ unrefused))
    verdict_cases_by (Ok (NoOrder P n)) h = inl refl
    verdict_cases_by (Ok (Order P n)) h = inr refl

    -- "The log gets 'no order' exactly when no log reachable from it by exchanges is accepted."
    pub no_order_exactly_by : (j : Result Judged Refusal) → PromiseBy p w order order' table table' q j → (verdict_number j ≡ some 0) ↔ ((v : List ℕ) → WitnessBy p w v → ⊥)
    no_order_exactly_by (Err r) h = absurd (some-ne-none r (h.refused ∙ unrefused))
    no_order_exactly_by (Ok (NoOrder P n)) h = ((λ e. (no_order_by p w).0 h.told.0), λ f. refl)
    no_order_exactly_by (Ok (Order P n)) h =
        let x = (order_by_earliest p w h.told.1).0 in ((λ e. absurd (zero_one (sym e))), λ f. absurd (f x.0 x.2))

    -- "Otherwise the order returned is reachable from it, accepted, and earlier in letter order than every other log that is both": it is the letters of such
    -- a log, and earlier than the letters of every other; the other bytes stay
    pub order_exactly_by : (j : Result Judged Refusal) → PromiseBy p w order order' table table' q j → verdict_number j ≡ some 1
        → ((x : List ℕ) × (map p.letter x ≡ take (length w) order') × WitnessBy p w x)
        × ((u : List ℕ) → WitnessBy p w u → map p.letter u ≢ take (length w) order' → Earlier (take (length w) order') (map p.letter u))
        × (drop (length w) order' ≡ drop (length w) order)
    order_exactly_by (Err r) h e = absurd (none-ne-some 1 e)
    order_exactly_by (Ok (NoOrder P n)) h e = absurd (zero_one e)
    order_exactly_by (Ok (Order P n)) h e =
        let front = sym (order_bytes P n h) in
        let x = order_by_earliest p w h.told.1 in (
          (x.0.0, x.0.1 ∙ front, x.0.2),
          (λ u k ne. subst (λ z. Earlier z (map p.letter u)) front (x.1 u k (λ i. ne (i ∙ front)))),
          ap (drop (length w)) h.told.2 ∙ drop_at h.told.0 (drop (length w) order) (length w) (order_by_length p w h.told.1),
        )

    -- what the table holds
    held : GoodEvents p w → (j : Result Judged Refusal) → PromiseBy p w order order' table table' q j
        → Holds layout p.may p.letter (automaton p.profile) p.profile.k w table table'
    held good (Err r) h = absurd (some-ne-none r (h.refused ∙ unrefused))
    held good (Ok (NoOrder P n)) h = record { letters = good.letters; written = h.told.2.table }
    held good (Ok (Order P n)) h = record { letters = good.letters; written = h.told.3.table }

  -- P is the number of prefixes
  count : (j : Result Judged Refusal) → PromiseBy p w order order' table table' q j → (P : ℕ) → told_prefixes j ≡ some P → P ≡ prefixes_by p w
  count (Err r) h P d = absurd (none-ne-some P d)
  count (Ok (NoOrder Q n)) h P d = sym (some-injective Q P d) ∙ h.told.2.prefixes
  count (Ok (Order Q n)) h P d = sym (some-injective Q P d) ∙ h.told.3.prefixes

-- ---- rules and events with the same answers

-- where two rules and their events have the same order, P, looks, table and number of events, what is told of the one is told of the other
pub told_alike : (p r : Rules) (v w : List ℕ) → length v ≡ length w → order_by p v ≡ order_by r w → prefixes_by p v ≡ prefixes_by r w → looks_by p v ≡ looks_by r w
    → (order order' table table' : List ℕ) → table_by p v table ≡ table_by r w table → (j : Result Judged Refusal) → judged p v order order' table table' j → judged r w order order' table table' j
told_alike p r v w l o P n order order' table table' t (Err q) h = h
told_alike p r v w l o P n order order' table table' t (Ok (NoOrder Q m)) h =
    (sym o ∙ h.0, h.1, record { prefixes = h.2.prefixes ∙ P; looks = h.2.looks ∙ n; table = h.2.table ∙ t })
told_alike p r v w l o P n order order' table table' t (Ok (Order Q m)) h = (
  h.0,
  sym o ∙ h.1,
  h.2 ∙ ap (λ i. h.0 ++ drop i order) l,
  record { prefixes = h.3.prefixes ∙ P; looks = h.3.looks ∙ n; table = h.3.table ∙ t },
)

-- ---- two calls with the same rules that are not refused, whatever buffers each was lent

module _ (p : Rules) (v w : List ℕ) (good : GoodEvents p v) (good' : GoodEvents p w) (order₁ order₁' table₁ table₁' order₂ order₂' table₂ table₂' : List ℕ)
    (q₁ q₂ : Option Refusal) (first : q₁ ≡ none) (second : q₂ ≡ none) where
  -- "Any two such logs … that are reachable from each other get the same verdict, the same order if there is one, and the same prefix count …, whatever
  -- buffers each was lent." "Logs reachable from each other then also show equal looks" (document 02, Paper 2)
  module _ (same : Same p.may v w) where
    answers : (order_by p v ≡ order_by p w) × (prefixes_by p v ≡ prefixes_by p w) × (looks_by p v ≡ looks_by p w)
    answers = same_answer_by p v w good good' same

    counted_same : {P Q n m : ℕ} → Counted p v table₁ table₁' P n → Counted p w table₂ table₂' Q m → (P ≡ Q) × (n ≡ m)
    counted_same g h = (g.prefixes ∙ answers.1 ∙ sym h.prefixes, g.looks ∙ answers.2 ∙ sym h.looks)

    pub judged_same_by : (i j : Result Judged Refusal) → PromiseBy p v order₁ order₁' table₁ table₁' q₁ i → PromiseBy p w order₂ order₂' table₂ table₂' q₂ j
        → (verdict_number i ≡ verdict_number j) × (told_prefixes i ≡ told_prefixes j) × (told_looks i ≡ told_looks j)
        × (verdict_number i ≡ some 1 → take (length v) order₁' ≡ take (length w) order₂')
    judged_same_by (Err r) j g h = absurd (some-ne-none r (g.refused ∙ first))
    judged_same_by (Ok (NoOrder P n)) (Err r) g h = absurd (some-ne-none r (h.refused ∙ second))
    judged_same_by (Ok (NoOrder P n)) (Ok (NoOrder Q m)) g h =
        let c = counted_same g.told.2 h.told.2 in (refl, ap some c.0, ap some c.1, λ e. absurd (zero_one e))
    judged_same_by (Ok (NoOrder P n)) (Ok (Order Q m)) g h = absurd (none-ne-some _ (sym g.told.0 ∙ answers.0 ∙ h.told.1))
    judged_same_by (Ok (Order P n)) (Err r) g h = absurd (some-ne-none r (h.refused ∙ second))
    judged_same_by (Ok (Order P n)) (Ok (NoOrder Q m)) g h = absurd (none-ne-some _ (sym h.told.0 ∙ sym answers.0 ∙ g.told.1))
    judged_same_by (Ok (Order P n)) (Ok (Order Q m)) g h = let c = counted_same g.told.3 h.told.3 in (refl, ap some c.0, ap some c.1, λ e. bytes)
      where
        bytes : take (length v) order₁' ≡ take (length w) order₂'
        bytes =
            order_bytes p v order₁ order₁' table₁ table₁' q₁ P n g ∙ some-injective g.told.0 h.told.0 (sym g.told.1 ∙ answers.0 ∙ h.told.1)
            ∙ sym (order_bytes p w order₂ order₂' table₂ table₂' q₂ Q m h)

    -- Paper 5: "Logs reachable from each other in both directions must, where both get a verdict, leave equal count fields, record by record"
    pub fields_same_by : (i j : Result Judged Refusal) → PromiseBy p v order₁ order₁' table₁ table₁' q₁ i → PromiseBy p w order₂ order₂' table₂ table₂' q₂ j
        → (r n : ℕ) → r < prefixes_by p v → n < layout.numbers
        → get_or table₁' (record_length layout * r + n) 0 ≡ get_or table₂' (record_length layout * r + n) 0
    fields_same_by i j g h r n hr hn =
        holds_counts (held p v order₁ order₁' table₁ table₁' q₁ first good i g) r n hr hn
        ∙ ap (λ l. get_or (packed layout (get_or l r [])) n 0)
        (by_total_same p.letter (automaton p.profile) p.may same.0 same.1 good.apart p.profile.k good.letters good'.letters)
        ∙ sym (holds_counts (held p w order₂ order₂' table₂ table₂' q₂ second good' j h) r n (omega (arith, answers.1)) hn)

  -- Paper 4: "If log v is reachable from log w and v has an accepted order, then w has one that is no later in letter order"; P of v is at most P of w
  module _ (reach : Reachable p.may w v) where
    pub judged_reach_by : (i j : Result Judged Refusal) → PromiseBy p v order₁ order₁' table₁ table₁' q₁ i → PromiseBy p w order₂ order₂' table₂ table₂' q₂ j → verdict_number i ≡ some 1
        → (verdict_number j ≡ some 1) × NoLater (take (length w) order₂') (take (length v) order₁')
    judged_reach_by (Err r) j g h e = absurd (none-ne-some 1 e)
    judged_reach_by (Ok (NoOrder P n)) j g h e = absurd (zero_one e)
    judged_reach_by (Ok (Order P n)) (Err r) g h e = absurd (some-ne-none r (h.refused ∙ second))
    judged_reach_by (Ok (Order P n)) (Ok (NoOrder Q m)) g h e = absurd (none-ne-some _ (sym h.told.0 ∙ (order_by_reach p v w reach g.told.1).1))
    judged_reach_by (Ok (Order P n)) (Ok (Order Q m)) g h e =
        let x = order_by_reach p v w reach g.told.1 in
        let a = order_bytes p v order₁ order₁' table₁ table₁' q₁ P n g in
        let b = order_bytes p w order₂ order₂' table₂ table₂' q₂ Q m h ∙ some-injective h.told.0 x.0 (sym h.told.1 ∙ x.1) in
        (refl, subst₂ NoLater (sym b) (sym a) x.2)

    pub counted_reach_by : (i j : Result Judged Refusal) → PromiseBy p v order₁ order₁' table₁ table₁' q₁ i → PromiseBy p w order₂ order₂' table₂ table₂' q₂ j
        → (P Q : ℕ) → told_prefixes i ≡ some P → told_prefixes j ≡ some Q → P ≤ Q
    counted_reach_by i j g h P Q d e = omega (
      arith,
      count p v order₁ order₁' table₁ table₁' q₁ i g P d,
      count p w order₂ order₂' table₂ table₂' q₂ j h Q e,
      prefixes_by_reach p v w good reach,
    )
