-- Document 02, Paper 8: demands 1 and 3 as theorems about what the judge with terms promises: `Promise p w days terms order order' table table' r` is what holds
-- of a call with profile p, log w, one of the days for each event, and terms, that was lent `order` and `table`, whatever these held, left `order'` and
-- `table'`, and answered r.
use mathlib.Core.Path.{◌≡◌, refl, subst, subst₂}
use mathlib.Core.Bool.{Bool}
use mathlib.Core.Logic.{◌⊎◌, ◌↔◌, ◌≢◌}
use mathlib.Core.List.Memᴰ
use mathlib.Core.List.{List, [], ◌∷◌, ◌++◌, map}
use mathlib.Core.Option.{none, some}
use Prim.Native.Nat.{ℕ, ◌+◌, ◌*◌, ◌≤◌, ◌<◌}
use lib.ListN.{length, get_or, take, drop}
use Rattle.std.specs.Prelude.{Result, Err}
use Rattle.profile.specs.Traces.{Reachable}
use Rattle.profile.specs.Automata.{Profile}
use Rattle.profile.specs.Tables.{layout, record_length}
use Rattle.profile.specs.Orders.{Earlier, NoLater, Same}
use Rattle.profile.specs.Rules.{prefixes_by}
use Rattle.profile.specs.Refusals.{full_table, log_refusals, profile_refusals, short_buffer}
use Rattle.profile.specs.declared.Refusal.{Refusal}
use Rattle.profile.specs.declared.Refusal.TheVariants.{FullTable, ShortBuffer}
use Rattle.theory.proofs.Refusals.{GoodEvents, log_at, lowest_none, profile_at}
use Rattle.theory.proofs.Calls.{WitnessBy}
use Rattle.terms.specs.Terms.{dated_refusal, dated_refusals, events, letter_of, may_in, term_refusals, with_terms}
use Rattle.terms.proofs.Meanings.{days_good}
use Rattle.terms.proofs.Logs.{dated_events, days_short, events_length}
use Rattle.table.specs.Table.{Spared}
use Rattle.verdict.specs.Verdict.{verdict_number}
use Rattle.verdict.specs.declared.Judged.{Judged}
use Rattle.verdict.proofs.Promises.{counted_reach_by, fields_same_by, judged_reach_by, judged_same_by, no_order_exactly_by, order_exactly_by, refused_exactly_by, told_looks, told_prefixes, verdict_cases_by}
use Rattle.termed.specs.Termed.{Promise}

-- a call that is not refused has good events
pub unrefused_events : (p : Profile) (w days terms : List ℕ) (n m : ℕ) → dated_refusal p w days terms n m ≡ none → GoodEvents (with_terms p terms) (events w days)
unrefused_events p w days terms n m e =
    let f = (lowest_none (dated_refusals p w days terms n m)).0 e in
    let l = log_refusals p.k w in
    let t = term_refusals w days terms in
    let z : List (Bool × Refusal) = (short_buffer n w, ShortBuffer) ∷ (full_table (prefixes_by (with_terms p terms) (events w days)) m, FullTable) ∷ [] in
    let good = profile_at p ((lowest_none (profile_refusals p)).1 (λ c i. f c (Memᴰ.append_left (l ++ (t ++ z)) i))) in
    let log = log_at p.k w ((lowest_none l).1 (λ c i. f c (Memᴰ.append_right (profile_refusals p) (Memᴰ.append_left (t ++ z) i)))) in
    let d = (days_good w days).0 (f _ (Memᴰ.append_right (profile_refusals p) (Memᴰ.append_right l (Memᴰ.head refl)))) in
    dated_events p w days terms good log d.0 (days_short days d.1)

-- ---- demand 1

module _ (p : Profile) (w days terms order order' table table' : List ℕ) where
  -- a call is refused by r exactly when r is the first that applies, 14, 15 and 16 behind 8 and before 9; else there is a verdict
  pub refused_exactly : (j : Result Judged Refusal) → Promise p w days terms order order' table table' j → (r : Refusal)
      → (j ≡ Err r) ↔ (dated_refusal p w days terms (length order) (length table) ≡ some r)
  refused_exactly = refused_exactly_by (with_terms p terms) (events w days) order order' table table' (dated_refusal p w days terms (length order) (length table))

  -- "A refused call changes nothing it was lent, save the work table at refusal 10", and of that the usable numbers alone
  pub refused_unchanged : (r : Refusal) → Promise p w days terms order order' table table' (Err r) → (order' ≡ order) × (r ≢ FullTable → table' ≡ table) × Spared table table'
  refused_unchanged r h = h.told

-- ---- demand 3: a log with terms is its events, each with its day, and these exchanges are inside a term

-- the call is not refused
module _ (p : Profile) (w days terms order order' table table' : List ℕ) (unrefused : dated_refusal p w days terms (length order) (length table) ≡ none) where
  -- there is a verdict, 0 or 1
  pub verdict_cases : (j : Result Judged Refusal) → Promise p w days terms order order' table table' j → (verdict_number j ≡ some 0) ⊎ (verdict_number j ≡ some 1)
  verdict_cases = verdict_cases_by (with_terms p terms) (events w days) order order' table table' (dated_refusal p w days terms (length order) (length table)) unrefused

  -- "The log gets 'no order' exactly when no log reachable from it by exchanges is accepted."
  pub no_order_exactly : (j : Result Judged Refusal) → Promise p w days terms order order' table table' j
      → (verdict_number j ≡ some 0) ↔ ((v : List ℕ) → WitnessBy (with_terms p terms) (events w days) v → ⊥)
  no_order_exactly = no_order_exactly_by (with_terms p terms) (events w days) order order' table table' (dated_refusal p w days terms (length order) (length table)) unrefused

  -- "Otherwise the order returned is reachable from it, accepted, and earlier in letter order than every other log that is both": it is the letters of such
  -- events, and earlier than the letters of all others; the other bytes stay
  pub order_exactly : (j : Result Judged Refusal) → Promise p w days terms order order' table table' j → verdict_number j ≡ some 1
      → ((x : List ℕ) × (map letter_of x ≡ take (length w) order') × WitnessBy (with_terms p terms) (events w days) x)
      × ((u : List ℕ) → WitnessBy (with_terms p terms) (events w days) u → map letter_of u ≢ take (length w) order' → Earlier (take (length w) order') (map letter_of u))
      × (drop (length w) order' ≡ drop (length w) order)
  order_exactly j h e = subst (λ n.
      ((x : List ℕ) × (map letter_of x ≡ take n order') × WitnessBy (with_terms p terms) (events w days) x)
      × ((u : List ℕ) → WitnessBy (with_terms p terms) (events w days) u → map letter_of u ≢ take n order' → Earlier (take n order') (map letter_of u))
      × (drop n order' ≡ drop n order)) (events_length w days)
      (order_exactly_by (with_terms p terms) (events w days) order order' table table' (dated_refusal p w days terms (length order) (length table)) unrefused j h e)

-- "two such logs being judged with the same terms": two calls that are not refused, whatever buffers each was lent
module _ (p : Profile) (terms v days₁ w days₂ order₁ order₁' table₁ table₁' order₂ order₂' table₂ table₂' : List ℕ)
    (first : dated_refusal p v days₁ terms (length order₁) (length table₁) ≡ none) (second : dated_refusal p w days₂ terms (length order₂) (length table₂) ≡ none) where
  good : GoodEvents (with_terms p terms) (events v days₁)
  good = unrefused_events p v days₁ terms (length order₁) (length table₁) first

  good' : GoodEvents (with_terms p terms) (events w days₂)
  good' = unrefused_events p w days₂ terms (length order₂) (length table₂) second

  -- logs with terms that are reachable from each other, "an event's day goes with it": the same verdict, order, P and looks
  module _ (same : Same (may_in p.masks terms) (events v days₁) (events w days₂)) where
    pub judged_same : (i j : Result Judged Refusal) → Promise p v days₁ terms order₁ order₁' table₁ table₁' i → Promise p w days₂ terms order₂ order₂' table₂ table₂' j
        → (verdict_number i ≡ verdict_number j) × (told_prefixes i ≡ told_prefixes j) × (told_looks i ≡ told_looks j)
        × (verdict_number i ≡ some 1 → take (length v) order₁' ≡ take (length w) order₂')
    judged_same i j g h =
        let x = judged_same_by (with_terms p terms) (events v days₁) (events w days₂) good good' order₁ order₁' table₁ table₁' order₂ order₂' table₂ table₂' _ _ first second same i j g h in
        (x.0, x.1, x.2, λ e. subst₂ (λ m n. take m order₁' ≡ take n order₂') (events_length v days₁) (events_length w days₂) (x.3 e))

    -- Paper 5: "leave equal count fields, record by record"
    pub fields_same : (i j : Result Judged Refusal) → Promise p v days₁ terms order₁ order₁' table₁ table₁' i → Promise p w days₂ terms order₂ order₂' table₂ table₂' j
        → (r n : ℕ) → r < prefixes_by (with_terms p terms) (events v days₁) → n < layout.numbers
        → get_or table₁' (record_length layout * r + n) 0 ≡ get_or table₂' (record_length layout * r + n) 0
    fields_same = fields_same_by (with_terms p terms) (events v days₁) (events w days₂) good good' order₁ order₁' table₁ table₁' order₂ order₂' table₂ table₂' _ _ first second same

  -- Paper 4: "If log v is reachable from log w and v has an accepted order, then w has one that is no later in letter order". P of v is at most P of w
  module _ (reach : Reachable (may_in p.masks terms) (events w days₂) (events v days₁)) where
    pub judged_reach : (i j : Result Judged Refusal) → Promise p v days₁ terms order₁ order₁' table₁ table₁' i → Promise p w days₂ terms order₂ order₂' table₂ table₂' j → verdict_number i ≡ some 1
        → (verdict_number j ≡ some 1) × NoLater (take (length w) order₂') (take (length v) order₁')
    judged_reach i j g h e =
        let x = judged_reach_by (with_terms p terms) (events v days₁) (events w days₂) good good' order₁ order₁' table₁ table₁' order₂ order₂' table₂ table₂' _ _ first second reach i j g h e in
        (x.0, subst₂ (λ m n. NoLater (take m order₂') (take n order₁')) (events_length w days₂) (events_length v days₁) x.1)

    pub counted_reach : (i j : Result Judged Refusal) → Promise p v days₁ terms order₁ order₁' table₁ table₁' i → Promise p w days₂ terms order₂ order₂' table₂ table₂' j
        → (P Q : ℕ) → told_prefixes i ≡ some P → told_prefixes j ≡ some Q → P ≤ Q
    counted_reach = counted_reach_by (with_terms p terms) (events v days₁) (events w days₂) good good' order₁ order₁' table₁ table₁' order₂ order₂' table₂ table₂' _ _ first second reach
