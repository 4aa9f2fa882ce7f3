-- "Every result reached with the old record is reached with the new one wherever its table fits": what a call is told that got a verdict with the record of
-- six numbers. The answer is defined without a record's layout, so it is the answer of that time.
use mathlib.Core.Path.{◌≡◌, sym, ◌∙◌, ap, ap₂}
use Rattle.std.specs.Prelude.{Result, Ok, Err}
use mathlib.Core.List.{List, ◌++◌}
use mathlib.Core.Option.{Option, none, some, none-ne-some, some-injective, some-ne-none}
use Prim.Native.Nat.{ℕ, ◌≤◌}
use lib.ListN.{length, drop}
use Rattle.profile.specs.Automata.{Profile}
use Rattle.profile.specs.Refusals.{lowest}
use Rattle.profile.specs.declared.Refusal.{Refusal}
use Rattle.profile.specs.Tables.{capacity, layout}
use Rattle.theory.proofs.Demands.{looks_of, order_of, prefixes_of}
use Rattle.theory.proofs.OldRecords.{old_judge_refusals, still_judged}
use Rattle.verdict.specs.Verdict.{Promise}
use Rattle.verdict.specs.declared.Judged.{Judged}
use Rattle.verdict.specs.declared.Judged.TheVariants.{NoOrder, Order}

-- the answer to a log with this earliest accepted order, P and looks
abbrev pub answer : Option (List ℕ) → ℕ → ℕ → Result Judged Refusal
answer none P n = Ok (NoOrder P n)
answer (some v) P n = Ok (Order P n)

-- the call was not refused with m numbers for records of six, and P records of ten fit the table
module _ (p : Profile) (w order order' table table' : List ℕ) (m : ℕ) (judged-then : lowest (old_judge_refusals p w (length order) m) ≡ none)
    (fits : prefixes_of p w ≤ capacity layout (length table)) where
  -- verdict, P and looks
  pub still_told : (i : Result Judged Refusal) → Promise p w order order' table table' i → i ≡ answer (order_of p w) (prefixes_of p w) (looks_of p w)
  still_told (Err r) h = absurd (some-ne-none r (h.refused ∙ still_judged p w (length order) m (length table) judged-then fits))
  still_told (Ok (NoOrder P n)) h =
      ap₂ (λ P n. Ok (NoOrder P n)) h.told.2.prefixes h.told.2.looks ∙ sym (ap (λ o. answer o (prefixes_of p w) (looks_of p w)) h.told.0)
  still_told (Ok (Order P n)) h =
      ap₂ (λ P n. Ok (Order P n)) h.told.3.prefixes h.told.3.looks ∙ sym (ap (λ o. answer o (prefixes_of p w) (looks_of p w)) h.told.1)

  -- the order
  pub still_ordered : (i : Result Judged Refusal) → Promise p w order order' table table' i → (v : List ℕ) → order_of p w ≡ some v → order' ≡ v ++ drop (length w) order
  still_ordered (Err r) h v e = absurd (some-ne-none r (h.refused ∙ still_judged p w (length order) m (length table) judged-then fits))
  still_ordered (Ok (NoOrder P n)) h v e = absurd (none-ne-some v (sym h.told.0 ∙ e))
  still_ordered (Ok (Order P n)) h v e =
      h.told.2 ∙ ap (λ u. u ++ drop (length w) order) (some-injective h.told.0 v (sym h.told.1 ∙ e))
