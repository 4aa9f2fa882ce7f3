-- Paper 11 beside the judge with terms: "P never exceeds it, with terms or without". `Promise p w days terms …` is what holds of a call with terms
-- (`termed/specs/Termed`); the ceiling is told for the same k, masks and log, and knows of no terms.
use mathlib.Core.Path.{◌≡◌, refl, sym, ◌∙◌, ap, subst}
use mathlib.Core.Bool.{Bool}
use mathlib.Core.Logic.{◌≢◌}
use mathlib.Core.List.Memᴰ
use mathlib.Core.List.{List, [], ◌∷◌, ◌++◌, append_assoc, map}
use mathlib.Core.Option.{Option, none, some, none-ne-some, some-injective}
use Prim.Native.Nat.{ℕ, ◌*◌, ◌≤◌}
use lib.Dec.{T, eqb}
use lib.ListN.{length}
use Rattle.std.specs.Prelude.{Result, Ok, Err}
use Rattle.profile.specs.Automata.{Profile}
use Rattle.profile.specs.Limits.{record_numbers, usable_numbers}
use Rattle.profile.specs.Lists.{all}
use Rattle.profile.specs.Refusals.{full_table, log_refusals, lowest, profile_refusals, refused_by, short_buffer}
use Rattle.profile.specs.Rules.{prefixes_by}
use Rattle.profile.specs.Traces.{independent}
use Rattle.profile.specs.declared.Refusal.{Refusal}
use Rattle.profile.specs.declared.Refusal.TheVariants.{BadDay, BadTerm, FullTable, NoTerm, ShortBuffer}
use Rattle.profile.proofs.Lists.{snd_of}
use Rattle.theory.proofs.Refusals.{lowest_first, lowest_none}
use Rattle.verdict.specs.declared.Judged.{Judged}
use Rattle.verdict.specs.declared.Judged.TheVariants.{NoOrder, Order}
use Rattle.verdict.proofs.Promises.{told_prefixes}
use Rattle.terms.specs.Terms.{bad_day, bad_term, dated_refusal, dated_refusals, day_of, events, letter_of, may_in, no_term, term_of, with_terms}
use Rattle.terms.proofs.Logs.{days_short, events_letters}
use Rattle.terms.proofs.Meanings.{days_good}
use Rattle.termed.specs.Termed.{Promise}
use Rattle.ceiling.specs.Ceiling.{bounding, told_ceiling}
use Rattle.within.proofs.Within.{not_full, passed?, place_for, prefixes_within, within_by}

-- events in one term are exchanged only where the masks let their letters be
in_terms : (masks terms : List ℕ) (e f : ℕ) → T (may_in masks terms e f) → T (independent masks (letter_of e) (letter_of f))
in_terms masks terms e f t = snd_of (eqb (term_of terms (day_of e)) (term_of terms (day_of f))) (independent masks (letter_of e) (letter_of f)) t

-- ---- the refusals of a call with terms up to 14, and behind it; b says whether 14 applies

module _ (p : Profile) (w days terms : List ℕ) (n m : ℕ) where
  abbrev early : Bool → List (Bool × Refusal)
  early b = profile_refusals p ++ (log_refusals p.k w ++ ((b, BadDay) ∷ []))

  abbrev late : Bool → List (Bool × Refusal)
  late b = (bad_term terms, BadTerm) ∷ (no_term days terms, NoTerm) ∷ (short_buffer n w, ShortBuffer) ∷ (b, FullTable) ∷ []

  regroup : (a b : Bool) → profile_refusals p ++ (log_refusals p.k w ++ ((a, BadDay) ∷ late b)) ≡ early a ++ late b
  regroup a b = simp append_assoc

  abbrev full : Bool
  full = full_table (prefixes_by (with_terms p terms) (events w days)) m

  -- where nothing up to 14 applies, the letters of the events are the log
  letters_told : lowest (early (bad_day w days)) ≡ none → map letter_of (events w days) ≡ w
  letters_told e =
      let f = (lowest_none (early (bad_day w days))).0 e in
      let d = (days_good w days).0 (f _ (Memᴰ.append_right (profile_refusals p) (Memᴰ.append_right (log_refusals p.k w) (Memᴰ.head refl)))) in
      events_letters w days d.0 (days_short days d.1)

  -- so where nothing applies, or the first that does is 10
  letters_at : (o : Option Refusal) → dated_refusal p w days terms n m ≡ o → ((r : Refusal) → o ≡ some r → r ≡ FullTable) → map letter_of (events w days) ≡ w
  unfolding passed?
  letters_at o e h = go (lowest (early (bad_day w days))) refl
    where
      go : (x : Option Refusal) → lowest (early (bad_day w days)) ≡ x → map letter_of (events w days) ≡ w
      go none q = letters_told q
      go (some r) q =
          let a = ap lowest (regroup (bad_day w days) full) ∙ lowest_first (early (bad_day w days)) (late full) q in
          absurd (not_full (early (bad_day w days)) tt (q ∙ ap some (h r (sym e ∙ a))))

module _ (p : Profile) (w days terms groups : List ℕ) (n : ℕ) (told : told_ceiling (bounding p.k p.masks w groups) ≡ some n)
    (order order' table table' : List ℕ) (j : Result Judged Refusal) (h : Promise p w days terms order order' table table' j) where
  -- the letters of the events, where there is a verdict or the call is refused by 10
  letters : ((r : Refusal) → refused_by j ≡ some r → r ≡ FullTable) → map letter_of (events w days) ≡ w
  letters f = letters_at p w days terms (length order) (length table) (refused_by j) (sym h.refused) f

  -- "P never exceeds it": the P that the judge tells, whatever it was lent
  pub within_judged : (P : ℕ) → told_prefixes j ≡ some P → P ≤ n
  within_judged P e = within_by (with_terms p terms) p.masks w groups n told (in_terms p.masks terms) (events w days) (letters (verdict j e)) order order' table table' j h.told P e
    where
      verdict : (i : Result Judged Refusal) → told_prefixes i ≡ some P → (r : Refusal) → refused_by i ≡ some r → r ≡ FullTable
      verdict (Err x) e r q = absurd (none-ne-some P e)
      verdict (Ok (NoOrder Q m)) e r q = absurd (none-ne-some r q)
      verdict (Ok (Order Q m)) e r q = absurd (none-ne-some r q)

  -- with a table of n records, as long as the usable numbers hold them, 10 is not given
  pub table_suffices : record_numbers * n ≤ length table → record_numbers * n ≤ usable_numbers → j ≢ Err FullTable
  unfolding passed?
  table_suffices a b e =
      let l = letters (λ r q. some-injective r FullTable (sym q ∙ ap refused_by e)) in
      let f = place_for (prefixes_by (with_terms p terms) (events w days)) n (length table)
      (prefixes_within (with_terms p terms) p.masks w groups n told (in_terms p.masks terms) (events w days) l) a b in
      not_full (dated_refusals p w days terms (length order) (length table))
      (subst (λ b. T (all passed? (profile_refusals p ++ (log_refusals p.k w ++ ((bad_day w days, BadDay) ∷ late p w days terms (length order) (length table) b)))))
      (sym f) tt) (sym h.refused ∙ ap refused_by e)
