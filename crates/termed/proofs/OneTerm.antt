-- Document 02, Paper 8, against document 01: the judge without terms is the judge with one term that holds every day.
use mathlib.Core.Path.{◌≡◌, refl, sym, ◌∙◌, ap, subst}
use mathlib.Core.Bool.{Bool, false}
use mathlib.Core.Logic.{◌↔◌, ⊎_elim}
use mathlib.Core.List.{List, [], ◌∷◌, ◌++◌, append_assoc}
use Prim.Native.Nat.{ℕ, ◌/◌, ◌%◌, ◌≤◌, ◌<◌}
use native.Mathlib.Omega.{arith}
use lib.Dec.{T, leb, le→leb}
use lib.ListN.{length}
use Rattle.std.specs.Prelude.{Result}
use Rattle.profile.specs.Automata.{Profile}
use Rattle.profile.specs.Lists.{Mem}
use Rattle.profile.specs.Rules.{plain, prefixes_by}
use Rattle.profile.specs.Refusals.{full_table, judge_refusal, log_refusals, lowest, profile_refusals, short_buffer}
use Rattle.profile.specs.declared.Refusal.{Refusal}
use Rattle.profile.specs.declared.Refusal.TheVariants.{BadDay, BadTerm, FullTable, NoTerm, ShortBuffer}
use Rattle.profile.proofs.Lists.{both, lt_or_le}
use Rattle.terms.specs.Days.{Date, day_number, day?, month_days}
use Rattle.terms.specs.Terms.{bad_day, bad_term, dated_refusal, events, in_term?, no_term, term_count, term_of, with_terms}
use Rattle.terms.proofs.Dates.{date_test}
use Rattle.terms.proofs.Meanings.{days_good, days_inside, term_is, terms_good}
use Rattle.terms.proofs.Logs.{Short, days_short, events_length, one_looks, one_order, one_prefixes, one_table}
use Rattle.verdict.specs.Verdict as Plain
use Rattle.verdict.specs.declared.Judged.{Judged}
use Rattle.verdict.proofs.Judging.{lowest_skip}
use Rattle.verdict.proofs.Promises.{told_alike}
use Rattle.termed.specs.Termed.{Promise}

-- days and terms are right, and every day is in term i
module _ (p : Profile) (w days terms : List ℕ) (dated : bad_day w days ≡ false) (right : bad_term terms ≡ false)
    (i : ℕ) (one_of_lem : i < term_count terms) (inside : (d : ℕ) → Mem d days → T (in_term? terms d i)) where
  many : length days ≡ length w
  many = ((days_good w days).0 dated).0

  short : Short days
  short = days_short days ((days_good w days).0 dated).1

  one : (d : ℕ) → Mem d days → term_of terms d ≡ i
  one d m = term_is terms ((terms_good terms).0 right) d i one_of_lem (inside d m)

  module _ (n m : ℕ) where
    -- the conditions of a call, by those of 14, 15 and 16 and by P
    abbrev conditions : Bool → Bool → Bool → ℕ → List (Bool × Refusal)
    conditions a b c P = profile_refusals p ++ (log_refusals p.k w
        ++ ((a, BadDay) ∷ (b, BadTerm) ∷ (c, NoTerm) ∷ (short_buffer n w, ShortBuffer) ∷ (full_table P m, FullTable) ∷ []))

    -- what refuses the one call refuses the other
    same_refusal : dated_refusal p w days terms n m ≡ judge_refusal p w n m
    same_refusal =
        let early = profile_refusals p ++ log_refusals p.k w in
        let P = prefixes_by (plain p) w in
        let late : List (Bool × Refusal) = (short_buffer n w, ShortBuffer) ∷ (full_table P m, FullTable) ∷ [] in
        let none-outside : no_term days terms ≡ false = (days_inside days terms).1 (λ d h. (i, one_of_lem, inside d h)) in
        ap (λ a. lowest (conditions a (bad_term terms) (no_term days terms) (prefixes_by (with_terms p terms) (events w days)))) dated
        ∙ ap (λ b. lowest (conditions false b (no_term days terms) (prefixes_by (with_terms p terms) (events w days)))) right
        ∙ ap (λ c. lowest (conditions false false c (prefixes_by (with_terms p terms) (events w days)))) none-outside
        ∙ ap (λ P. lowest (conditions false false false P)) (one_prefixes p terms w days many short i one)
        ∙ ap lowest (sym (append_assoc (profile_refusals p) (log_refusals p.k w) ((false, BadDay) ∷ (false, BadTerm) ∷ (false, NoTerm) ∷ late)))
        ∙ lowest_skip early ((false, BadTerm) ∷ (false, NoTerm) ∷ late) BadDay
        ∙ lowest_skip early ((false, NoTerm) ∷ late) BadTerm
        ∙ lowest_skip early late NoTerm
        ∙ ap lowest regroup
      where
        regroup : (profile_refusals p ++ log_refusals p.k w) ++ ((short_buffer n w, ShortBuffer) ∷ (full_table (prefixes_by (plain p) w) m, FullTable) ∷ [])
            ≡ (profile_refusals p ++ (log_refusals p.k w ++ ((short_buffer n w, ShortBuffer) ∷ []))) ++ ((full_table (prefixes_by (plain p) w) m, FullTable) ∷ [])
        regroup = simp append_assoc

  -- what the judge with these terms promises is what the judge without terms promises: refusal, verdict, order, P, looks and table
  pub one_term_promise : (order order' table table' : List ℕ) (j : Result Judged Refusal)
      → Promise p w days terms order order' table table' j ↔ Plain.Promise p w order order' table table' j
  one_term_promise order order' table table' j =
      let r = with_terms p terms in
      let E = events w days in
      let q = same_refusal (length order) (length table) in
      let o = one_order p terms w days many short i one in
      let P = one_prefixes p terms w days many short i one in
      let l = one_looks p terms w days many short i one in
      let t = one_table p terms w days many short i one table in
      let n = events_length w days in (
        λ h. record { refused = h.refused ∙ q; told = told_alike r (plain p) E w n o P l order order' table table' t j h.told },
        λ h. record { refused = h.refused ∙ sym q; told = told_alike (plain p) r w E (sym n) (sym o) (sym P) (sym l) order order' table table' (sym t) j h.told },
      )

-- ---- the term of all dates

abbrev pub every_day : List ℕ
every_day = day_number 1900 1 1 ∷ day_number 2199 12 31 ∷ []

-- each date is in it: December has 31 days
in_every_day : (n : ℕ) → T (day? n) → T (in_term? every_day n 0)
in_every_day n h =
    let g = (date_test (n / 10000) (n / 100 % 100) (n % 100)).0 h in
    let high : n ≤ 21991231 = ⊎_elim (λ l. omega (arith, g.year.1)) (λ l. december g l) (lt_or_le (n / 100 % 100) 12) in
    both (leb 19000101 n) (leb n 21991231) (le→leb 19000101 n (omega (arith, g.year.0, g.month.0, g.day.0))) (le→leb n 21991231 high)
  where
    december : Date (n / 10000) (n / 100 % 100) (n % 100) → 12 ≤ n / 100 % 100 → n ≤ 21991231
    december g l =
        let e : n / 100 % 100 ≡ 12 = omega (arith, g.month.1) in
        omega (arith, g.year.1, e, subst (λ m. n % 100 ≤ month_days (n / 10000) m) e g.day.1)

pub every_day_promise : (p : Profile) (w days : List ℕ) → bad_day w days ≡ false → (order order' table table' : List ℕ) (j : Result Judged Refusal)
    → Promise p w days every_day order order' table table' j ↔ Plain.Promise p w order order' table table' j
every_day_promise p w days dated = one_term_promise p w days every_day dated refl 0 (omega arith) (λ d m. in_every_day d (((days_good w days).0 dated).1 d m))
