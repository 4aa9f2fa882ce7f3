-- The answer for the codes of events is the answer for the events with their days.
use Rattle.std.specs.Prelude.{Result, Ok, Err}
use mathlib.Core.Path.{◌≡◌, refl, sym, ◌∙◌, ap, ap₂}
use mathlib.Core.Bool.{Bool, true, ◌&&◌}
use mathlib.Core.List.{List, [], ◌∷◌, ◌++◌, map}
use mathlib.Core.Option.{Option, none, some}
use Prim.Native.Nat.{ℕ, ◌≤◌}
use lib.Dec.{eqb}
use lib.ListN.{length, drop, length-map}
use Rattle.profile.specs.Automata.{Profile, automaton}
use Rattle.profile.specs.Traces.{independent}
use Rattle.profile.specs.Rules.{prefixes_by}
use Rattle.profile.specs.Refusals.{full_table, lowest}
use Rattle.profile.specs.declared.Refusal.{Refusal}
use Rattle.profile.specs.declared.Refusal.TheVariants.{FullTable, ShortCosts}
use Rattle.theory.proofs.Refusals.{lowest_append, lowest_first}
use Rattle.terms.specs.Terms.{dated_refusals, events, letter_of, may_in, most_terms, term_count, with_terms}
use Rattle.terms.specs.Coded.{code_letter, code_of, coded_may, rules_of}
use Rattle.terms.proofs.Logs.{coded_looks, coded_order, coded_prefixes, coded_table, letter_of_code, term_of_code}
use Rattle.term_checks.specs.Admission.{dated_admission}
use Rattle.term_checks.proofs.Admission.{dated_admitted, refused_early, refused_late}
use Rattle.verdict.specs.Verdict.{Counted}
use Rattle.closestanswer.specs.Answers.{Close, short_costs, told}
use Rattle.closestanswer.specs.declared.Closest.{Closest}
use Rattle.closestanswer.specs.declared.Closest.TheVariants.{NoOrder, Order}
use Rattle.table.proofs.Filling.{spared_same}
use Rattle.closestfilled.proofs.Answering.{refused_before}
use Rattle.closestterms.specs.Dated.{Promise}
use Rattle.closestterms.proofs.Relabelled.{closest_named, floor_named, swaps_named}
use Rattle.termed_closest.specs.CodedAnswers.{Answered}

-- lists that refuse alike do so with more behind them
lowest_front : (J K L : List (Bool × Refusal)) → lowest J ≡ lowest K → lowest (J ++ L) ≡ lowest (K ++ L)
lowest_front J K L e = go (lowest K) refl
  where
    go : (o : Option Refusal) → lowest K ≡ o → lowest (J ++ L) ≡ lowest (K ++ L)
    go none q = lowest_append J L (e ∙ q) ∙ sym (lowest_append K L q)
    go (some r) q = lowest_first J L (e ∙ q) ∙ sym (lowest_first K L q)

module _ (p : Profile) (w days terms : List ℕ) (B : ℕ) (order table costs : List ℕ) where
  -- refused before the table
  pub told_early : (r : Refusal) → lowest (dated_admission p w days terms (length order)) ≡ some r
      → Promise p w days terms B order order table table costs costs (Err r)
  told_early r e = refused_before (with_terms p terms) (events w days) B order table costs (dated_refusals p w days terms (length order) (length table))
      (refused_early p w days terms (length order) (length table) e) table (λ ne. refl) (spared_same table)

  module _ (e : lowest (dated_admission p w days terms (length order)) ≡ none) (order' table' costs' : List ℕ) where
    abbrev few : term_count terms ≤ most_terms
    few = (dated_admitted p w days terms (length order) e).terms_good.most

    abbrev E : List ℕ
    E = events w days

    same_letter : (x : ℕ) → code_letter (code_of terms x) ≡ letter_of x
    same_letter x = letter_of_code terms few x

    same_may : (x y : ℕ) → coded_may p.masks (code_of terms x) (code_of terms y) ≡ may_in p.masks terms x y
    same_may x y = ap₂ ◌&&◌ (ap₂ eqb (term_of_code terms few x) (term_of_code terms few y)) (ap₂ (independent p.masks) (same_letter x) (same_letter y))

    counted : {P n : ℕ} → Counted (rules_of p true) (map (code_of terms) E) table table' P n → Counted (with_terms p terms) E table table' P n
    counted h = record {
      prefixes = h.prefixes ∙ coded_prefixes p terms E few;
      looks = h.looks ∙ coded_looks p terms E few;
      table = h.table ∙ coded_table p terms E few table;
    }

    close : {c f : ℕ} → Close (rules_of p true) (map (code_of terms) E) B order order' c f → Close (with_terms p terms) E B order order' c f
    close h = record {
      order = h.order;
      is_order = sym (closest_named (may_in p.masks terms) (coded_may p.masks) letter_of code_letter (code_of terms) same_may same_letter (automaton p) E p.k p.s B) ∙ h.is_order;
      written = h.written ∙ ap (λ m. h.order ++ drop m order) (length-map E (code_of terms));
      its_swaps = h.its_swaps ∙ swaps_named (may_in p.masks terms) (coded_may p.masks) letter_of code_letter (code_of terms) same_may same_letter E h.order;
      its_floor = sym (floor_named (may_in p.masks terms) (coded_may p.masks) letter_of code_letter (code_of terms) same_may same_letter (automaton p) E p.k p.s B) ∙ h.its_floor;
    }

    answer : (r : Result Closest Refusal) → told (rules_of p true) (map (code_of terms) E) B order order' table table' costs costs' r → told (with_terms p terms) E B order order' table table' costs costs' r
    answer (Err r) h = h
    answer (Ok (NoOrder P n)) h = (sym (coded_order p terms E few) ∙ h.0, h.1, counted h.2)
    answer (Ok (Order P n c f)) h = (close h.0, counted h.1)

    pub told_late : (r : Result Closest Refusal) → Answered (rules_of p true) (map (code_of terms) E) B order order' table table' costs costs' r
        → Promise p w days terms B order order' table table' costs costs' r
    told_late r h = record {
      refused = h.refused
          ∙ ap (λ P. lowest (((full_table P (length table), FullTable) ∷ []) ++ ((short_costs P p.s (length costs), ShortCosts) ∷ []))) (coded_prefixes p terms E few)
          ∙ lowest_front ((full_table (prefixes_by (with_terms p terms) E) (length table), FullTable) ∷ []) (dated_refusals p w days terms (length order) (length table))
          ((short_costs (prefixes_by (with_terms p terms) E) p.s (length costs), ShortCosts) ∷ []) (refused_late p w days terms (length order) (length table) e);
      tells = answer r h.tells;
    }
