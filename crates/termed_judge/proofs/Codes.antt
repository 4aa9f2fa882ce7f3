-- A call with days and terms, and the codes of its events.
use mathlib.Core.Path.{◌≡◌, refl, sym, ◌∙◌, ap, ap₂}
use mathlib.Core.Bool.{true}
use mathlib.Core.List.{List, [], ◌∷◌, ◌++◌, map}
use mathlib.Core.Option.{none, some}
use Prim.Native.Nat.{ℕ, ◌-◌, ◌≤◌, ◌<◌}
use native.Mathlib.Omega.{arith}
use lib.Dec.{T, ltb, ltb→lt, lt→ltb}
use lib.ListN.{length, drop, length-map, take}
use lib.Seq.{take_at}
use Rattle.std.specs.Prelude.{Result, Ok, Err}
use Rattle.profile.specs.Automata.{Profile}
use Rattle.profile.specs.Limits.{most_letters}
use Rattle.profile.specs.Lists.{all}
use Rattle.profile.specs.Refusals.{full_table, lowest}
use Rattle.profile.specs.declared.Refusal.{Refusal}
use Rattle.profile.specs.declared.Refusal.TheVariants.{FullTable}
use Rattle.profile.proofs.Lists.{all_at, all_of, both}
use Rattle.terms.specs.Terms.{day_of, events, letter_of, most_terms, term_count, with_terms}
use Rattle.terms.specs.Coded.{Coding, code_letter, code_of, code_term, rules_of}
use Rattle.terms.proofs.Logs.{coded_events, coded_looks, coded_order, coded_prefixes, coded_table, dated_events, days_short, events_length, events_letters, letter_of_code, term_of_code, term_small}
use Rattle.turns.specs.Turns.{past_terms}
use Rattle.term_checks.specs.Admission.{dated_admission}
use Rattle.term_checks.proofs.Admission.{DatedAdmitted, dated_admitted, refused_early, refused_late}
use Rattle.verdict.specs.Verdict.{judged}
use Rattle.verdict.specs.declared.Judged.{Judged}
use Rattle.verdict.specs.declared.Judged.TheVariants.{NoOrder, Order}
use Rattle.termed.specs.Termed.{Promise}
use Rattle.termed_judge.specs.CodedCalls.{Answered, CodedCall}

-- ---- a call that nothing but 10 refuses

module _ (p : Profile) (w days terms : List ℕ) {n : ℕ} (a : DatedAdmitted p w days terms n) where
  -- what coding its events asks, with room for m
  pub coding : (m : ℕ) → length w ≤ m → Coding w days terms m
  coding m h = record {
    letters = all_of (λ b. ltb b most_letters) w (λ b i.
        let lt = ltb→lt b p.k (all_at (λ b. ltb b p.k) a.log.letters i) in
        lt→ltb b most_letters (omega (arith, lt, a.profile.relation.most)));
    many = a.many;
    short = days_short days a.dates;
    few = a.terms_good.most;
    room = h;
  }

  abbrev coded : List ℕ
  coded = map (code_of terms) (events w days)

  letters_of_codes : (l : List ℕ) → map letter_of l ≡ map code_letter (map (code_of terms) l)
  letters_of_codes [] = refl
  letters_of_codes (e ∷ l) = ap₂ ◌∷◌ (sym (letter_of_code terms a.terms_good.most e)) (letters_of_codes l)

  terms_small : (l : List ℕ) → T (all (λ e. ltb (code_term e) past_terms) (map (code_of terms) l))
  terms_small [] = tt
  terms_small (e ∷ l) = both (ltb (code_term (code_of terms e)) past_terms) (all (λ e. ltb (code_term e) past_terms) (map (code_of terms) l))
      (lt→ltb (code_term (code_of terms e)) past_terms (small (term_of_code terms a.terms_good.most e) (term_small terms (day_of e) a.terms_good.most)))
      (terms_small l)
    where
      small : {s t : ℕ} → s ≡ t → t ≤ most_terms → s < past_terms
      small q h = omega arith

  -- what the judge of codes asks
  pub coded_call : CodedCall p w coded
  coded_call = record {
    profile = a.profile;
    events = coded_events p terms (events w days) a.terms_good.most a.profile
        (dated_events p w days terms a.profile a.log a.many (days_short days a.dates));
    letters = sym (events_letters w days a.many (days_short days a.dates)) ∙ letters_of_codes (events w days);
    terms = terms_small (events w days);
  }

  pub coded_length : length coded ≡ length w
  coded_length = length-map (events w days) (code_of terms) ∙ events_length w days

  -- the codes stand at the front of their buffer
  pub coded_front : (rest buffer : List ℕ) → buffer ≡ coded ++ rest → take (length w - 0) buffer ≡ coded
  coded_front rest buffer e = ap (take (length w - 0)) e ∙ take_at coded rest (length w - 0) (omega (arith, coded_length))

-- ---- its answer

module _ (p : Profile) (w days terms order table : List ℕ) where
  -- refused before the table
  pub told_early : (r : Refusal) → lowest (dated_admission p w days terms (length order)) ≡ some r → Promise p w days terms order order table table (Err r)
  told_early r e = record { refused = refused_early p w days terms (length order) (length table) e; told = (refl, λ ne. refl, record { long = refl; rest = refl }) }

  module _ (e : lowest (dated_admission p w days terms (length order)) ≡ none) (order' table' : List ℕ) where
    abbrev few : term_count terms ≤ most_terms
    few = (dated_admitted p w days terms (length order) e).terms_good.most

    abbrev E : List ℕ
    E = events w days

    -- the answer for codes is the answer for days
    answer : (r : Result Judged Refusal) → judged (rules_of p true) (map (code_of terms) E) order order' table table' r → judged (with_terms p terms) E order order' table table' r
    answer (Err r) h = h
    answer (Ok (NoOrder P n)) h = (
      sym (coded_order p terms E few) ∙ h.0,
      h.1,
      record {
        prefixes = h.2.prefixes ∙ coded_prefixes p terms E few;
        looks = h.2.looks ∙ coded_looks p terms E few;
        table = h.2.table ∙ coded_table p terms E few table;
      },
    )
    answer (Ok (Order P n)) h = (
      h.0,
      sym (coded_order p terms E few) ∙ h.1,
      h.2 ∙ ap (λ m. h.0 ++ drop m order) (length-map E (code_of terms)),
      record {
        prefixes = h.3.prefixes ∙ coded_prefixes p terms E few;
        looks = h.3.looks ∙ coded_looks p terms E few;
        table = h.3.table ∙ coded_table p terms E few table;
      },
    )

    pub told_late : (r : Result Judged Refusal) → Answered (rules_of p true) (map (code_of terms) E) order order' table table' r → Promise p w days terms order order' table table' r
    told_late r h = record {
      refused = h.refused ∙ ap (λ P. lowest ((full_table P (length table), FullTable) ∷ [])) (coded_prefixes p terms E few) ∙ refused_late p w days terms (length order) (length table) e;
      told = answer r h.told;
    }
