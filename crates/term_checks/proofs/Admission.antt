-- The lowest refusal save 10, check by check; what is known where none applies.
use borrow.Author.Tests.{le-ltb, lt-ltb, ltb-false}
use mathlib.Core.Path.{◌≡◌, refl, sym, ◌∙◌, ap}
use mathlib.Core.Bool.{Bool, false}
use mathlib.Core.List.Memᴰ
use mathlib.Core.List.{List, [], ◌∷◌, ◌++◌, append_assoc}
use mathlib.Core.Option.{none, some}
use Prim.Native.Nat.{ℕ, ◌≤◌, ◌<◌}
use lib.Dec.{T}
use lib.ListN.{length}
use Rattle.profile.specs.Automata.{Profile}
use Rattle.profile.specs.Lists.{Mem}
use Rattle.profile.specs.Rules.{prefixes_by}
use Rattle.profile.specs.Refusals.{full_table, log_refusals, lowest, profile_refusals, short_buffer}
use Rattle.profile.specs.declared.Refusal.{Refusal}
use Rattle.profile.specs.declared.Refusal.TheVariants.{FullTable, ShortBuffer}
use Rattle.theory.proofs.Refusals.{GoodLog, GoodProfile, log_at, lowest_append, lowest_first, lowest_none, profile_at}
use Rattle.terms.specs.Days.{day?}
use Rattle.terms.specs.Terms.{dated_refusal, events, term_refusals, with_terms}
use Rattle.terms.proofs.Meanings.{GoodTerms, days_good, terms_good}
use Rattle.term_checks.specs.Admission.{dated_admission}

module _ (p : Profile) (w days terms : List ℕ) (n : ℕ) where
  abbrev ninth : List (Bool × Refusal)
  ninth = (short_buffer n w, ShortBuffer) ∷ []

  abbrev dated_nine : List (Bool × Refusal)
  dated_nine = term_refusals w days terms ++ ninth

  pub profile_first : {r : Refusal} → lowest (profile_refusals p) ≡ some r → some r ≡ lowest (dated_admission p w days terms n)
  profile_first e = sym (lowest_first (profile_refusals p) (log_refusals p.k w ++ dated_nine) e)

  module _ (good : lowest (profile_refusals p) ≡ none) where
    behind_profile : lowest (dated_admission p w days terms n) ≡ lowest (log_refusals p.k w ++ dated_nine)
    behind_profile = lowest_append (profile_refusals p) (log_refusals p.k w ++ dated_nine) good

    pub log_next : {r : Refusal} → lowest (log_refusals p.k w) ≡ some r → some r ≡ lowest (dated_admission p w days terms n)
    log_next e = sym (behind_profile ∙ lowest_first (log_refusals p.k w) dated_nine e)

    module _ (letters : lowest (log_refusals p.k w) ≡ none) where
      behind_log : lowest (dated_admission p w days terms n) ≡ lowest dated_nine
      behind_log = behind_profile ∙ lowest_append (log_refusals p.k w) dated_nine letters

      pub terms_next : {r : Refusal} → lowest (term_refusals w days terms) ≡ some r → some r ≡ lowest (dated_admission p w days terms n)
      terms_next e = sym (behind_log ∙ lowest_first (term_refusals w days terms) ninth e)

      module _ (dated : lowest (term_refusals w days terms) ≡ none) where
        behind_terms : lowest (dated_admission p w days terms n) ≡ lowest ninth
        behind_terms = behind_log ∙ lowest_append (term_refusals w days terms) ninth dated

        pub buffer_last : n < length w → some ShortBuffer ≡ lowest (dated_admission p w days terms n)
        buffer_last h = sym (behind_terms ∙ rw (lt-ltb n (length w) h, lowest))

        pub none_refused : length w ≤ n → none ≡ lowest (dated_admission p w days terms n)
        none_refused h = sym (behind_terms ∙ rw (le-ltb n (length w) h, lowest))

-- "admitted": no refusal save 10 applies
pub record DatedAdmitted (p : Profile) (w days terms : List ℕ) (n : ℕ) : Type 0 where
  pub profile : GoodProfile p
  pub log : GoodLog p.k w
  pub many : length days ≡ length w
  pub dates : (d : ℕ) → Mem d days → T (day? d)
  pub terms_good : GoodTerms terms
  pub room : length w ≤ n

module _ (p : Profile) (w days terms : List ℕ) (n : ℕ) where
  pub dated_admitted : lowest (dated_admission p w days terms n) ≡ none → DatedAdmitted p w days terms n
  dated_admitted e =
      let f = (lowest_none (dated_admission p w days terms n)).0 e in
      let l = log_refusals p.k w in
      let t = term_refusals w days terms in
      let z : List (Bool × Refusal) = (short_buffer n w, ShortBuffer) ∷ [] in
      let h : (c : Bool × Refusal) → Mem c (term_refusals w days terms) → c.0 ≡ false = λ c i. f c (Memᴰ.append_right (profile_refusals p) (Memᴰ.append_right l (Memᴰ.append_left z i))) in
      let d = (days_good w days).0 (h _ (Memᴰ.head refl)) in
      record {
        profile = profile_at p ((lowest_none (profile_refusals p)).1 (λ c i. f c (Memᴰ.append_left (l ++ (t ++ z)) i)));
        log = log_at p.k w ((lowest_none l).1 (λ c i. f c (Memᴰ.append_right (profile_refusals p) (Memᴰ.append_left (t ++ z) i))));
        many = d.0;
        dates = d.1;
        terms_good = (terms_good terms).0 (h _ (Memᴰ.tail (Memᴰ.head refl)));
        room = ltb-false n (length w) (f _ (Memᴰ.append_right (profile_refusals p) (Memᴰ.append_right l (Memᴰ.append_right t (Memᴰ.head refl)))));
      }

  -- with 10 behind it, it is the list of all refusals
  module _ (m : ℕ) where
    tenth : List (Bool × Refusal)
    tenth = (full_table (prefixes_by (with_terms p terms) (events w days)) m, FullTable) ∷ []

    regroup : lowest (dated_admission p w days terms n ++ tenth) ≡ dated_refusal p w days terms n m
    unfolding tenth
    regroup = ap lowest (append_assoc (profile_refusals p) (log_refusals p.k w ++ (term_refusals w days terms ++ ((short_buffer n w, ShortBuffer) ∷ []))) tenth
        ∙ ap (λ l. profile_refusals p ++ l) (append_assoc (log_refusals p.k w) (term_refusals w days terms ++ ((short_buffer n w, ShortBuffer) ∷ [])) tenth
        ∙ ap (λ l. log_refusals p.k w ++ l) (append_assoc (term_refusals w days terms) ((short_buffer n w, ShortBuffer) ∷ []) tenth)))

    -- one that is refused before is refused so
    pub refused_early : {r : Refusal} → lowest (dated_admission p w days terms n) ≡ some r → some r ≡ dated_refusal p w days terms n m
    unfolding tenth
    refused_early e = sym (lowest_first (dated_admission p w days terms n) tenth e) ∙ regroup

    -- one that is not is refused by 10 or not at all
    pub refused_late : lowest (dated_admission p w days terms n) ≡ none
        → lowest ((full_table (prefixes_by (with_terms p terms) (events w days)) m, FullTable) ∷ []) ≡ dated_refusal p w days terms n m
    unfolding tenth
    refused_late e = sym (lowest_append (dated_admission p w days terms n) tenth e) ∙ regroup
