-- The refusal of days and terms, test by test; the codes of the events of a log, place by place.
use borrow.Author.Tests.{eq-eqb, le-leb, lt-leb, ne_eqb}
use mathlib.Core.Path.{◌≡◌, refl, sym, ◌∙◌, ap, ap₂}
use mathlib.Core.Bool.{true, false, not, ◌&&◌, ◌||◌}
use mathlib.Core.Logic.{◌≢◌}
use mathlib.Core.List.Memᴰ
use mathlib.Core.List.{List, [], ◌∷◌, map}
use mathlib.Core.Option.{none, some}
use Prim.Native.Nat.{ℕ, zero, suc, ◌≤◌, ◌<◌}
use native.Mathlib.Nat.{zero-add}
use native.Mathlib.Omega.{arith}
use lib.Dec.{T, leb, ltb, ltb→lt}
use lib.ListN.{length, get_or, length-map}
use lib.Seq.{ext_get_or}
use Rattle.profile.specs.Limits.{most_letters}
use Rattle.profile.specs.Lists.{Mem, any, below}
use Rattle.profile.specs.Refusals.{lowest}
use Rattle.profile.specs.declared.Refusal.TheVariants.{BadDay, BadTerm, NoTerm}
use Rattle.theory.proofs.Counting.{at_map, length_range}
use Rattle.terms.specs.Days.{day_bound, day?}
use Rattle.profile.specs.Traces.{letters_below}
use Rattle.profile.proofs.Lists.{all_at, mem_getd}
use Rattle.terms.proofs.Logs.{events_length}
use Rattle.terms.specs.Terms.{bad_day, bad_term, dated, day_of, events, first_day, last_day, letter_of, no_term, rises?, term_count, term_of, term_refusals}
use Rattle.terms.specs.Coded.{code, code_of}

module _ (w days terms : List ℕ) where
  pub not_many : length days ≢ length w → bad_day w days ≡ true
  not_many h = rw (ne_eqb (length days) (length w) h)

  pub days_tested : length days ≡ length w → bad_day w days ≡ any (λ d. not (day? d)) days
  days_tested h = rw (eq-eqb (length days) (length w) h)

  pub day_refused : bad_day w days ≡ true → some BadDay ≡ lowest (term_refusals w days terms)
  day_refused e = rw (e, lowest)

  module _ (e : bad_day w days ≡ false) where
    pub term_refused : bad_term terms ≡ true → some BadTerm ≡ lowest (term_refusals w days terms)
    term_refused q = rw (e, q, lowest)

    module _ (q : bad_term terms ≡ false) where
      pub outside_refused : no_term days terms ≡ true → some NoTerm ≡ lowest (term_refusals w days terms)
      outside_refused r = rw (e, q, r, lowest)

      pub none_refused : no_term days terms ≡ false → none ≡ lowest (term_refusals w days terms)
      none_refused r = rw (e, q, r, lowest)

-- ---- codes

-- the code at place i
abbrev pub code_at : List ℕ → List ℕ → List ℕ → ℕ → ℕ
code_at w days terms i = code (get_or w i 0) (term_of terms (get_or days i 0))

code_there : (terms w days : List ℕ) → length days ≡ length w → ((d : ℕ) → Mem d days → d < day_bound) → (i : ℕ) → i < length w
    → get_or (map (code_of terms) (events w days)) i 0 ≡ code_at w days terms i
code_there terms [] days e s i h = absurd (omega arith)
code_there terms (a ∷ w) [] e s i h = absurd (omega arith)
code_there terms (a ∷ w) (d ∷ days) e s zero h =
    let lt = s d (Memᴰ.head refl) in
    let l : letter_of (dated a d) ≡ a = omega (arith, lt) in
    let g : day_of (dated a d) ≡ d = omega (arith, lt) in
    ap₂ (λ x y. code x (term_of terms y)) l g
code_there terms (a ∷ w) (d ∷ days) e s (suc i) h = code_there terms w days (omega arith) (λ c m. s c (Memᴰ.tail m)) i (omega arith)

pub codes_are : (w days terms : List ℕ) → length days ≡ length w → ((d : ℕ) → Mem d days → d < day_bound)
    → map (code_at w days terms) (below (length w)) ≡ map (code_of terms) (events w days)
codes_are w days terms many short = ext_get_or 0 (map (code_at w days terms) (below (length w))) (map (code_of terms) (events w days))
    (length_range (code_at w days terms) (length w) 0 ∙ sym (length-map (events w days) (code_of terms) ∙ events_length w days))
    (λ i h.
    let lt : i < length w = omega (arith, length_range (code_at w days terms) (length w) 0) in
    at_map (code_at w days terms) (length w) 0 i lt ∙ ap (code_at w days terms) (zero-add i) ∙ sym (code_there terms w days many short i lt))

pub letter_small : (w : List ℕ) (i : ℕ) → T (letters_below (λ a. a) most_letters w) → i < length w → get_or w i 0 < most_letters
letter_small w i t h = ltb→lt (get_or w i 0) most_letters (all_at (λ a. ltb a most_letters) t (mem_getd w i 0 h))

-- ---- a term that rises, test by test

module _ (terms : List ℕ) (i : ℕ) where
  pub turned_back : last_day terms i < first_day terms i → false ≡ rises? terms i
  turned_back h = sym (ap (λ t. t && (leb (term_count terms) (suc i) || ltb (last_day terms i) (first_day terms (suc i)))) (lt-leb (first_day terms i) (last_day terms i) h))

  module _ (h : first_day terms i ≤ last_day terms i) where
    pub last_rises : term_count terms ≤ suc i → true ≡ rises? terms i
    last_rises le = sym (ap₂ (λ s t. s && (t || ltb (last_day terms i) (first_day terms (suc i)))) (le-leb (first_day terms i) (last_day terms i) h) (le-leb (term_count terms) (suc i) le))

    pub next_after : suc i < term_count terms → ltb (last_day terms i) (first_day terms (suc i)) ≡ rises? terms i
    next_after lt = sym (ap₂ (λ s t. s && (t || ltb (last_day terms i) (first_day terms (suc i)))) (le-leb (first_day terms i) (last_day terms i) h) (lt-leb (term_count terms) (suc i) lt))
