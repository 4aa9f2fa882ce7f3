-- Logs with terms: what the laws of prefixes and tables ask of their events; the same events as codes, and as letters where all days are in one term.
use mathlib.Core.Path.{◌≡◌, refl, sym, ◌∙◌, ap, ap₂, subst}
use mathlib.Core.Bool.{Bool, true, ◌&&◌}
use mathlib.Core.List.Memᴰ
use mathlib.Core.List.{List, [], ◌∷◌, map}
use Prim.Native.Nat.{ℕ, suc, ◌≤◌, ◌<◌}
use native.Mathlib.Omega.{arith}
use lib.Dec.{T, eqb, eqb→eq, eqb_refl, ltb}
use lib.ListN.{length, length-map}
use Rattle.profile.specs.Lists.{Mem, all}
use Rattle.profile.specs.Traces.{independent}
use Rattle.profile.specs.Automata.{Profile, automaton}
use Rattle.profile.specs.Tables.{layout}
use Rattle.profile.specs.Rules.{looks_by, order_by, plain, prefixes_by, table_by}
use Rattle.profile.proofs.Lists.{all_at, all_of, both, fst_of, is_true, snd_of}
use Rattle.theory.proofs.Profiles.{distinct}
use Rattle.theory.proofs.Refusals.{GoodEvents, GoodLog, GoodProfile}
use Rattle.terms.specs.Days.{day_bound, day?}
use Rattle.terms.specs.Terms.{dated, day_of, events, in_term?, letter_of, may_in, most_terms, term_count, term_of, with_terms}
use Rattle.terms.specs.Coded.{code, code_letter, code_of, code_term, coded_may, rules_of}
use Rattle.terms.proofs.Dates.{day_small}
use Rattle.terms.proofs.Meanings.{first_most}
use Rattle.terms.proofs.Relabelling.{accepted_order_named, looks_named, prefix_count_named, table_named}

-- ---- the events of a log and its days

pub events_length : (w days : List ℕ) → length (events w days) ≡ length w
events_length [] days = refl
events_length (a ∷ w) [] = ap suc (events_length w [])
events_length (a ∷ w) (d ∷ days) = ap suc (events_length w days)

-- days of at most eight digits
abbrev pub Short : List ℕ → Type 0
Short days = (d : ℕ) → Mem d days → d < day_bound

pub days_short : (days : List ℕ) → ((d : ℕ) → Mem d days → T (day? d)) → Short days
days_short days h d m = day_small d (h d m)

-- of every event: its letter is that of the log, its day the one beside it
pub events_all : (p : ℕ → ℕ → Bool) (w days : List ℕ) → length days ≡ length w → Short days → ((a d : ℕ) → Mem a w → Mem d days → T (p a d))
    → T (all (λ e. p (letter_of e) (day_of e)) (events w days))
events_all p [] days e s h = tt
events_all p (a ∷ w) [] e s h = absurd (omega arith)
events_all p (a ∷ w) (d ∷ days) e s h =
    let lt = s d (Memᴰ.head refl) in
    let l : letter_of (dated a d) ≡ a = omega (arith, lt) in
    let g : day_of (dated a d) ≡ d = omega (arith, lt) in
    both (p (letter_of (dated a d)) (day_of (dated a d))) (all (λ e. p (letter_of e) (day_of e)) (events w days))
    (subst (λ x. T (p x (day_of (dated a d)))) (sym l) (subst (λ x. T (p a x)) (sym g) (h a d (Memᴰ.head refl) (Memᴰ.head refl))))
    (events_all p w days (omega arith) (λ c m. s c (Memᴰ.tail m)) (λ b c m n. h b c (Memᴰ.tail m) (Memᴰ.tail n)))

pub events_letters : (w days : List ℕ) → length days ≡ length w → Short days → map letter_of (events w days) ≡ w
events_letters [] days e s = refl
events_letters (a ∷ w) [] e s = absurd (omega arith)
events_letters (a ∷ w) (d ∷ days) e s =
    let lt = s d (Memᴰ.head refl) in
    let l : letter_of (dated a d) ≡ a = omega (arith, lt) in
    ap₂ ◌∷◌ l (events_letters w days (omega arith) (λ c m. s c (Memᴰ.tail m)))

-- a log with terms that 2 to 16 do not refuse
module _ (p : Profile) (w days terms : List ℕ) (good : GoodProfile p) (log : GoodLog p.k w) (many : length days ≡ length w) (short : Short days) where
  pub dated_events : GoodEvents (with_terms p terms) (events w days)
  dated_events = record {
    short = omega (arith, events_length w days, log.short);
    letters = events_all (λ a d. ltb a p.k) w days many short (λ a d m n. all_at (λ a. ltb a p.k) log.letters m);
    apart = λ e f t. distinct p.masks good.relation.own (letter_of e) (letter_of f)
        (snd_of (eqb (term_of terms (day_of e)) (term_of terms (day_of f))) (independent p.masks (letter_of e) (letter_of f)) t);
  }

-- ---- the same events as codes

pub term_small : (terms : List ℕ) (d : ℕ) → term_count terms ≤ most_terms → term_of terms d ≤ most_terms
term_small terms d few = omega (arith, first_most (in_term? terms d) (term_count terms), few)

-- the letter and the term of the code of an event
pub letter_of_code : (terms : List ℕ) → term_count terms ≤ most_terms → (e : ℕ) → code_letter (code_of terms e) ≡ letter_of e
letter_of_code terms few e = quotient (letter_of e) (term_of terms (day_of e)) (term_small terms (day_of e) few)
  where
    quotient : (a t : ℕ) → t ≤ most_terms → code_letter (code a t) ≡ a
    quotient a t h = omega arith

pub term_of_code : (terms : List ℕ) → term_count terms ≤ most_terms → (e : ℕ) → code_term (code_of terms e) ≡ term_of terms (day_of e)
term_of_code terms few e = rest (letter_of e) (term_of terms (day_of e)) (term_small terms (day_of e) few)
  where
    rest : (a t : ℕ) → t ≤ most_terms → code_term (code a t) ≡ t
    rest a t h = omega arith

module _ (p : Profile) (terms w : List ℕ) (few : term_count terms ≤ most_terms) where
  -- the events w as codes
  abbrev pub codes : List ℕ
  codes = map (code_of terms) w

  same_letter : (e : ℕ) → T true → code_letter (code_of terms e) ≡ letter_of e
  same_letter e t = letter_of_code terms few e

  same_may : (e f : ℕ) → T true → T true → coded_may p.masks (code_of terms e) (code_of terms f) ≡ may_in p.masks terms e f
  same_may e f s t = ap₂ ◌&&◌ (ap₂ eqb (term_of_code terms few e) (term_of_code terms few f)) (ap₂ (independent p.masks) (same_letter e tt) (same_letter f tt))

  all_true : (l : List ℕ) → T (all (λ e. true) l)
  all_true l = all_of (λ e. true) l (λ e m. tt)

  pub coded_prefixes : prefixes_by (rules_of p true) codes ≡ prefixes_by (with_terms p terms) w
  coded_prefixes = prefix_count_named (may_in p.masks terms) (coded_may p.masks) letter_of code_letter (code_of terms) (λ e. true) same_may same_letter p.k w (all_true w)

  pub coded_looks : looks_by (rules_of p true) codes ≡ looks_by (with_terms p terms) w
  coded_looks = looks_named (may_in p.masks terms) (coded_may p.masks) letter_of code_letter (code_of terms) (λ e. true) same_may same_letter p.k w (all_true w)

  pub coded_order : order_by (rules_of p true) codes ≡ order_by (with_terms p terms) w
  coded_order = accepted_order_named (may_in p.masks terms) (coded_may p.masks) letter_of code_letter (code_of terms) (λ e. true) same_may same_letter (automaton p) w (all_true w)

  pub coded_table : (before : List ℕ) → table_by (rules_of p true) codes before ≡ table_by (with_terms p terms) w before
  coded_table before = table_named (may_in p.masks terms) (coded_may p.masks) letter_of code_letter (code_of terms) (λ e. true) same_may same_letter (automaton p) w (all_true w) layout p.k before

  -- what the table asks of them
  pub coded_events : GoodProfile p → GoodEvents (with_terms p terms) w → GoodEvents (rules_of p true) codes
  coded_events good g = record {
    short = omega (arith, length-map w (code_of terms), g.short);
    letters = below-map w g.letters;
    apart = λ e f t. distinct p.masks good.relation.own (code_letter e) (code_letter f)
        (snd_of (eqb (code_term e) (code_term f)) (independent p.masks (code_letter e) (code_letter f)) t);
  }
    where
      below-map : (l : List ℕ) → T (all (λ e. ltb (letter_of e) p.k) l) → T (all (λ e. ltb (code_letter e) p.k) (map (code_of terms) l))
      below-map [] h = tt
      below-map (e ∷ l) h = both (ltb (code_letter (code_of terms e)) p.k) (all (λ e. ltb (code_letter e) p.k) (map (code_of terms) l))
          (subst (λ x. T (ltb x p.k)) (sym (same_letter e tt)) (fst_of (ltb (letter_of e) p.k) (all (λ e. ltb (letter_of e) p.k) l) h))
          (below-map l (snd_of (ltb (letter_of e) p.k) (all (λ e. ltb (letter_of e) p.k) l) h))

-- ---- one term that holds all days

module _ (p : Profile) (terms w days : List ℕ) (many : length days ≡ length w) (short : Short days) (t : ℕ) (one : (d : ℕ) → Mem d days → term_of terms d ≡ t) where
  in_it : ℕ → Bool
  in_it e = eqb (term_of terms (day_of e)) t

  all_in : T (all in_it (events w days))
  unfolding in_it
  all_in = events_all (λ a d. eqb (term_of terms d) t) w days many short (λ a d m n. subst (λ x. T (eqb x t)) (sym (one d n)) (eqb_refl t))

  same_mays : (e f : ℕ) → T (in_it e) → T (in_it f) → independent p.masks (letter_of e) (letter_of f) ≡ may_in p.masks terms e f
  unfolding in_it
  same_mays e f h k =
      let q : T (eqb (term_of terms (day_of e)) (term_of terms (day_of f))) = subst (λ x. T (eqb (term_of terms (day_of e)) x)) (sym (eqb→eq (term_of terms (day_of f)) t k)) h in
      sym (ap (λ b. b && independent p.masks (letter_of e) (letter_of f)) (is_true (eqb (term_of terms (day_of e)) (term_of terms (day_of f))) q))

  -- the judge without terms is the judge with one term that holds all days
  pub one_prefixes : prefixes_by (with_terms p terms) (events w days) ≡ prefixes_by (plain p) w
  one_prefixes = sym (prefix_count_named (may_in p.masks terms) (independent p.masks) letter_of (λ a. a) letter_of in_it same_mays (λ e h. refl) p.k (events w days) all_in)
      ∙ ap (prefixes_by (plain p)) (events_letters w days many short)

  pub one_looks : looks_by (with_terms p terms) (events w days) ≡ looks_by (plain p) w
  one_looks = sym (looks_named (may_in p.masks terms) (independent p.masks) letter_of (λ a. a) letter_of in_it same_mays (λ e h. refl) p.k (events w days) all_in)
      ∙ ap (looks_by (plain p)) (events_letters w days many short)

  pub one_order : order_by (with_terms p terms) (events w days) ≡ order_by (plain p) w
  one_order = sym (accepted_order_named (may_in p.masks terms) (independent p.masks) letter_of (λ a. a) letter_of in_it same_mays (λ e h. refl) (automaton p) (events w days) all_in)
      ∙ ap (order_by (plain p)) (events_letters w days many short)

  pub one_table : (before : List ℕ) → table_by (with_terms p terms) (events w days) before ≡ table_by (plain p) w before
  one_table before = sym (table_named (may_in p.masks terms) (independent p.masks) letter_of (λ a. a) letter_of in_it same_mays (λ e h. refl) (automaton p) (events w days) all_in layout p.k before)
      ∙ ap (λ v. table_by (plain p) v before) (events_letters w days many short)
