-- Paper 7: for every list of events and questions after a start that is not refused, what is told is what the judge tells of the list of events taken.
use mathlib.Core.Path.{◌≡◌, refl, sym, ◌∙◌, ap, ap₂, subst, subst₂}
use mathlib.Core.Bool.{Bool, true, false}
use mathlib.Core.List.Memᴰ
use mathlib.Core.List.{List, [], ◌∷◌, ◌++◌}
use mathlib.Core.Option.{none}
use Prim.Native.Nat.{ℕ, ◌+◌, ◌*◌, ◌<◌, ◌≤◌}
use native.Mathlib.Omega.{arith}
use lib.Dec.{T, ltb, leb, lt→ltb}
use borrow.Author.Tests.{ltb-false, leb-false}
use lib.ListN.{get_or, length, length-append, replicate, take}
use lib.Seq.{get_or-take}
use Rattle.profile.specs.Traces.{independent, letters_below}
use Rattle.profile.specs.Automata.{Profile, automaton}
use Rattle.profile.specs.Tables.{capacity, layout}
use Rattle.profile.specs.Refusals.{full_table, longest, lowest, profile_refusals}
use Rattle.profile.specs.declared.Refusal.{Refusal}
use Rattle.profile.specs.declared.Refusal.TheVariants.{BadLetter, FullTable, LongLog}
use Rattle.profile.proofs.Lists.{all_append, both}
use Rattle.theory.proofs.Profiles.{distinct}
use Rattle.theory.proofs.Refusals.{GoodLog, GoodProfile, lowest_none, profile_at}
use Rattle.arrival.specs.Arrival.{Keeps, arrivals}
use Rattle.arrival.proofs.Arrivals.{arrivals_count}
use Rattle.arrival.proofs.Tables.{keeps_length, keeps_next, put_at, put_length}
use Rattle.running.specs.Running.{Lent, p_of, QuestionPromise, Runs, StartPromise, StepPromise, asked, record_refusals, refused, relent, started, took, verdict_of}
use Rattle.running.specs.declared.Running.{Running}
use Rattle.std.specs.Prelude.{Result, Ok, Err}
use Rattle.running.specs.declared.Told.{Told}

module _ {A : Type 0} (l r : List (Bool × A)) where
  -- nothing in either of two lists of conditions applies
  pub none_split : lowest (l ++ r) ≡ none → (lowest l ≡ none) × (lowest r ≡ none)
  none_split e =
      let h = (lowest_none (l ++ r)).0 e in
      ((lowest_none l).1 (λ c m. h c (Memᴰ.append_left r m)), (lowest_none r).1 (λ c m. h c (Memᴰ.append_right l m)))

-- a test that is false, by the number it compares: the records fit
pub place_of : (P n : ℕ) → full_table P n ≡ false → 10 * P ≤ n
place_of P n e = omega (arith, ltb-false (capacity layout n) P e)

pub arrivals_are : (p : Profile) (w : List ℕ) → GoodProfile p → T (letters_below (λ a. a) p.k w) → length (arrivals (independent p.masks) p.k w) ≡ p_of p w
arrivals_are p w g l = arrivals_count (independent p.masks) p.k (distinct p.masks g.relation.own) w l

-- a start that is not refused
module _ (p : Profile) {t t' : List ℕ} {r : Running} (h : StartPromise p t t' (Ok r)) where
  abbrev firsts : List (List ℕ)
  firsts = replicate p.k 0 ∷ []

  allowed : (lowest (profile_refusals p) ≡ none) × (full_table 1 (length t) ≡ false)
  allowed =
      let s = none_split (profile_refusals p) ((full_table 1 (length t), FullTable) ∷ []) (sym h.refused) in
      (s.0, (lowest_none ((full_table 1 (length t), FullTable) ∷ [])).0 s.1 (full_table 1 (length t), FullTable) (Memᴰ.head refl))

  first_fits : 10 * (0 + length firsts) ≤ length t
  first_fits = omega (arith, place_of 1 (length t) allowed.1)

  first_length : length t' ≡ length t
  first_length = ap length h.left.1 ∙ put_length (independent p.masks) (automaton p) [] firsts 0 t first_fits

  one_prefix : p_of p [] ≡ 1
  one_prefix = sym (arrivals_are p [] (profile_at p allowed.0) tt)

  pub start_runs : Runs p [] r t'
  start_runs = record {
    sound = allowed.0;
    log = record { short = omega arith; letters = tt };
    prefixes = ap (λ (x : Running). x.prefixes) h.left.0 ∙ sym one_prefix;
    taken = ap (λ (x : Running). x.taken) h.left.0;
    place = ap₂ full_table (ap (λ (x : Running). x.prefixes) h.left.0) first_length ∙ allowed.1;
    keeps = record {
      fits = omega (arith, first_length, first_fits);
      holds = λ x j lx lj.
          let e : 10 * x + j ≡ 10 * (0 + x) + j = omega arith in
          ap₂ (λ u n. get_or u n 0) h.left.1 e ∙ put_at (independent p.masks) (automaton p) [] firsts 0 t first_fits x j lx (omega (arith, lj));
    };
  }

-- an event that is taken
module _ (p : Profile) {w t t' : List ℕ} {r r' : Running} {a : ℕ} (h : Runs p w r t) (s : StepPromise p a r r' t t' (Ok tt)) where
  good : GoodProfile p
  good = profile_at p h.sound

  event_allowed : (leb longest r.taken ≡ false) × (leb p.k a ≡ false) × (full_table (p_of p (w ++ (a ∷ []))) (length t) ≡ false)
  event_allowed =
      let last : List (Bool × Refusal) = (full_table (p_of p (w ++ (a ∷ []))) (length t), FullTable) ∷ [] in
      let own : List (Bool × Refusal) = (leb longest r.taken, LongLog) ∷ (leb p.k a, BadLetter r.taken) ∷ (full_table r.prefixes (length t), FullTable) ∷ [] in
      let n = none_split (record_refusals p r a (length t)) last (sym (s.refused w h)) in
      let m = (lowest_none own).0 (none_split (profile_refusals p) own n.0).1 in (
        m (leb longest r.taken, LongLog) (Memᴰ.head refl),
        m (leb p.k a, BadLetter r.taken) (Memᴰ.tail (Memᴰ.head refl)),
        (lowest_none last).0 n.1 (full_table (p_of p (w ++ (a ∷ []))) (length t), FullTable) (Memᴰ.head refl),
      )

  log_after : GoodLog p.k (w ++ (a ∷ []))
  log_after = record {
    short = omega (arith, length-append w (a ∷ []), leb-false longest r.taken event_allowed.0, h.taken);
    letters = all_append (λ x. ltb x p.k) w (a ∷ []) h.log.letters (both (ltb a p.k) true (lt→ltb a p.k (leb-false p.k a event_allowed.1)) tt);
  }

  room : 10 * length (arrivals (independent p.masks) p.k (w ++ (a ∷ []))) ≤ length t
  room = omega (arith, place_of (p_of p (w ++ (a ∷ []))) (length t) event_allowed.2, arrivals_are p (w ++ (a ∷ [])) good log_after.letters)

  pub step_runs : Runs p (w ++ (a ∷ [])) r' t'
  step_runs =
      let d = distinct p.masks good.relation.own in
      let e = s.left w h in
      let len : length t' ≡ length t = ap length e.1 ∙ keeps_length (independent p.masks) d (automaton p) p.k w a log_after.letters t h.keeps room in
      record {
        sound = h.sound;
        log = log_after;
        prefixes = ap (λ (x : Running). x.prefixes) e.0;
        taken = ap (λ (x : Running). x.taken) e.0 ∙ omega (arith, length-append w (a ∷ []));
        place = ap₂ full_table (ap (λ (x : Running). x.prefixes) e.0) len ∙ event_allowed.2;
        keeps = subst (Keeps layout (independent p.masks) (automaton p) p.k (w ++ (a ∷ []))) (sym e.1)
            (keeps_next (independent p.masks) d (automaton p) p.k w a log_after.letters t h.keeps room);
      }

-- a refused event, whose record stays
pub refused_runs : (p : Profile) {w t t' : List ℕ} {r r' : Running} {a : ℕ} {x : Refusal} → Runs p w r t → StepPromise p a r r' t t' (Err x) → Runs p w r' t'
refused_runs p {w} {t} {t'} {r} {r'} h s = subst₂ (Runs p w) (sym s.unchanged.0) (sym s.unchanged.1) h

-- another table that has the first P records
pub relent_runs : (p : Profile) {w t t' : List ℕ} {r : Running} → Runs p w r t → full_table r.prefixes (length t') ≡ false → take (10 * r.prefixes) t' ≡ take (10 * r.prefixes) t → Runs p w r t'
relent_runs p {w} {t} {t'} {r} h place same =
    let n : r.prefixes ≡ length (arrivals (independent p.masks) p.k w) = h.prefixes ∙ sym (arrivals_are p w (profile_at p h.sound) h.log.letters) in
    record {
      sound = h.sound;
      log = h.log;
      prefixes = h.prefixes;
      taken = h.taken;
      place = place;
      keeps = record {
        fits = omega (arith, place_of r.prefixes (length t') place, n);
        holds = λ x j lx lj.
            let lt : 10 * x + j < 10 * r.prefixes = omega (arith, n, lx, lj) in
            sym (get_or-take (10 * r.prefixes) t' (10 * x + j) 0 lt) ∙ ap (λ l. get_or l (10 * x + j) 0) same ∙ get_or-take (10 * r.prefixes) t (10 * x + j) 0 lt ∙ h.keeps.holds x j lx lj;
      };
    }

-- the record and the table are those of the events taken, after every list of calls
pub lent_runs : (p : Profile) {w t : List ℕ} {r : Running} → Lent p w r t → Runs p w r t
lent_runs p (started s) = start_runs p s
lent_runs p (took l s) = step_runs p (lent_runs p l) s
lent_runs p (refused l s) = refused_runs p (lent_runs p l) s
lent_runs p (relent l f e) = relent_runs p (lent_runs p l) f e
lent_runs p (asked l s) = lent_runs p l

-- "the verdict and P told after it are those of the judge for the list of events taken, and the number told is that list's length"
pub lent_told : (p : Profile) {w t : List ℕ} {r : Running} {s : Result Told Refusal} → Lent p w r t → QuestionPromise p r t s
    → s ≡ Ok (record { verdict = verdict_of p w; prefixes = p_of p w; taken = length w })
lent_told p {w} l q = q.told w (lent_runs p l)
