-- The answer to a question: the last record, which has all events taken, gives the verdict.
use mathlib.Core.Path.{◌≡◌, refl, sym, ◌∙◌, ap, ap₂, subst, fun_ext}
use mathlib.Core.Bool.{Bool}
use mathlib.Core.Logic.{⊎_elim}
use mathlib.Core.List.{List, [], ◌∷◌}
use mathlib.Core.Option.{Option, none, some, none-ne-some}
use Prim.Native.Nat.{ℕ, ◌-◌, ◌<◌}
use native.Mathlib.Omega.{arith}
use lib.Dec.{T}
use lib.ListN.{get_or, length, length-append, get_or-eq_default}
use lib.Seq.{get_or-append_seam}
use Rattle.profile.specs.Traces.{independent}
use Rattle.profile.specs.Automata.{Profile, automaton, meets}
use Rattle.profile.specs.Prefixes.{at, count, forward}
use Rattle.profile.specs.Tables.{layout, packed}
use Rattle.profile.specs.declared.Refusal.{Refusal}
use Rattle.profile.specs.Refusals.{full_table, lowest}
use Rattle.profile.proofs.Lists.{lt_or_le}
use Rattle.profile.proofs.Sets.{t_eq}
use Rattle.theory.proofs.Automata.{verdict_forward}
use Rattle.theory.proofs.Counting.{count_above, length_range}
use Rattle.theory.proofs.Demands.{Witness, no_order, order_earliest, order_of}
use Rattle.theory.proofs.Packing.{packed_length}
use Rattle.theory.proofs.Profiles.{distinct, lawful}
use Rattle.theory.proofs.Refusals.{profile_at}
use Rattle.records.specs.Records.{forward_at}
use Rattle.arrival.specs.Arrival.{written}
use Rattle.arrival.proofs.Arrivals.{all_at_letter, all_of_log, arrivals_full}
use Rattle.running.specs.Running.{p_of, QuestionPromise, Runs, question_refusals, some?, verdict_of}
use Rattle.running.specs.declared.Running.{Running}
use Rattle.std.specs.Prelude.{Ok, Err}
use Rattle.running.proofs.Lending.{arrivals_are}
use Rattle.running.proofs.Refusing.{full_none}

-- the verdict is 1 exactly when the forward set of all events has a final state
pub forward_verdict : (p : Profile) (w : List ℕ) → ((i : ℕ) → T (independent p.masks i i) → ⊥) → meets (forward (independent p.masks) (λ a. a) (automaton p) w (count (λ a. a) w)) p.finals ≡ verdict_of p w
forward_verdict p w own = t_eq (meets (forward (independent p.masks) (λ a. a) (automaton p) w (count (λ a. a) w)) p.finals) (verdict_of p w)
    (λ t. let n = (verdict_forward (independent p.masks) (λ a. a) (automaton p) (lawful p) w (distinct p.masks own)).0 t in found (order_of p w) refl n.0 (record { reached = n.1; accepted = n.2 }))
    (λ t. let n = listed (order_of p w) refl t in (verdict_forward (independent p.masks) (λ a. a) (automaton p) (lawful p) w (distinct p.masks own)).1 (n.0, n.1.reached, n.1.accepted))
  where
    found : (o : Option (List ℕ)) → order_of p w ≡ o → (u : List ℕ) → Witness p w u → T (verdict_of p w)
    found none e u x = absurd ((no_order p w).0 e u x)
    found (some y) e u x = subst (λ z. T (some? z)) (sym e) tt

    listed : (o : Option (List ℕ)) → order_of p w ≡ o → T (verdict_of p w) → (u : List ℕ) × Witness p w u
    listed none e t = absurd (subst (λ z. T (some? z)) e t)
    listed (some y) e t = (y, (order_earliest p w e).0)

module _ (p : Profile) (w : List ℕ) {r : Running} {t : List ℕ} (h : Runs p w r t) where
  -- a question is not refused
  pub question_none : lowest (question_refusals p r (length t)) ≡ none
  question_none = sym (full_none p (full_table r.prefixes (length t)) h.sound h.place)

  -- there is a record
  pub some_record : 0 < r.prefixes
  some_record =
      let f = arrivals_full (independent p.masks) p.k w h.log.letters in
      omega (arith, h.prefixes, arrivals_are p w (profile_at p h.sound) h.log.letters, ap length f.1, length-append f.0 (all_of_log (independent p.masks) p.k w ∷ []))

  all_counts : at (all_of_log (independent p.masks) p.k w) ≡ count (λ a. a) w
  all_counts = fun_ext (λ x. ⊎_elim (λ lt. all_at_letter (independent p.masks) p.k w x lt)
      (λ le. get_or-eq_default (all_of_log (independent p.masks) p.k w) 0 {n = x} (omega (arith, length_range (count (λ a. a) w) p.k 0))
      ∙ sym (count_above (λ a. a) p.k w x h.log.letters le)) (lt_or_le x p.k))

  -- the last record has the forward set of all events
  pub last_forward : forward_at t (r.prefixes - 1) ≡ forward (independent p.masks) (λ a. a) (automaton p) w (count (λ a. a) w)
  last_forward =
      let f = arrivals_full (independent p.masks) p.k w h.log.letters in
      let n = arrivals_are p w (profile_at p h.sound) h.log.letters in
      let i : r.prefixes - 1 ≡ length f.0 = omega (arith, h.prefixes, n, ap length f.1, length-append f.0 (all_of_log (independent p.masks) p.k w ∷ [])) in
      h.keeps.holds (r.prefixes - 1) 8 (omega (arith, some_record, h.prefixes, n)) (omega arith)
      ∙ ap (λ c. get_or (written layout (independent p.masks) (automaton p) w c) 8 0) (ap₂ (λ l m. get_or l m []) f.1 i ∙ get_or-append_seam f.0 (all_of_log (independent p.masks) p.k w) [] [])
      ∙ (ap (λ m. get_or (written layout (independent p.masks) (automaton p) w (all_of_log (independent p.masks) p.k w)) m 0) (sym (packed_length layout (all_of_log (independent p.masks) p.k w)))
      ∙ get_or-append_seam (packed layout (all_of_log (independent p.masks) p.k w)) (forward (independent p.masks) (λ a. a) (automaton p) w (at (all_of_log (independent p.masks) p.k w))) [] 0)
      ∙ ap (forward (independent p.masks) (λ a. a) (automaton p) w) all_counts

module _ (p : Profile) (r : Running) (t : List ℕ) where
  pub question_refused : (x : Refusal) → some x ≡ lowest (question_refusals p r (length t)) → QuestionPromise p r t (Err x)
  question_refused x e = record { refused = e; told = λ w h. absurd (none-ne-some _ (sym (question_none p w h) ∙ sym e)) }

  pub question_told : (v : Bool) → none ≡ lowest (question_refusals p r (length t)) → (0 < r.prefixes → v ≡ meets (forward_at t (r.prefixes - 1)) p.finals)
      → QuestionPromise p r t (Ok (record { verdict = v; prefixes = r.prefixes; taken = r.taken }))
  question_told v e f = record {
    refused = e;
    told = λ w h.
        let q : v ≡ verdict_of p w = f (some_record p w h) ∙ ap (λ S. meets S p.finals) (last_forward p w h) ∙ forward_verdict p w (profile_at p h.sound).relation.own in
        ap₂ (λ b n. Ok (record { verdict = b; prefixes = n; taken = r.taken })) q h.prefixes
        ∙ ap (λ n. Ok (record { verdict = verdict_of p w; prefixes = p_of p w; taken = n })) h.taken;
  }
