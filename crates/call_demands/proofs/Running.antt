-- Paper 7 over the numbers of `fumarehi_run_start`, `fumarehi_run_event` and `fumarehi_run_question`: after every list of calls what is told is what `fumarehi_judge`
-- tells of the list of events taken.
use Rattle.std.specs.Prelude.{Result, Ok, Err}
use mathlib.Core.Path.{◌≡◌, refl, sym, ◌∙◌, ap, subst}
use mathlib.Core.Bool.{cond}
use mathlib.Core.List.{List, [], ◌∷◌, ◌++◌}
use mathlib.Core.Option.{none, some-ne-none}
use Prim.Native.Nat.{ℕ, suc}
use native.Mathlib.Omega.{arith}
use lib.ListN.{length}
use Rattle.profile.specs.Automata.{Profile}
use Rattle.verdict.specs.Verdict.{Promise, judged_told, refused_by}
use Rattle.verdict.specs.declared.Judged.{Judged}
use Rattle.verdict.specs.declared.Judged.TheVariants.{NoOrder, Order}
use Rattle.running.specs.Running.{Lent, p_of, StartPromise, StepPromise, question_code, question_told, refused, relent, some?, started, started_code, step_code, took, verdict_of}
use Rattle.running.specs.declared.Running.{Running}
use Rattle.profile.specs.declared.Refusal.{Refusal}
use Rattle.running.proofs.Lending.{lent_told}
use Rattle.calls.specs.Calls.{Asking, Starting, Stepping, held_numbers, held_of, started_held}
use Rattle.capi.specs.Numbers.{Judging}
use Rattle.call_demands.specs.Called.{Called, event_refused, event_taken, start_called, table_changed}
use Rattle.call_demands.specs.Told.{prefixes_in, verdict_in}
use Rattle.call_demands.proofs.Numbers.{code_zero, zero_unused}

-- the two numbers of a record are the record
held_again : (r : Running) → held_of (held_numbers r) ≡ r
held_again r = refl

begun : (p : Profile) {l l' t t' told : List ℕ} → Starting p l l' t t' 0 told → Lent p [] (held_of l') t'
begun p {l} {l'} {t} {t'} s = go s.answer s.promise s.code_is s.held_is
  where
    go : (a : Result Running Refusal) → StartPromise p t t' a → 0 ≡ started_code a → l' ≡ started_held l a → Lent p [] (held_of l') t'
    go (Err x) h c e = absurd (zero_unused x (sym c))
    go (Ok r) h c e = subst (λ z. Lent p [] z t') (sym (ap held_of e ∙ held_again r)) (started h)

taken : (p : Profile) {w l l' t t' told : List ℕ} {a : ℕ} → Lent p w (held_of l) t → Stepping p a l l' t t' 0 told → Lent p (w ++ (a ∷ [])) (held_of l') t'
taken p {w} {l} {l'} {t} {t'} {a = a} k s = go s.answer s.promise s.code_is
  where
    go : (b : Result Unit Refusal) → StepPromise p a (held_of l) s.left t t' b → 0 ≡ step_code b → Lent p (w ++ (a ∷ [])) (held_of l') t'
    go (Err x) h c = absurd (zero_unused x (sym c))
    go (Ok u) h c = subst (λ z. Lent p (w ++ (a ∷ [])) z t') (sym (ap held_of s.held_is ∙ held_again s.left)) (took k h)

not_taken : (p : Profile) {w l l' t t' told : List ℕ} {a n : ℕ} → Lent p w (held_of l) t → Stepping p a l l' t t' (suc n) told → Lent p w (held_of l') t'
not_taken p {w} {l} {l'} {t} {t'} {a = a} {n = n} k s = go s.answer s.promise s.code_is
  where
    go : (b : Result Unit Refusal) → StepPromise p a (held_of l) s.left t t' b → suc n ≡ step_code b → Lent p w (held_of l') t'
    go (Err x) h c = subst (λ z. Lent p w z t') (sym (ap held_of s.held_is ∙ held_again s.left)) (refused k h)
    go (Ok u) h c = absurd (omega arith)

-- such a list of calls is one of the running judge
pub called_lent : (p : Profile) {w l t : List ℕ} → Called p w l t → Lent p w (held_of l) t
called_lent p (start_called s) = begun p s
called_lent p (event_taken c s) = taken p (called_lent p c) s
called_lent p (event_refused c s) = not_taken p (called_lent p c) s
called_lent p (table_changed c f e) = relent (called_lent p c) f e

-- "the verdict and P told after it are those of the judge for the list of events taken, and the number told is that list's length"; a question is not refused
pub asked_told : (p : Profile) {w l t told : List ℕ} {code : ℕ} → Called p w l t → Asking p l t code told
    → (code ≡ 0) × (told ≡ 0 ∷ cond (verdict_of p w) 1 0 ∷ p_of p w ∷ length w ∷ [])
asked_told p c a = let e = lent_told p (called_lent p c) a.promise in (a.code_is ∙ ap question_code e, a.told_is ∙ ap question_told e)

-- over the numbers of both: the verdict and P of any call of `fumarehi_judge` for w that returned 0
verdict_of_judged : (p : Profile) (w : List ℕ) {order order' table table' : List ℕ} (j : Result Judged Refusal) → Promise p w order order' table table' j → refused_by j ≡ none
    → (cond (verdict_of p w) 1 0 ≡ verdict_in (judged_told j)) × (p_of p w ≡ prefixes_in (judged_told j))
verdict_of_judged p w (Err r) h e = absurd (some-ne-none r e)
verdict_of_judged p w (Ok (NoOrder P n)) h e = (ap (λ o. cond (some? o) 1 0) h.told.0, sym h.told.2.prefixes)
verdict_of_judged p w (Ok (Order P n)) h e = (ap (λ o. cond (some? o) 1 0) h.told.1, sym h.told.3.prefixes)

pub asked_judged : (p : Profile) {w l t told order order' table table' told' : List ℕ} {code : ℕ} → Called p w l t → Asking p l t code told
    → Judging p w order order' table table' 0 told' → (verdict_in told ≡ verdict_in told') × (prefixes_in told ≡ prefixes_in told')
asked_judged p {w} {told' = told'} c a j =
    let q = (asked_told p c a).1 in
    let n = verdict_of_judged p w j.answer j.promise ((code_zero j.answer 0 told' j.code_is j.told_is).0 refl) in
    (ap verdict_in q ∙ n.0 ∙ ap verdict_in (sym j.told_is), ap prefixes_in q ∙ n.1 ∙ ap prefixes_in (sym j.told_is))
