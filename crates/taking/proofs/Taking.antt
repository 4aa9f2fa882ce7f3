-- What an event tells and leaves, from what the table alone gives.
use mathlib.Core.Path.{◌≡◌, refl, sym, ◌∙◌, ap, ap₂, subst}
use mathlib.Core.Bool.{Bool, true, false}
use mathlib.Core.List.Memᴰ
use mathlib.Core.List.{List, [], ◌∷◌, ◌++◌}
use mathlib.Core.Option.{none, some, none-ne-some, some-injective}
use Prim.Native.Nat.{ℕ, ◌+◌, ◌*◌, ◌<◌, ◌≤◌}
use native.Mathlib.Omega.{arith}
use borrow.Author.Tests.{le-leb, le-ltb, lt-leb, lt-ltb}
use lib.Dec.{leb, ltb}
use lib.ListN.{length}
use Rattle.profile.specs.Automata.{Profile}
use Rattle.profile.specs.Tables.{capacity, layout}
use Rattle.profile.specs.Refusals.{refused_by, full_table, longest, lowest, profile_refusals}
use Rattle.std.specs.Prelude.{Result, Ok, Err}
use Rattle.profile.specs.declared.Refusal.{Refusal}
use Rattle.profile.specs.declared.Refusal.TheVariants.{BadLetter, FullTable, LongLog}
use Rattle.theory.proofs.Refusals.{GoodProfile, lowest_append, lowest_first, lowest_none, profile_at}
use Rattle.running.specs.Running.{p_of, Runs, StepPromise, event_refusals, event_table, record_refusals}
use Rattle.running.specs.declared.Running.{Running}
use Rattle.running.proofs.Verdicts.{some_record}
use Rattle.taking.specs.Taking.{Took, new_records}
use Rattle.newcomers.specs.Newcomers.{Brought}

-- the conditions that the record alone decides
abbrev pub own_refusals : Bool → Bool → Bool → ℕ → List (Bool × Refusal)
own_refusals b c d n = (b, LongLog) ∷ (c, BadLetter n) ∷ (d, FullTable) ∷ []

module _ (p : Profile) (b c d : Bool) (n : ℕ) where
  own_next : lowest (profile_refusals p) ≡ none → lowest (own_refusals b c d n) ≡ lowest (profile_refusals p ++ own_refusals b c d n)
  own_next e = sym (lowest_append (profile_refusals p) (own_refusals b c d n) e)

  pub seven : lowest (profile_refusals p) ≡ none → b ≡ true → some LongLog ≡ lowest (profile_refusals p ++ own_refusals b c d n)
  seven e q = sym (rw (q, lowest)) ∙ own_next e

  pub eight : lowest (profile_refusals p) ≡ none → b ≡ false → c ≡ true → some (BadLetter n) ≡ lowest (profile_refusals p ++ own_refusals b c d n)
  eight e q r = sym (rw (q, r, lowest)) ∙ own_next e

  pub ten : lowest (profile_refusals p) ≡ none → b ≡ false → c ≡ false → d ≡ true → some FullTable ≡ lowest (profile_refusals p ++ own_refusals b c d n)
  ten e q r s = sym (rw (q, r, s, lowest)) ∙ own_next e

  pub no_own : lowest (profile_refusals p) ≡ none → b ≡ false → c ≡ false → d ≡ false → none ≡ lowest (profile_refusals p ++ own_refusals b c d n)
  no_own e q r s = sym (rw (q, r, s, lowest)) ∙ own_next e

  -- what holds where none applies
  pub allowed : none ≡ lowest (profile_refusals p ++ own_refusals b c d n) → GoodProfile p × (b ≡ false) × (c ≡ false) × (d ≡ false)
  allowed q =
      let h = (lowest_none (profile_refusals p ++ own_refusals b c d n)).0 (sym q) in (
        profile_at p ((lowest_none (profile_refusals p)).1 (λ x m. h x (Memᴰ.append_left (own_refusals b c d n) m))),
        h (b, LongLog) (Memᴰ.append_right (profile_refusals p) (Memᴰ.head refl)),
        h (c, BadLetter n) (Memᴰ.append_right (profile_refusals p) (Memᴰ.tail (Memᴰ.head refl))),
        h (d, FullTable) (Memᴰ.append_right (profile_refusals p) (Memᴰ.tail (Memᴰ.tail (Memᴰ.head refl)))),
      )

-- what the function tells of a good profile, by the tests as it makes them: a events taken, the letter x, n records and room for m
module _ (p : Profile) (k x a n m : ℕ) (s : Result Unit Refusal) (told : refused_by s ≡ lowest (profile_refusals p)) (good : s ≡ Ok tt) where
  pub tells_seven : longest ≤ a → refused_by {T = Unit} (Err LongLog) ≡ lowest (profile_refusals p ++ own_refusals (leb longest a) (leb k x) (ltb m n) a)
  tells_seven u = seven p (leb longest a) (leb k x) (ltb m n) a (sym told ∙ ap refused_by good) (le-leb longest a u)

  pub tells_eight : a < longest → k ≤ x → refused_by {T = Unit} (Err (BadLetter a)) ≡ lowest (profile_refusals p ++ own_refusals (leb longest a) (leb k x) (ltb m n) a)
  tells_eight u v = eight p (leb longest a) (leb k x) (ltb m n) a (sym told ∙ ap refused_by good) (lt-leb longest a u) (le-leb k x v)

  pub tells_ten : a < longest → x < k → m < n → refused_by {T = Unit} (Err FullTable) ≡ lowest (profile_refusals p ++ own_refusals (leb longest a) (leb k x) (ltb m n) a)
  tells_ten u v o = ten p (leb longest a) (leb k x) (ltb m n) a (sym told ∙ ap refused_by good) (lt-leb longest a u) (lt-leb k x v) (lt-ltb m n o)

  pub tells_none : a < longest → x < k → n ≤ m → refused_by {T = Unit} (Ok tt) ≡ lowest (profile_refusals p ++ own_refusals (leb longest a) (leb k x) (ltb m n) a)
  tells_none u v o = no_own p (leb longest a) (leb k x) (ltb m n) a (sym told ∙ ap refused_by good) (lt-leb longest a u) (lt-leb k x v) (le-ltb m n o)

-- ---- the promise of an event

module _ (p : Profile) (a : ℕ) (r : Running) (t : List ℕ) where
  -- refused by the record alone
  pub step_early : {r' : Running} {s : Result Unit Refusal} (x : Refusal) → some x ≡ lowest (record_refusals p r a (length t)) → r' ≡ r → s ≡ Err x → StepPromise p a r r' t t s
  step_early {r'} {s} x e q z = subst (StepPromise p a r r' t t) (sym z) record {
    early = λ y o. ap Err (some-injective _ _ (e ∙ o));
    unchanged = (q, refl);
    refused = λ w h. sym (lowest_first (record_refusals p r a (length t)) ((full_table (p_of p (w ++ (a ∷ []))) (length t), FullTable) ∷ []) (sym e));
    left = λ w h. tt;
  }

  -- refused since the new records do not fit
  pub took_refused : {r' : Running} {s : Result Unit Refusal} (room : ℕ) → r' ≡ r → s ≡ Err FullTable → (0 < r.prefixes → room < r.prefixes + new_records p a r t) → Took p a r r' room t t s
  took_refused {r'} room q z h = subst (Took p a r r' room t t) (sym z) (refl, q, refl, h)

  module _ (room : ℕ) (place : room ≡ capacity layout (length t)) (e : none ≡ lowest (record_refusals p r a (length t))) where
    last_refusal : (w : List ℕ) (d : Bool) → full_table (p_of p (w ++ (a ∷ []))) (length t) ≡ d → lowest (event_refusals p w r a (length t)) ≡ lowest ((d, FullTable) ∷ [])
    last_refusal w d q = lowest_append (record_refusals p r a (length t)) ((full_table (p_of p (w ++ (a ∷ []))) (length t), FullTable) ∷ []) (sym e) ∙ ap (λ z. lowest ((z, FullTable) ∷ [])) q

    -- the records that are counted and put are those of the event
    module _ (counted : (w : List ℕ) → Runs p w r t → r.prefixes + new_records p a r t ≡ p_of p (w ++ (a ∷ [])))
        (written : (w : List ℕ) (t' : List ℕ) → Runs p w r t → 10 * p_of p (w ++ (a ∷ [])) ≤ length t → Brought p r.prefixes a t t' → t' ≡ event_table p w a t) where
      pub step_took : (r' : Running) (t' : List ℕ) (s : Result Unit Refusal) → Took p a r r' room t t' s → StepPromise p a r r' t t' s
      step_took r' t' (Err x) h = record {
        early = λ y q. absurd (none-ne-some _ (e ∙ q));
        unchanged = (h.1, h.2);
        refused = λ w g.
            ap some h.0 ∙ sym (last_refusal w true (lt-ltb (capacity layout (length t)) (p_of p (w ++ (a ∷ []))) (omega (arith, h.3 (some_record p w g), counted w g, place))));
        left = λ w g. tt;
      }
      step_took r' t' (Ok u) h = record {
        early = λ y q. absurd (none-ne-some _ (e ∙ q));
        unchanged = tt;
        refused = λ w g. sym (last_refusal w false (le-ltb (capacity layout (length t)) (p_of p (w ++ (a ∷ []))) (omega (arith, h.1, counted w g, place))));
        left = λ w g. (
          h.2 ∙ ap₂ (λ x y. record { prefixes = x; taken = y }) (counted w g) (omega (arith, g.taken)),
          written w t' g (omega (arith, h.1, counted w g, place)) h.3,
        );
      }
