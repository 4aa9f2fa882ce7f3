-- Paper 13 over what the call returns. `Promise k masks names rules w order order' table table' sets sets' r` is what holds of a call with these masks and
-- rules and the log w that was lent `order`, `table` and `sets`, whatever these held, left `order'`, `table'` and `sets'`, and answered r.
use mathlib.Core.Path.{◌≡◌, refl, sym, ◌∙◌, ap, subst}
use mathlib.Core.Logic.{◌⊎◌, inl, inr, ◌↔◌, ◌≢◌}
use mathlib.Core.List.{List, []}
use mathlib.Core.Option.{Option, none, some, none-ne-some, some-injective, some-ne-none}
use Prim.Native.Nat.{ℕ, ◌+◌, ◌≤◌}
use native.Mathlib.Omega.{arith}
use lib.Dec.{T}
use lib.ListN.{length, take, drop}
use lib.Seq.{drop_at, take_at}
use Rattle.profile.specs.Traces.{Reachable, independent}
use Rattle.profile.specs.Automata.{automaton}
use Rattle.profile.specs.Orders.{Same}
use Rattle.profile.specs.declared.Refusal.{Refusal}
use Rattle.profile.specs.declared.Refusal.TheVariants.{FullTable, ShortSets}
use Rattle.profile.proofs.Cases.{free}
use Rattle.profile.proofs.Traces.{order_of_reach, takes_length}
use Rattle.theory.proofs.Comparison.{prefix_count_same}
use Rattle.theory.proofs.Looks.{looks_same}
use Rattle.theory.proofs.Profiles.{distinct}
use Rattle.theory.proofs.Refusals.{log_at, relation_at}
use Rattle.grammars.specs.Grammars.{Derivable, grammar_of}
use Rattle.grammars.proofs.Verdicts.{derivable_grows, derivable_reach, empty_none, prefixes_grow}
use Rattle.table.specs.Table.{Spared}
use Rattle.verdict.specs.declared.Judged.{Judged}
use Rattle.verdict.specs.declared.Judged.TheVariants.{NoOrder, Order}
use Rattle.std.specs.Prelude.{Result, Ok, Err}
use Rattle.verdict.specs.Verdict.{refused_by, verdict_number}
use Rattle.verdict.proofs.Promises.{told_looks, told_prefixes}
use Rattle.bare.specs.Bare.{Counted}
use Rattle.grammar_judge.specs.GrammarJudge.{Promise, grammar_refusal}
use Rattle.grammar_judge.proofs.Answers.{passed}

-- the two verdicts are different
zero_one : ◌≡◌ {A = Option ℕ} (some 0) (some 1) → ⊥
zero_one e = let q = some-injective 0 1 e in omega arith

-- ---- demand 1

module _ (k : ℕ) (masks : List ℕ) (names : ℕ) (rules w order order' table table' sets sets' : List ℕ) where
  -- a call is refused by r exactly when r is the first that applies of 2, 4, 21, 7, 8, 9, 10 and 22
  pub refused_exactly : (j : Result Judged Refusal) → Promise k masks names rules w order order' table table' sets sets' j → (r : Refusal)
      → (j ≡ Err r) ↔ (grammar_refusal k masks names rules w (length order) (length table) (length sets) ≡ some r)
  refused_exactly (Err q) h r = ((λ e. sym h.refused ∙ ap refused_by e), λ e. ap Err (some-injective q r (h.refused ∙ e)))
  refused_exactly (Ok (NoOrder P n)) h r = ((λ e. sym h.refused ∙ ap refused_by e), λ e. absurd (none-ne-some r (h.refused ∙ e)))
  refused_exactly (Ok (Order P n)) h r = ((λ e. sym h.refused ∙ ap refused_by e), λ e. absurd (none-ne-some r (h.refused ∙ e)))

  -- "Refusals leave every buffer unchanged", and "22 …, after 10 and with the work table free as there"
  pub refused_unchanged : (r : Refusal) → Promise k masks names rules w order order' table table' sets sets' (Err r)
      → (order' ≡ order) × (sets' ≡ sets) × (r ≢ FullTable → r ≢ ShortSets → table' ≡ table) × Spared table table'
  refused_unchanged r h = h.told

-- ---- demand 3, the existence half

module _ (k : ℕ) (masks : List ℕ) (names : ℕ) (rules w order order' table table' sets sets' : List ℕ)
    (unrefused : grammar_refusal k masks names rules w (length order) (length table) (length sets) ≡ none) where
  -- there is a verdict, 0 or 1
  pub verdict_cases : (j : Result Judged Refusal) → Promise k masks names rules w order order' table table' sets sets' j → (verdict_number j ≡ some 0) ⊎ (verdict_number j ≡ some 1)
  verdict_cases (Err r) h = absurd (some-ne-none r (h.refused ∙ unrefused))
  verdict_cases (Ok (NoOrder P n)) h = inl refl
  verdict_cases (Ok (Order P n)) h = inr refl

  -- "The verdict is 1 exactly when some reachable log can be derived from name 0"
  pub verdict_exactly : (j : Result Judged Refusal) → Promise k masks names rules w order order' table table' sets sets' j
      → (verdict_number j ≡ some 1) ↔ ((v : List ℕ) × Derivable (grammar_of rules) (independent masks) w v)
  verdict_exactly (Err r) h = absurd (some-ne-none r (h.refused ∙ unrefused))
  verdict_exactly (Ok (NoOrder P n)) h = ((λ e. absurd (zero_one e)), λ v. absurd (h.told.0 v.0 v.1))
  verdict_exactly (Ok (Order P n)) h = ((λ e. (h.told.0, h.told.1)), λ v. refl)

  -- and 0 exactly when none can
  pub no_order_exactly : (j : Result Judged Refusal) → Promise k masks names rules w order order' table table' sets sets' j
      → (verdict_number j ≡ some 0) ↔ ((v : List ℕ) → Derivable (grammar_of rules) (independent masks) w v → ⊥)
  no_order_exactly (Err r) h = absurd (some-ne-none r (h.refused ∙ unrefused))
  no_order_exactly (Ok (NoOrder P n)) h = ((λ e. h.told.0), λ f. refl)
  no_order_exactly (Ok (Order P n)) h = ((λ e. absurd (zero_one (sym e))), λ f. absurd (f h.told.0 h.told.1))

  -- "and such a log is returned": the bytes written, as many as the log has, are one; the others stay
  pub order_exactly : (j : Result Judged Refusal) → Promise k masks names rules w order order' table table' sets sets' j → verdict_number j ≡ some 1
      → Derivable (grammar_of rules) (independent masks) w (take (length w) order') × (drop (length w) order' ≡ drop (length w) order)
  order_exactly (Err r) h e = absurd (none-ne-some 1 e)
  order_exactly (Ok (NoOrder P n)) h e = absurd (zero_one e)
  order_exactly (Ok (Order P n)) h e =
      let v = h.told.0 in
      let l : length w ≡ length v + 0 = takes_length (independent masks) (order_of_reach (independent masks) h.told.1.reached) in
      let m : length v ≡ length w = omega arith in (
        subst (Derivable (grammar_of rules) (independent masks) w) (sym (ap (take (length w)) h.told.2 ∙ take_at v (drop (length w) order) (length w) m)) h.told.1,
        ap (drop (length w)) h.told.2 ∙ drop_at v (drop (length w) order) (length w) m,
      )

-- "An empty log gets 0"
pub empty_log : (k : ℕ) (masks : List ℕ) (names : ℕ) (rules order order' table table' sets sets' : List ℕ)
    → grammar_refusal k masks names rules [] (length order) (length table) (length sets) ≡ none
    → (j : Result Judged Refusal) → Promise k masks names rules [] order order' table table' sets sets' j → verdict_number j ≡ some 0
empty_log k masks names rules order order' table table' sets sets' unrefused j h =
    (no_order_exactly k masks names rules [] order order' table table' sets sets' unrefused j h).1 (λ v d. empty_none d)

-- ---- two calls

-- P and looks of a call that is not refused
told_counts : (k : ℕ) (masks : List ℕ) (names : ℕ) (rules w : List ℕ) {order order' table table' sets sets' : List ℕ}
    → grammar_refusal k masks names rules w (length order) (length table) (length sets) ≡ none
    → (j : Result Judged Refusal) → Promise k masks names rules w order order' table table' sets sets' j
    → (P n : ℕ) × (told_prefixes j ≡ some P) × (told_looks j ≡ some n) × Counted k masks w table table' P n
told_counts k masks names rules w u (Err r) h = absurd (some-ne-none r (h.refused ∙ u))
told_counts k masks names rules w u (Ok (NoOrder P n)) h = (P, n, refl, refl, h.told.2)
told_counts k masks names rules w u (Ok (Order P n)) h = (P, n, refl, refl, h.told.3)

-- "the judge's statement keeps … the equal verdicts and P": two logs reachable from each other, whatever buffers each call was lent; looks too (Paper 2)
module _ (k : ℕ) (masks : List ℕ) (names : ℕ) (rules v w : List ℕ) (order₁ order₁' table₁ table₁' sets₁ sets₁' order₂ order₂' table₂ table₂' sets₂ sets₂' : List ℕ)
    (first : grammar_refusal k masks names rules v (length order₁) (length table₁) (length sets₁) ≡ none)
    (second : grammar_refusal k masks names rules w (length order₂) (length table₂) (length sets₂) ≡ none) where
  -- Paper 4: where v is reachable from w, verdict 1 for v gives verdict 1 for w
  pub judged_reach : (i j : Result Judged Refusal) → Promise k masks names rules v order₁ order₁' table₁ table₁' sets₁ sets₁' i
      → Promise k masks names rules w order₂ order₂' table₂ table₂' sets₂ sets₂' j → Reachable (independent masks) w v → verdict_number i ≡ some 1 → verdict_number j ≡ some 1
  judged_reach i j g h r e =
      let x = (verdict_exactly k masks names rules v order₁ order₁' table₁ table₁' sets₁ sets₁' first i g).0 e in
      (verdict_exactly k masks names rules w order₂ order₂' table₂ table₂' sets₂ sets₂' second j h).1 (x.0, derivable_reach r x.1)

  pub judged_same : (i j : Result Judged Refusal) → Promise k masks names rules v order₁ order₁' table₁ table₁' sets₁ sets₁' i
      → Promise k masks names rules w order₂ order₂' table₂ table₂' sets₂ sets₂' j → Same (independent masks) v w
      → (verdict_number i ≡ verdict_number j) × (told_prefixes i ≡ told_prefixes j) × (told_looks i ≡ told_looks j)
  judged_same i j g h s =
      let p = passed k masks names rules v order₁ table₁ sets₁ first in
      let q = passed k masks names rules w order₂ table₂ sets₂ second in
      let differ = distinct masks (relation_at k masks p.0).own in
      let a = (log_at k v p.1).letters in
      let b = (log_at k w q.1).letters in
      let x = told_counts k masks names rules v first i g in
      let y = told_counts k masks names rules w second j h in (
        verdicts (verdict_cases k masks names rules v order₁ order₁' table₁ table₁' sets₁ sets₁' first i g) (verdict_cases k masks names rules w order₂ order₂' table₂ table₂' sets₂ sets₂' second j h)
            (judged_reach i j g h s.1) back,
        x.2 ∙ ap some (x.4.prefixes ∙ prefix_count_same (λ a. a) (automaton (free 1 [])) (independent masks) s.0 s.1 differ k a b ∙ sym y.4.prefixes) ∙ sym y.2,
        x.3 ∙ ap some (x.4.looks ∙ looks_same (λ a. a) (automaton (free 1 [])) (independent masks) s.0 s.1 differ k a b ∙ sym y.4.looks) ∙ sym y.3,
      )
    where
      back : verdict_number j ≡ some 1 → verdict_number i ≡ some 1
      back e =
          let x = (verdict_exactly k masks names rules w order₂ order₂' table₂ table₂' sets₂ sets₂' second j h).0 e in
          (verdict_exactly k masks names rules v order₁ order₁' table₁ table₁' sets₁ sets₁' first i g).1 (x.0, derivable_reach s.0 x.1)

      verdicts : {m n : Option ℕ} → (m ≡ some 0) ⊎ (m ≡ some 1) → (n ≡ some 0) ⊎ (n ≡ some 1) → (m ≡ some 1 → n ≡ some 1) → (n ≡ some 1 → m ≡ some 1) → m ≡ n
      verdicts (inl a) (inl b) f g = a ∙ sym b
      verdicts (inl a) (inr b) f g = g b ∙ sym b
      verdicts (inr a) n f g = a ∙ sym (f a)

-- Paper 9, "the existence half": if the masks hold every bit of others, all else being equal, and both calls get a verdict, then verdict 1 stays 1 and P does
-- not shrink
module _ (k : ℕ) (masks masks' : List ℕ) (names : ℕ) (rules w : List ℕ) (order₁ order₁' table₁ table₁' sets₁ sets₁' order₂ order₂' table₂ table₂' sets₂ sets₂' : List ℕ)
    (more : (a b : ℕ) → T (independent masks a b) → T (independent masks' a b))
    (first : grammar_refusal k masks names rules w (length order₁) (length table₁) (length sets₁) ≡ none)
    (second : grammar_refusal k masks' names rules w (length order₂) (length table₂) (length sets₂) ≡ none) where
  pub judged_grows : (i j : Result Judged Refusal) → Promise k masks names rules w order₁ order₁' table₁ table₁' sets₁ sets₁' i
      → Promise k masks' names rules w order₂ order₂' table₂ table₂' sets₂ sets₂' j → verdict_number i ≡ some 1 → verdict_number j ≡ some 1
  judged_grows i j g h e =
      let x = (verdict_exactly k masks names rules w order₁ order₁' table₁ table₁' sets₁ sets₁' first i g).0 e in
      (verdict_exactly k masks' names rules w order₂ order₂' table₂ table₂' sets₂ sets₂' second j h).1 (x.0, derivable_grows (independent masks) (independent masks') more x.1)

  pub counted_grows : (i j : Result Judged Refusal) → Promise k masks names rules w order₁ order₁' table₁ table₁' sets₁ sets₁' i
      → Promise k masks' names rules w order₂ order₂' table₂ table₂' sets₂ sets₂' j → (P Q : ℕ) → told_prefixes i ≡ some P → told_prefixes j ≡ some Q → P ≤ Q
  counted_grows i j g h P Q a b =
      let x = told_counts k masks names rules w first i g in
      let y = told_counts k masks' names rules w second j h in
      let p : P ≡ x.0 = some-injective _ _ (sym a ∙ x.2) in
      let q : Q ≡ y.0 = some-injective _ _ (sym b ∙ y.2) in
      let le = prefixes_grow (independent masks) (independent masks') more k w (log_at k w (passed k masks names rules w order₁ table₁ sets₁ first).1).letters in
      grown p x.4.prefixes q y.4.prefixes le
    where
      grown : {P Q a b m n : ℕ} → P ≡ a → a ≡ m → Q ≡ b → b ≡ n → m ≤ n → P ≤ Q
      grown p x q y le = omega arith
