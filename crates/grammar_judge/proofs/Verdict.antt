-- The verdict by the second table: the pair of the first and the last record.
use mathlib.Core.Path.{◌≡◌, sym, ◌∙◌, ap, subst, subst₂}
use mathlib.Core.Bool.{true, false}
use mathlib.Core.Logic.{◌≢◌}
use mathlib.Core.List.{List, ◌++◌}
use Prim.Native.Nat.{ℕ, ◌+◌, ◌-◌, ◌*◌, ◌≤◌, ◌<◌}
use native.Mathlib.Nat.{le-mul_of_pos_right}
use native.Mathlib.Omega.{arith}
use lib.Dec.{T}
use lib.ListN.{get_or, length, drop}
use Rattle.profile.specs.Traces.{bit, independent}
use Rattle.profile.specs.Prefixes.{count, marked}
use Rattle.profile.proofs.Traces.{order_of_reach, takes_length}
use Rattle.theory.proofs.Prefixes.{front_marked, front_none, prefix_of_front}
use Rattle.theory.proofs.Profiles.{distinct}
use Rattle.grammars.specs.Grammars.{Derivable, grammar_of}
use Rattle.grammars.proofs.Spans.{Spans, spans_whole, whole_spans}
use Rattle.grammars.proofs.Places.{between_places, counts_of, first_place_none, last_place_all, place_of, total_marked, total_of}
use Rattle.pairs.specs.declared.nested.Nested.{Nested}
use Rattle.pairs.specs.Settings.{Setting}
use Rattle.pairs.specs.Pairs.{AllKnown, Between}
use Rattle.derivation.specs.Deriving.{Written, splice}
use Rattle.grammar_judge.specs.GrammarJudge.{VerdictIs}

module _ (on : Nested) where
  abbrev k : ℕ
  k = on.grammar.k

  abbrev masks : List ℕ
  masks = on.grammar.masks.now

  abbrev rules : List ℕ
  rules = on.grammar.rules.now

  abbrev w : List ℕ
  w = on.log.now

  abbrev table : List ℕ
  table = on.table.now

  abbrev records : ℕ
  records = on.records

  abbrev s : Setting k masks w table records
  s = on.setting

  abbrev differ : (a b : ℕ) → T (independent masks a b) → a ≢ b
  differ = distinct masks s.relation.own

  some_record : 0 < records
  some_record = let m = place_of (independent masks) differ k w s.log.letters (prefix_of_front (independent masks) (λ a. a) differ (front_none (independent masks) w)) in omega (arith, m.1, s.whole)

  first_is : counts_of (independent masks) k w 0 ≡ (λ x. 0)
  first_is = first_place_none (independent masks) differ k w s.log.letters (omega (arith, some_record, s.whole))

  last_is : counts_of (independent masks) k w (records - 1) ≡ count (λ a. a) w
  last_is = last_place_all (independent masks) differ k w s.log.letters (records - 1) (omega (arith, some_record, s.whole))

  abbrev Whole : Type 0
  Whole = Between on 0 (records - 1) 0

  -- a log that can be derived spans the two
  pub whole_of : (v : List ℕ) → Derivable (grammar_of rules) (independent masks) w v → Whole
  whole_of v d = (
    v,
    subst₂ (λ c e. Spans (independent masks) (grammar_of rules) w c e 0 v) (sym first_is) (sym last_is)
        (whole_spans (independent masks) (grammar_of rules) w differ d.reached d.derived),
  )

  -- one record alone: "An empty log gets 0"
  pub none_short : records < 2 → (v : List ℕ) → Derivable (grammar_of rules) (independent masks) w v → ⊥
  none_short h v d =
      let lt = between_places (independent masks) differ k w s.log.letters (grammar_of rules) 0 (records - 1) (omega (arith, some_record, s.whole)) (omega (arith, some_record, s.whole)) (whole_of v d) in
      omega arith

  module _ (sets : List ℕ) (known : AllKnown on sets) (many : 2 ≤ records) where
    row_first : get_or sets (0 * records + (records - 1)) 0 ≡ get_or sets (records - 1) 0
    row_first = let e : 0 * records + (records - 1) ≡ records - 1 = omega arith in ap (λ p. get_or sets p 0) e

    pub none_told : bit (get_or sets (records - 1) 0) 0 ≡ false → (v : List ℕ) → Derivable (grammar_of rules) (independent masks) w v → ⊥
    none_told e v d =
        let t = ((known.right 0 (records - 1) (omega arith) (omega arith)).0 0).1 (whole_of v d) in
        subst T (ap (λ S. bit S 0) row_first ∙ e) t

    pub some_told : bit (get_or sets (records - 1) 0) 0 ≡ true → Whole
    some_told e = ((known.right 0 (records - 1) (omega arith) (omega arith)).0 0).0 (subst T (sym (ap (λ S. bit S 0) row_first ∙ e)) tt)

  pub order_told : (before after : List ℕ) → Written on 0 (records - 1) 0 before after → VerdictIs masks rules w before after true
  order_told before after y =
      let v = y.word in
      let r = spans_whole (independent masks) (grammar_of rules) w differ (subst₂ (λ c e. Spans (independent masks) (grammar_of rules) w c e 0 v) first_is last_is y.spans) in
      let n : length w ≡ length v + 0 = takes_length (independent masks) (order_of_reach (independent masks) r.0) in
      let m : 0 + length v ≡ length w = omega arith in
      (v, record { reached = r.0; derived = r.1 }, y.written ∙ ap (λ t. splice before t v) none-marked ∙ ap (λ n. v ++ drop n before) m)
    where
      none-marked : total_of (independent masks) k w 0 ≡ 0
      none-marked = (total_marked (independent masks) differ k w s.log.letters 0 (omega (arith, some_record, s.whole))).0 ∙ ap (λ f. length (marked (λ a. a) w f)) first_is
          ∙ ap length (front_marked (independent masks) (λ a. a) differ (front_none (independent masks) w)).0

-- the first row is inside the table
pub row_inside : (n l : ℕ) → 2 ≤ n → n * n ≤ l → n - 1 < l
row_inside n l h k = let m : n ≤ n * n = le-mul_of_pos_right n (omega arith) in omega arith
