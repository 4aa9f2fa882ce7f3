-- Each way out of the call: which refusal is given, and what is promised.
use mathlib.Core.Path.{◌≡◌, refl, sym, ◌∙◌, ap, subst}
use mathlib.Core.Bool.{Bool, true, false}
use mathlib.Core.List.Memᴰ
use mathlib.Core.List.{List, [], ◌∷◌, ◌++◌}
use mathlib.Core.Option.{none, some}
use Prim.Native.Nat.{ℕ, ◌*◌, ◌≤◌, ◌<◌}
use native.Mathlib.Omega.{arith}
use borrow.Author.Tests.{lt-ltb, le-ltb}
use lib.ListN.{length}
use Rattle.profile.specs.Refusals.{full_table, log_refusals, lowest, relation_refusals, short_buffer}
use Rattle.profile.specs.Lists.{flat_map}
use Rattle.profile.specs.Prefixes.{by_total}
use Rattle.profile.specs.Tables.{capacity, layout, record_length}
use Rattle.profile.specs.Traces.{independent}
use Rattle.profile.specs.declared.Refusal.{Refusal}
use Rattle.profile.specs.declared.Refusal.TheVariants.{BadRule, FullTable, ShortBuffer, ShortSets}
use Rattle.profile.proofs.Lists.{flat_map_length}
use Rattle.theory.proofs.Levels.{by_total_length}
use Rattle.theory.proofs.Refusals.{log_at, lowest_append, lowest_first, lowest_none}
use Rattle.table.specs.Table.{Spared}
use Rattle.table.proofs.Filling.{spared_front}
use Rattle.grammars.specs.Grammars.{bad_rules}
use Rattle.verdict.specs.declared.Judged.TheVariants.{NoOrder, Order}
use Rattle.std.specs.Prelude.{Ok, Err}
use Rattle.bare.specs.Bare.{Counted, bare_record, prefixes_of}
use Rattle.grammar_judge.specs.GrammarJudge.{Promise, VerdictIs, admission, grammar_refusal, short_sets}

-- nothing applies of two lists of refusals: nothing of either
none_both : (l r : List (Bool × Refusal)) → lowest (l ++ r) ≡ none → (lowest l ≡ none) × (lowest r ≡ none)
none_both l r e = (
  (lowest_none l).1 (λ c m. (lowest_none (l ++ r)).0 e c (Memᴰ.append_left r m)),
  (lowest_none r).1 (λ c m. (lowest_none (l ++ r)).0 e c (Memᴰ.append_right l m)),
)

module _ (k : ℕ) (masks : List ℕ) (names : ℕ) (rules w order table sets : List ℕ) where
  abbrev P : ℕ
  P = prefixes_of k masks w

  abbrev ends : List (Bool × Refusal)
  ends = (full_table P (length table), FullTable) ∷ (short_sets P (length sets), ShortSets) ∷ []

  abbrev logs : List (Bool × Refusal)
  logs = log_refusals k w ++ ((short_buffer (length order) w, ShortBuffer) ∷ [])

  -- a call that is not refused passes the checks of masks and log
  pub passed : grammar_refusal k masks names rules w (length order) (length table) (length sets) ≡ none
      → (lowest (relation_refusals k masks) ≡ none) × (lowest (log_refusals k w) ≡ none)
  passed e =
      let a = none_both (relation_refusals k masks) ((bad_rules k names rules, BadRule) ∷ logs) (none_both (admission k masks names rules w (length order)) ends e).0 in
      let b = none_both ((bad_rules k names rules, BadRule) ∷ []) logs a.1 in
      (a.0, (none_both (log_refusals k w) ((short_buffer (length order) w, ShortBuffer) ∷ []) b.1).0)

  abbrev Same : Refusal → Type 0
  Same r = Promise k masks names rules w order order table table sets sets (Err r)

  same : (r : Refusal) → grammar_refusal k masks names rules w (length order) (length table) (length sets) ≡ some r → Same r
  same r e = record { refused = sym e; told = (refl, refl, λ x y. refl, record { long = refl; rest = refl }) }

  pub answer_relation : (r : Refusal) → lowest (relation_refusals k masks) ≡ some r → Same r
  answer_relation r e = same r (lowest_first (admission k masks names rules w (length order)) ends (lowest_first (relation_refusals k masks) ((bad_rules k names rules, BadRule) ∷ logs) e))

  module _ (good : lowest (relation_refusals k masks) ≡ none) where
    pub answer_rules : bad_rules k names rules ≡ true → Same BadRule
    answer_rules e = same BadRule (lowest_first (admission k masks names rules w (length order)) ends (lowest_append (relation_refusals k masks) ((bad_rules k names rules, BadRule) ∷ logs) good ∙ rw (e, lowest)))

    module _ (right : bad_rules k names rules ≡ false) where
      behind_rules : lowest (admission k masks names rules w (length order)) ≡ lowest logs
      behind_rules = lowest_append (relation_refusals k masks) ((bad_rules k names rules, BadRule) ∷ logs) good ∙ rw (right, lowest)

      pub answer_log : (r : Refusal) → lowest (log_refusals k w) ≡ some r → Same r
      answer_log r e = same r (lowest_first (admission k masks names rules w (length order)) ends (behind_rules ∙ lowest_first (log_refusals k w) ((short_buffer (length order) w, ShortBuffer) ∷ []) e))

      module _ (log : lowest (log_refusals k w) ≡ none) where
        pub answer_short : length order < length w → Same ShortBuffer
        answer_short h = same ShortBuffer (lowest_first (admission k masks names rules w (length order)) ends
            (behind_rules ∙ lowest_append (log_refusals k w) ((short_buffer (length order) w, ShortBuffer) ∷ []) log ∙ rw (lt-ltb (length order) (length w) h, lowest)))

        module _ (long : length w ≤ length order) where
          admitted : grammar_refusal k masks names rules w (length order) (length table) (length sets) ≡ lowest ends
          admitted = lowest_append (admission k masks names rules w (length order)) ends
              (behind_rules ∙ lowest_append (log_refusals k w) ((short_buffer (length order) w, ShortBuffer) ∷ []) log ∙ rw (le-ltb (length order) (length w) long, lowest))

          pub answer_full : (table' : List ℕ) → Spared table table' → capacity layout (length table) < P → Promise k masks names rules w order order table table' sets sets (Err FullTable)
          answer_full table' s h = record { refused = sym (admitted ∙ rw (lt-ltb (capacity layout (length table)) P h, lowest)); told = (refl, refl, λ x y. absurd (x refl), s) }

          module _ (fits : P ≤ capacity layout (length table)) where
            abbrev records : List ℕ
            records = flat_map bare_record (by_total (independent masks) (λ a. a) k w)

            many : length records ≡ record_length layout * P
            many = flat_map_length bare_record (record_length layout) (λ c. refl) (by_total (independent masks) (λ a. a) k w)
                ∙ ap (λ n. record_length layout * n) (by_total_length (independent masks) (λ a. a) k w (log_at k w log).letters)

            -- after 22 the table holds the prefixes
            pub answer_sets : (table' : List ℕ) {Q n : ℕ} → Counted k masks w table table' Q n → length sets < P * P → Promise k masks names rules w order order table table' sets sets (Err ShortSets)
            answer_sets table' c h = record {
              refused = sym (admitted ∙ rw (le-ltb (capacity layout (length table)) P fits, lt-ltb (length sets) (P * P) h, lowest));
              told = (refl, refl, (λ x y. absurd (y refl)), subst (Spared table) (sym c.table) (spared_front records table (record_length layout * P) many (omega (arith, fits))));
            }

            module _ (room : P * P ≤ length sets) (order' table' sets' : List ℕ) (Q n : ℕ) (c : Counted k masks w table table' Q n) where
              unrefused : grammar_refusal k masks names rules w (length order) (length table) (length sets) ≡ none
              unrefused = admitted ∙ rw (le-ltb (capacity layout (length table)) P fits, le-ltb (length sets) (P * P) room, lowest)

              pub answer_order : VerdictIs masks rules w order order' true → Promise k masks names rules w order order' table table' sets sets' (Ok (Order Q n))
              answer_order v = record { refused = sym unrefused; told = (v.0, v.1, v.2, c) }

              pub answer_none : VerdictIs masks rules w order order' false → Promise k masks names rules w order order' table table' sets sets' (Ok (NoOrder Q n))
              answer_none v = record { refused = sym unrefused; told = (v.0, v.1, c) }
