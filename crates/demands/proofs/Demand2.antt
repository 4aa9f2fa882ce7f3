-- Demand 2 as theorems about what the calls promise, where the masks are symmetric: "Verdicts, prefix tables, comparison and first-order form agree with the trace
-- languages of Avellone and Goldwurm (1998)". `Promise p w order order' table table' j` is what holds of a call of the judge with profile p and log w that
-- was lent `order` and `table`, whatever these held, left `order'` and `table'`, and answered j.
use Rattle.std.specs.Prelude.{Result, Ok, Err}
use mathlib.Core.Path.{◌≡◌, refl, sym, ◌∙◌, ap, subst}
use mathlib.Core.Bool.{Bool, true, false}
use mathlib.Core.Logic.{⊎_elim, ◌↔◌, ◌≢◌}
use mathlib.Core.List.Memᴰ
use mathlib.Core.List.{List, [], ◌∷◌, ◌++◌}
use mathlib.Core.Option.{Option, none, some, some-ne-none, some-injective}
use Prim.Native.Nat.{ℕ, ◌≤◌}
use native.Mathlib.Omega.{arith}
use borrow.Author.Tests.{ltb-false}
use lib.ListN.{length, get_or, take, drop}
use lib.Seq.{drop_at}
use Rattle.profile.specs.Automata.{Accepted, Profile, automaton}
use Rattle.profile.specs.Lists.{Mem}
use Rattle.profile.specs.Orders.{Earlier, NoLater, first_order, same?}
use Rattle.profile.specs.Refusals.{first_order_refusal, first_order_refusals, full_table, judge_refusal, log_refusals, lowest, of_log, profile_refusals, relation_refusals, same_refusal, short_buffer}
use Rattle.profile.specs.Rules.{plain, prefixes_by}
use Rattle.profile.specs.Source.{Congruent, InLanguage, cong_sym, cong_trans}
use Rattle.profile.specs.Tables.{layout}
use Rattle.profile.specs.Traces.{Symmetric, independent, orders}
use Rattle.profile.specs.declared.Refusal.{Refusal}
use Rattle.profile.specs.declared.Refusal.TheVariants.{FullTable, ShortBuffer}
use Rattle.profile.proofs.Traces.{cong_of_reach, order_of_mem, reach_of_cong, reach_orders, takes_length}
use Rattle.theory.proofs.Agreement.{Representatives, prefix_count_traces, representatives_length, same_congruent}
use Rattle.theory.proofs.Earliest.{earliest_at, first_of}
use Rattle.theory.proofs.Profiles.{distinct}
use Rattle.theory.proofs.Refusals.{GoodLog, GoodProfile, log_at, lowest_none, profile_at}
use Rattle.theory.proofs.Tables.{Holds}
use Rattle.table.specs.Table as table
use Rattle.table.specs.declared.Filled.{Filled}
use Rattle.verdict.specs.Verdict.{Promise, refused_by, verdict_number}
use Rattle.verdict.specs.declared.Judged.{Judged}
use Rattle.verdict.specs.declared.Judged.TheVariants.{NoOrder, Order}
use Rattle.verdict.proofs.Judging.{admitted}
use Rattle.verdict.proofs.Promises.{told_prefixes}
use Rattle.verdict.proofs.Demands as judge
use Rattle.comparison.specs.Comparison.{compared_as, compared_values, comparison}
use Rattle.comparison.proofs.Answers.{compared_same}
use Rattle.order.specs.Order.{first_letters, letters_or_none, ordered_buffer}
use Rattle.order.proofs.Answers.{answers}
use Rattle.order.proofs.NormalForm.{equal_same, equal_written, written}
use Rattle.demands.specs.Traces.{HoldsTraces}
use Rattle.demands.proofs.Records.{holds_traces}

-- the two verdicts are different
zero_one : ◌≡◌ {A = Option ℕ} (some 0) (some 1) → ⊥
zero_one e = let q = some-injective 0 1 e in omega arith

-- ---- the number of prefixes, where profile and log are good

module _ (p : Profile) (symmetric : Symmetric (independent p.masks)) (w : List ℕ) (good : GoodProfile p) (log : GoodLog p.k w) where
  count_of : (l : List (List ℕ)) → Representatives (independent p.masks) w l → length l ≡ prefixes_by (plain p) w
  count_of = representatives_length (independent p.masks) (λ a. a) symmetric (distinct p.masks good.relation.own) p.k w log.letters

  some_list : (l : List (List ℕ)) × Representatives (independent p.masks) w l × (length l ≡ prefixes_by (plain p) w)
  some_list = prefix_count_traces (independent p.masks) (λ a. a) symmetric (distinct p.masks good.relation.own) p.k w log.letters

-- ---- the judge

-- P, as it is told, and the table of a call that is not refused
told_count : (p : Profile) (w : List ℕ) {order order' table table' : List ℕ} (j : Result Judged Refusal) → Promise p w order order' table table' j → refused_by j ≡ none
    → told_prefixes j ≡ some (prefixes_by (plain p) w)
told_count p w (Err r) h e = absurd (some-ne-none r e)
told_count p w (Ok (NoOrder P n)) h e = ap some h.told.2.prefixes
told_count p w (Ok (Order P n)) h e = ap some h.told.3.prefixes

held : (p : Profile) (w : List ℕ) {order order' table table' : List ℕ} → GoodLog p.k w → (j : Result Judged Refusal) → Promise p w order order' table table' j → refused_by j ≡ none
    → Holds layout (independent p.masks) (λ a. a) (automaton p) p.k w table table'
held p w log (Err r) h e = absurd (some-ne-none r e)
held p w log (Ok (NoOrder P n)) h e = record { letters = log.letters; written = h.told.2.table }
held p w log (Ok (Order P n)) h e = record { letters = log.letters; written = h.told.3.table }

module _ (p : Profile) (symmetric : Symmetric (independent p.masks)) (w order order' table table' : List ℕ)
    (j : Result Judged Refusal) (call : Promise p w order order' table table' j) (answered : refused_by j ≡ none) where
  unrefused : judge_refusal p w (length order) (length table) ≡ none
  unrefused = sym call.refused ∙ answered

  good : GoodProfile p
  good = (admitted p w order table unrefused).profile

  log : GoodLog p.k w
  log = (admitted p w order table unrefused).log

  -- verdict 1 exactly when [w] is in the trace language [L] of the profile, 0 exactly when it is not
  pub verdict_trace : (verdict_number j ≡ some 1) ↔ InLanguage (independent p.masks) (λ a. a) (automaton p) w
  verdict_trace = (
    λ e. let x = (judge.order_exactly p w order order' table table' unrefused j call e).0 in
        record { word = take (length w) order'; same = cong_of_reach (independent p.masks) x.reached; accepted = x.accepted },
    λ l. ⊎_elim
        (λ z. absurd ((judge.no_order_exactly p w order order' table table' unrefused j call).0 z l.word
        (record { reached = reach_of_cong (independent p.masks) symmetric l.same; accepted = l.accepted })))
        (λ e. e)
        (judge.verdict_cases p w order order' table table' unrefused j call),
  )

  pub no_order_trace : (verdict_number j ≡ some 0) ↔ (InLanguage (independent p.masks) (λ a. a) (automaton p) w → ⊥)
  no_order_trace = (
    λ z l. zero_one (sym z ∙ verdict_trace.1 l),
    λ f. ⊎_elim (λ z. z) (λ e. absurd (f (verdict_trace.0 e))) (judge.verdict_cases p w order order' table table' unrefused j call),
  )

  -- the order is the least accepted word of [w]
  pub order_trace : verdict_number j ≡ some 1
      → Congruent (independent p.masks) w (take (length w) order') × Accepted (automaton p) (λ a. a) (take (length w) order')
      × ((u : List ℕ) → Congruent (independent p.masks) w u → Accepted (automaton p) (λ a. a) u → u ≢ take (length w) order' → Earlier (take (length w) order') u)
  order_trace e = let x = judge.order_exactly p w order order' table table' unrefused j call e in (
    cong_of_reach (independent p.masks) x.0.reached,
    x.0.accepted,
    λ u c a ne. x.1 u (record { reached = reach_of_cong (independent p.masks) symmetric c; accepted = a }) ne,
  )

  -- P is the number of prefixes of [w]: any list that has one word of each is so long, and there is one
  pub prefixes_trace : (l : List (List ℕ)) → Representatives (independent p.masks) w l → told_prefixes j ≡ some (length l)
  prefixes_trace l r = told_count p w j call answered ∙ ap some (sym (count_of p symmetric w good log l r))

  pub prefixes_listed : (l : List (List ℕ)) × Representatives (independent p.masks) w l × (told_prefixes j ≡ some (length l))
  prefixes_listed = let n = some_list p symmetric w good log in (n.0, n.1, prefixes_trace n.0 n.1)

  -- the table has a record for each prefix of [w], its forward V_t and its backward that of the rest
  pub table_trace : (P : ℕ) → told_prefixes j ≡ some P → HoldsTraces p w table' P
  table_trace P e =
      let q : prefixes_by (plain p) w ≡ P = some-injective _ _ (sym (told_count p w j call answered) ∙ e) in
      subst (HoldsTraces p w table') q (holds_traces p w table table' good log symmetric (held p w log j call answered))

-- ---- the table

module _ (p : Profile) (symmetric : Symmetric (independent p.masks)) (w before after : List ℕ) (f : Filled) (call : table.Promise p w before after (Ok f)) where
  tenth : List (Bool × Refusal)
  tenth = (full_table (prefixes_by (plain p) w) (length before), FullTable) ∷ []

  conditions : (c : Bool × Refusal) → Mem c (table.build_refusals p w (length before)) → c.0 ≡ false
  conditions = (lowest_none (table.build_refusals p w (length before))).0 (sym call.refused)

  good_profile : GoodProfile p
  unfolding tenth
  good_profile = profile_at p ((lowest_none (profile_refusals p)).1 (λ c m. conditions c (Memᴰ.append_left (log_refusals p.k w ++ tenth) m)))

  good_log : GoodLog p.k w
  unfolding tenth
  good_log = log_at p.k w ((lowest_none (log_refusals p.k w)).1 (λ c m. conditions c (Memᴰ.append_right (profile_refusals p) (Memᴰ.append_left tenth m))))

  pub built_prefixes : (l : List (List ℕ)) → Representatives (independent p.masks) w l → length l ≡ f.prefixes
  built_prefixes l r = count_of p symmetric w good_profile good_log l r ∙ sym call.table.0

  pub built_trace : HoldsTraces p w after f.prefixes
  built_trace = subst (HoldsTraces p w after) (sym call.table.0)
      (holds_traces p w before after good_profile good_log symmetric (record { letters = good_log.letters; written = call.table.2 }))

-- ---- comparison

module _ (k : ℕ) (masks : List ℕ) (symmetric : Symmetric (independent masks)) (v w : List ℕ) (unrefused : same_refusal k masks v w ≡ none) where
  passes : (c : Bool × (Refusal × ℕ)) → Mem c (of_log 0 (relation_refusals k masks) ++ (of_log 1 (log_refusals k v) ++ of_log 2 (log_refusals k w))) → c.0 ≡ false
  passes = (lowest_none (of_log 0 (relation_refusals k masks) ++ (of_log 1 (log_refusals k v) ++ of_log 2 (log_refusals k w)))).0 unrefused

  good_relation : lowest (relation_refusals k masks) ≡ none
  good_relation = (lowest_none (relation_refusals k masks)).1 (λ c m. passes (c.0, (c.1, 0))
      (Memᴰ.append_left (of_log 1 (log_refusals k v) ++ of_log 2 (log_refusals k w)) (Memᴰ.map (λ (d : Bool × Refusal). (d.0, (d.1, 0))) m)))

  good_first : lowest (log_refusals k v) ≡ none
  good_first = (lowest_none (log_refusals k v)).1 (λ c m. passes (c.0, (c.1, 1))
      (Memᴰ.append_right (of_log 0 (relation_refusals k masks)) (Memᴰ.append_left (of_log 2 (log_refusals k w)) (Memᴰ.map (λ (d : Bool × Refusal). (d.0, (d.1, 1))) m))))

  good_second : lowest (log_refusals k w) ≡ none
  good_second = (lowest_none (log_refusals k w)).1 (λ c m. passes (c.0, (c.1, 2))
      (Memᴰ.append_right (of_log 0 (relation_refusals k masks)) (Memᴰ.append_right (of_log 1 (log_refusals k v)) (Memᴰ.map (λ (d : Bool × Refusal). (d.0, (d.1, 2))) m))))

  -- `same` says yes exactly when the logs are congruent, no exactly when they are not
  pub same_trace : (comparison k masks v w ≡ Ok true) ↔ Congruent (independent masks) v w
  same_trace =
      let s = equal_same k masks good_relation v w good_first good_second in
      let c = same_congruent (independent masks) (λ a. a) symmetric v w in
      (λ e. c.0 (s.0 e), λ h. s.1 (c.1 h))

  pub different_trace : (comparison k masks v w ≡ Ok false) ↔ (Congruent (independent masks) v w → ⊥)
  different_trace = (
    λ d c. let z = ap (λ x. get_or (compared_values x) 0 2) (sym d ∙ same_trace.1 c) in absurd (omega arith),
    λ f. go (same? (independent masks) k v w) (compared_same k masks v w good_relation good_first good_second refl) f,
  )
    where
      go : (b : Bool) → comparison k masks v w ≡ compared_as none b → (Congruent (independent masks) v w → ⊥) → comparison k masks v w ≡ Ok false
      go true e f = absurd (f (same_trace.0 e))
      go false e f = e

-- ---- first order

module _ (k : ℕ) (masks : List ℕ) (symmetric : Symmetric (independent masks)) where
  module _ (w before : List ℕ) (unrefused : first_order_refusal k masks w (length before) ≡ none) where
    passes_first : (c : Bool × Refusal) → Mem c (first_order_refusals k masks w (length before)) → c.0 ≡ false
    passes_first = (lowest_none (first_order_refusals k masks w (length before))).0 unrefused

    ordered_relation : lowest (relation_refusals k masks) ≡ none
    ordered_relation = (lowest_none (relation_refusals k masks)).1 (λ c m. passes_first c (Memᴰ.append_left (log_refusals k w ++ ((short_buffer (length before) w, ShortBuffer) ∷ [])) m))

    ordered_log : lowest (log_refusals k w) ≡ none
    ordered_log = (lowest_none (log_refusals k w)).1
        (λ c m. passes_first c (Memᴰ.append_right (relation_refusals k masks) (Memᴰ.append_left ((short_buffer (length before) w, ShortBuffer) ∷ []) m)))

    room : length w ≤ length before
    room = ltb-false (length before) (length w) (passes_first (short_buffer (length before) w, ShortBuffer) (Memᴰ.append_right (relation_refusals k masks) (Memᴰ.append_right (log_refusals k w) (Memᴰ.head refl))))

    is_first : first_order (independent masks) w ≡ some (first_letters masks w)
    is_first = let n = first_of (independent masks) w in n.1 ∙ ap some (sym (ap letters_or_none n.1))

    first_bytes : take (length w) (ordered_buffer k masks w before) ≡ first_letters masks w
    first_bytes = written k masks ordered_relation w before ordered_log room

    -- what is written is a word of [w]
    trace_written : Congruent (independent masks) w (take (length w) (ordered_buffer k masks w before))
    trace_written =
        subst (Congruent (independent masks) w) (sym first_bytes) (cong_of_reach (independent masks) ((reach_orders (independent masks) w (first_letters masks w)).1 (earliest_at (orders (independent masks) w) is_first).0))

    -- what is written is the least word of [w]; the other bytes stay
    pub first_trace : Congruent (independent masks) w (take (length w) (ordered_buffer k masks w before))
        × ((u : List ℕ) → Congruent (independent masks) w u → NoLater (take (length w) (ordered_buffer k masks w before)) u)
        × (drop (length w) (ordered_buffer k masks w before) ≡ drop (length w) before)
    first_trace =
        let n = earliest_at (orders (independent masks) w) is_first in (
          trace_written,
          (λ u c. subst (λ v. NoLater v u) (sym first_bytes) (n.1 u ((reach_orders (independent masks) w u).0 (reach_of_cong (independent masks) symmetric c)))),
          sym (ap (drop (length w)) (answers k masks w before unrefused).1) ∙ drop_at (first_letters masks w) (drop (length w) before) (length w)
              (omega (arith, takes_length (independent masks) (order_of_mem (independent masks) w n.0))),
        )

  -- the bytes written for two logs are equal exactly when the logs are congruent
  pub first_orders_trace : (v w before after : List ℕ) → first_order_refusal k masks v (length before) ≡ none → first_order_refusal k masks w (length after) ≡ none
      → (take (length v) (ordered_buffer k masks v before) ≡ take (length w) (ordered_buffer k masks w after)) ↔ Congruent (independent masks) v w
  first_orders_trace v w before after e f = (
    λ q. cong_trans (subst (Congruent (independent masks) v) q (trace_written v before e)) (cong_sym (trace_written w after f)),
    λ c.
        let r = ordered_relation v before e in
        equal_written k masks r v w (ordered_log v before e) (ordered_log w after f) before after (room v before e) (room w after f)
        ((equal_same k masks r v w (ordered_log v before e) (ordered_log w after f)).1 ((same_congruent (independent masks) (λ a. a) symmetric v w).1 c)),
  )
