-- Demand 2 over the numbers of `fumarehi_table`, `fumarehi_same` and `fumarehi_first_order`, where the masks are symmetric.
use Rattle.std.specs.Prelude.{Result, Ok, Err}
use mathlib.Core.Path.{◌≡◌, refl, sym, ◌∙◌, ap, subst}
use mathlib.Core.Bool.{Bool, true, false}
use mathlib.Core.Logic.{◌↔◌}
use mathlib.Core.List.{List, [], ◌∷◌}
use mathlib.Core.Option.{Option, none, some, some-ne-none}
use Prim.Native.Nat.{ℕ}
use native.Mathlib.Omega.{arith}
use lib.ListN.{length, get_or, take, drop}
use Rattle.profile.specs.Automata.{Profile}
use Rattle.profile.specs.Orders.{NoLater, same?}
use Rattle.profile.specs.Refusals.{first_order_refusal, refused_by, same_refusal}
use Rattle.profile.specs.Source.{Congruent}
use Rattle.profile.specs.Traces.{Symmetric, independent}
use Rattle.profile.specs.declared.Refusal.{Refusal}
use Rattle.table.specs.Table as table
use Rattle.table.specs.declared.Filled.{Filled}
use Rattle.comparison.specs.Comparison.{compared_as, comparison}
use Rattle.comparison.specs.declared.RefusedLog.{RefusedLog}
use Rattle.order.specs.Order.{ordered_as, ordered_buffer, ordering}
use Rattle.grammar_judge.specs.GrammarJudge.{grammar_refusals}
use Rattle.capi.specs.Numbers.{Building, built_code, built_told, compared_code, compared_told, ordered_code}
use Rattle.demands.specs.Admitted.{Buildable, admitted?}
use Rattle.demands.specs.Traces.{HoldsTraces}
use Rattle.demands.proofs.Demand2.{built_trace, first_trace, same_trace}
use Rattle.demands.proofs.Demand3.{built_admitted}
use Rattle.call_demands.proofs.Numbers.{zero_unused}

-- ---- the table

zero_built : (b : Result Filled Refusal) → (built_code b ≡ 0) ↔ (refused_by b ≡ none)
zero_built (Err r) = ((λ e. absurd (zero_unused r e)), λ e. absurd (some-ne-none r e))
zero_built (Ok f) = ((λ e. refl), λ e. refl)

holds_built : (p : Profile) (symmetric : Symmetric (independent p.masks)) (w before after : List ℕ) (b : Result Filled Refusal) → table.Promise p w before after b → built_code b ≡ 0
    → HoldsTraces p w after (get_or (built_told b) 1 0)
holds_built p symmetric w before after (Err r) h e = absurd (zero_unused r e)
holds_built p symmetric w before after (Ok f) h e = built_trace p symmetric w before after f h

module _ (p : Profile) (w before after : List ℕ) (code : ℕ) (told : List ℕ) (call : Building p w before after code told) where
  -- 0 is returned exactly when the log is admitted and its prefixes fit the table
  pub table_zero : (code ≡ 0) ↔ Buildable p w (length before)
  table_zero =
      let z = zero_built call.answer in
      let a = built_admitted p w before after call.answer call.promise in
      (λ e. a.0 (z.0 (sym call.code_is ∙ e)), λ r. call.code_is ∙ z.1 (a.1 r))

  -- then the table holds the prefixes of the trace, as many as the second number told
  pub table_told : Symmetric (independent p.masks) → code ≡ 0 → HoldsTraces p w after (get_or told 1 0)
  table_told symmetric e = subst (λ t. HoldsTraces p w after (get_or t 1 0)) (sym call.told_is)
      (holds_built p symmetric w before after call.answer call.promise (sym call.code_is ∙ e))

-- ---- comparison

-- the third number is 1 for yes
one_equal : (c : Result Bool RefusedLog) → (get_or (compared_told c) 2 0 ≡ 1) ↔ (c ≡ Ok true)
one_equal (Ok true) = ((λ e. refl), λ e. refl)
one_equal (Ok false) = ((λ e. absurd (omega arith)), λ e. ap (λ x. get_or (compared_told x) 2 0) e)
one_equal (Err r) = ((λ e. absurd (omega arith)), λ e. ap (λ x. get_or (compared_told x) 2 0) e)

module _ (k : ℕ) (masks : List ℕ) (symmetric : Symmetric (independent masks)) (v w : List ℕ) (code : ℕ) (told : List ℕ)
    (code_is : code ≡ compared_code (comparison k masks v w)) (told_is : told ≡ compared_told (comparison k masks v w)) where
  -- where 0 is returned, yes is told exactly of congruent logs
  pub same_told : code ≡ 0 → (get_or told 2 0 ≡ 1) ↔ Congruent (independent masks) v w
  same_told e =
      let s = same_trace k masks symmetric v w (go (same_refusal k masks v w) refl) in
      let o = one_equal (comparison k masks v w) in
      (λ i. s.0 (o.0 (ap (λ t. get_or t 2 0) (sym told_is) ∙ i)), λ c. ap (λ t. get_or t 2 0) told_is ∙ o.1 (s.1 c))
    where
      go : (o : Option (Refusal × ℕ)) → same_refusal k masks v w ≡ o → same_refusal k masks v w ≡ none
      go none q = q
      go (some r) q = absurd (zero_unused r.0 (sym (code_is ∙ ap (λ o. compared_code (compared_as o (same? (independent masks) k v w))) q) ∙ e))

-- ---- first order

module _ (k : ℕ) (masks : List ℕ) (symmetric : Symmetric (independent masks)) (w before after : List ℕ) (code : ℕ)
    (code_is : code ≡ ordered_code (ordering k masks w (length before))) (buffer : after ≡ ordered_buffer k masks w before) where
  -- where 0 is returned, the first bytes are the least word of [w], and the others stay
  pub first_order_told : code ≡ 0 → Congruent (independent masks) w (take (length w) after)
      × ((u : List ℕ) → Congruent (independent masks) w u → NoLater (take (length w) after) u) × (drop (length w) after ≡ drop (length w) before)
  first_order_told e = subst (λ b. Congruent (independent masks) w (take (length w) b)
      × ((u : List ℕ) → Congruent (independent masks) w u → NoLater (take (length w) b) u) × (drop (length w) b ≡ drop (length w) before)) (sym buffer)
      (first_trace k masks symmetric w before (go (first_order_refusal k masks w (length before)) refl))
    where
      go : (o : Option Refusal) → first_order_refusal k masks w (length before) ≡ o → first_order_refusal k masks w (length before) ≡ none
      go none q = q
      go (some r) q = absurd (zero_unused r (sym (code_is ∙ ap (λ o. ordered_code (ordered_as o)) q) ∙ e))

-- ---- 22 is a refusal "added by a later paper", so that a log to which it applies is not admitted

-- the empty log has one prefix: one set is enough, none is not
pub short_sets_not_admitted : (admitted? (grammar_refusals 1 (0 ∷ []) 1 (0 ∷ []) [] 0 10 1) ≡ true) × (admitted? (grammar_refusals 1 (0 ∷ []) 1 (0 ∷ []) [] 0 10 0) ≡ false)
short_sets_not_admitted = (refl, refl)
