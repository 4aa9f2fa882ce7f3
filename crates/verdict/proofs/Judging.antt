-- The judge's answer from the table's promise: which refusal is given, and what is told.
use mathlib.Core.Path.{◌≡◌, refl, sym, ◌∙◌, ap}
use Rattle.std.specs.Prelude.{Ok, Err}
use mathlib.Core.Bool.{Bool, true, false, true≢false}
use mathlib.Core.List.Memᴰ
use mathlib.Core.List.{List, [], ◌∷◌, ◌++◌, append_assoc}
use mathlib.Core.Option.{Option, none, some}
use Prim.Native.Nat.{ℕ, ◌≤◌, ◌<◌}
use native.Mathlib.Omega.{arith}
use borrow.Author.Tests.{lt-ltb, le-ltb, ltb-false}
use lib.ListN.{length, drop}
use Rattle.profile.specs.Automata.{Profile}
use Rattle.profile.specs.Rules.{Rules, order_by, plain, prefixes_by}
use Rattle.profile.specs.Refusals.{admission_refusals, full_table, judge_refusal, judge_refusals, log_refusals, lowest, profile_refusals}
use Rattle.profile.specs.declared.Refusal.{Refusal}
use Rattle.profile.specs.declared.Refusal.TheVariants.{FullTable, ShortBuffer}
use Rattle.profile.specs.Tables.{capacity, layout}
use Rattle.theory.proofs.Refusals.{lowest_append, lowest_first, lowest_none}
use Rattle.theory.proofs.Refusals.{Admitted, GoodEvents, GoodProfile, admitted_at, log_at, plain_events, profile_at}
use Rattle.theory.proofs.Calls.{order_by_length}
use Rattle.table.specs.Table.{build_refusals}
use Rattle.table.specs.Table as Built
use Rattle.table.specs.declared.Filled.{Filled}
use Rattle.earliest.specs.Earliest.{Table, found?, with_order}
use Rattle.verdict.specs.Verdict.{Counted, Promise, PromiseBy}
use Rattle.verdict.specs.declared.Judged.TheVariants.{NoOrder, Order}

-- a condition that does not hold is passed over
pub lowest_skip : {A : Type 0} (l r : List (Bool × A)) (x : A) → lowest (l ++ ((false, x) ∷ r)) ≡ lowest (l ++ r)
lowest_skip [] r x = refl
lowest_skip (c ∷ l) r x = go c.0 refl (lowest_skip l r x)
  where
    go : (b : Bool) → c.0 ≡ b → lowest (l ++ ((false, x) ∷ r)) ≡ lowest (l ++ r) → lowest (c ∷ (l ++ ((false, x) ∷ r))) ≡ lowest (c ∷ (l ++ r))
    go true e h = rw (e, lowest)
    go false e h = rw (e, lowest) h

module _ (p : Profile) (w : List ℕ) (n m : ℕ) where
  -- the conditions before 9, and that of 10
  abbrev early : List (Bool × Refusal)
  early = profile_refusals p ++ log_refusals p.k w

  abbrev tenth : List (Bool × Refusal)
  tenth = (full_table (prefixes_by (plain p) w) m, FullTable) ∷ []

  regroup : (b : Bool) → (profile_refusals p ++ (log_refusals p.k w ++ ((b, ShortBuffer) ∷ []))) ++ tenth ≡ early ++ ((b, ShortBuffer) ∷ tenth)
  regroup b = simp append_assoc

  -- where the order fits, the judge refuses as building does
  pub order_fits : length w ≤ n → judge_refusal p w n m ≡ lowest (build_refusals p w m)
  order_fits h =
      ap (λ b. lowest ((profile_refusals p ++ (log_refusals p.k w ++ ((b, ShortBuffer) ∷ []))) ++ tenth)) (le-ltb n (length w) h)
      ∙ ap lowest (regroup false) ∙ lowest_skip early tenth ShortBuffer ∙ ap lowest (append_assoc (profile_refusals p) (log_refusals p.k w) tenth)

  -- where it does not, by the lowest of the refusals up to 9
  pub order_short : {r : Refusal} → n < length w → some r ≡ lowest (profile_refusals p ++ (log_refusals p.k w ++ ((true, ShortBuffer) ∷ []))) → some r ≡ judge_refusal p w n m
  order_short h e =
      sym (ap (λ b. lowest ((profile_refusals p ++ (log_refusals p.k w ++ ((b, ShortBuffer) ∷ []))) ++ tenth)) (lt-ltb n (length w) h)
      ∙ lowest_first (profile_refusals p ++ (log_refusals p.k w ++ ((true, ShortBuffer) ∷ []))) tenth (sym e))

-- a call that is not refused has an admitted log
pub admitted : (p : Profile) (w order table : List ℕ) → judge_refusal p w (length order) (length table) ≡ none → Admitted p w (length order)
admitted p w order table e =
    let f = (lowest_none (judge_refusals p w (length order) (length table))).0 e in
    admitted_at p w (length order) ((lowest_none (admission_refusals p w (length order))).1
    (λ c m. f c (Memᴰ.append_left (tenth p w (length order) (length table)) m)))

-- ---- what is told

-- the order has as many letters as the log
pub order_length : (p : Profile) (w : List ℕ) {v : List ℕ} → order_by (plain p) w ≡ some v → length v ≡ length w
order_length p w e = order_by_length (plain p) w e

-- the table is filled for the events w, and nothing refuses the call
module _ (p : Rules) (w order table table' : List ℕ) (q : Option Refusal) (f : Filled) (unrefused : none ≡ q) (h : Built.promised p w table table' (Ok f)) where
  counted : Counted p w table table' f.prefixes f.looks
  counted = record { prefixes = h.0; looks = h.1; table = h.2 }

  -- there is no order
  pub none_told : (order' : List ℕ) → found? (order_by p w) ≡ false → order' ≡ with_order (order_by p w) order → PromiseBy p w order order' table table' q (Ok (NoOrder f.prefixes f.looks))
  none_told order' i e = go (order_by p w) refl i e
    where
      go : (o : Option (List ℕ)) → order_by p w ≡ o → found? o ≡ false → order' ≡ with_order o order → PromiseBy p w order order' table table' q (Ok (NoOrder f.prefixes f.looks))
      go none i g e = record { refused = unrefused; told = (i, e, counted) }
      go (some v) i g e = absurd (true≢false g)

  -- there is one
  pub some_told : (order' : List ℕ) → found? (order_by p w) ≡ true → order' ≡ with_order (order_by p w) order → PromiseBy p w order order' table table' q (Ok (Order f.prefixes f.looks))
  some_told order' i e = go (order_by p w) refl i e
    where
      go : (o : Option (List ℕ)) → order_by p w ≡ o → found? o ≡ true → order' ≡ with_order o order → PromiseBy p w order order' table table' q (Ok (Order f.prefixes f.looks))
      go none i g e = absurd (true≢false (sym g))
      go (some v) i g e = record { refused = unrefused; told = (v, i, e ∙ ap (λ k. v ++ drop k order) (order_by_length p w i), counted) }

  -- what the extraction asks of the table
  pub table_ready : GoodProfile p.profile → GoodEvents p w → prefixes_by p w ≤ capacity layout (length table) → length table' ≡ length table → Table p w table'
  table_ready good log fits l = record { profile = good; log = log; before = table; holds = h.2; room = omega (arith, l, fits) }

module _ (p : Profile) (w order table : List ℕ) where
  -- the order buffer is too short
  pub told_short : {r : Refusal} → length order < length w
      → some r ≡ lowest (profile_refusals p ++ (log_refusals p.k w ++ ((true, ShortBuffer) ∷ []))) → Promise p w order order table table (Err r)
  told_short h e = record { refused = order_short p w (length order) (length table) h e; told = (refl, λ ne. refl, record { long = refl; rest = refl }) }

  module _ (fits : length w ≤ length order) (table' : List ℕ) where
    -- building is refused
    pub told_refused : (r : Refusal) → Built.Promise p w table table' (Err r) → Promise p w order order table table' (Err r)
    told_refused r h = record { refused = h.refused ∙ sym (order_fits p w (length order) (length table) fits); told = (refl, h.table.0, h.table.1) }

    module _ (f : Filled) (h : Built.Promise p w table table' (Ok f)) where
      unrefused : none ≡ judge_refusal p w (length order) (length table)
      unrefused = h.refused ∙ sym (order_fits p w (length order) (length table) fits)

      pub told_none : (order' : List ℕ) → found? (order_by (plain p) w) ≡ false → order' ≡ with_order (order_by (plain p) w) order → Promise p w order order' table table' (Ok (NoOrder f.prefixes f.looks))
      told_none = none_told (plain p) w order table table' _ f unrefused h.table

      pub told_some : (order' : List ℕ) → found? (order_by (plain p) w) ≡ true → order' ≡ with_order (order_by (plain p) w) order → Promise p w order order' table table' (Ok (Order f.prefixes f.looks))
      told_some = some_told (plain p) w order table table' _ f unrefused h.table

      pub ready : length table' ≡ length table → Table (plain p) w table'
      ready l =
          let n = (lowest_none (build_refusals p w (length table))).0 (sym h.refused) in
          let t = tenth p w (length order) (length table) in
          let good = profile_at p ((lowest_none (profile_refusals p)).1 (λ c m. n c (Memᴰ.append_left (log_refusals p.k w ++ t) m))) in
          let log = log_at p.k w ((lowest_none (log_refusals p.k w)).1 (λ c m. n c (Memᴰ.append_right (profile_refusals p) (Memᴰ.append_left t m)))) in
          table_ready (plain p) w order table table' none f refl h.table good (plain_events p w good log)
          (ltb-false (capacity layout (length table)) (prefixes_by (plain p) w)
          (n _ (Memᴰ.append_right (profile_refusals p) (Memᴰ.append_right (log_refusals p.k w) (Memᴰ.head refl))))) l

-- ---- the refusals up to 9

module _ (p : Profile) (w : List ℕ) where
  abbrev upto_nine : List (Bool × Refusal)
  upto_nine = profile_refusals p ++ (log_refusals p.k w ++ ((true, ShortBuffer) ∷ []))

  pub profile_first : {r : Refusal} → lowest (profile_refusals p) ≡ some r → some r ≡ lowest upto_nine
  profile_first e = sym (lowest_first (profile_refusals p) (log_refusals p.k w ++ ((true, ShortBuffer) ∷ [])) e)

  pub log_next : {r : Refusal} → lowest (profile_refusals p) ≡ none → lowest (log_refusals p.k w) ≡ some r → some r ≡ lowest upto_nine
  log_next a b = sym (lowest_append (profile_refusals p) (log_refusals p.k w ++ ((true, ShortBuffer) ∷ [])) a ∙ lowest_first (log_refusals p.k w) ((true, ShortBuffer) ∷ []) b)

  pub buffer_last : lowest (profile_refusals p) ≡ none → lowest (log_refusals p.k w) ≡ none → some ShortBuffer ≡ lowest upto_nine
  buffer_last a b =
      sym (lowest_append (profile_refusals p) (log_refusals p.k w ++ ((true, ShortBuffer) ∷ [])) a ∙ lowest_append (log_refusals p.k w) ((true, ShortBuffer) ∷ []) b)

-- no order: the buffer stays
pub none_found : (o : Option (List ℕ)) (b : List ℕ) → found? o ≡ false → b ≡ with_order o b
none_found none b e = refl
none_found (some v) b e = absurd (true≢false e)
