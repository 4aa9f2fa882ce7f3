-- Demands 1 and 3 as theorems about what `view` promises, and its secrecy: `Viewed p visible w order order' table table' j` is what holds of a call with
-- profile p, mask `visible` and log w that was lent `order` and `table`, whatever these held, left `order'` and `table'`, and answered j.
use mathlib.Core.Path.{◌≡◌, refl, sym, ◌∙◌, ap, ap₂, subst}
use mathlib.Core.Bool.{Bool, true, false, cond}
use mathlib.Core.Logic.{◌⊎◌, inl, inr, ◌↔◌, ◌≢◌}
use mathlib.Core.List.{List, [], ◌∷◌, ◌++◌}
use mathlib.Core.Option.{Option, none, some, some-ne-none, some-injective}
use Prim.Native.Nat.{ℕ, ◌+◌, ◌*◌, ◌<◌}
use native.Mathlib.Omega.{arith}
use lib.Dec.{T, eqb, ltb}
use lib.ListN.{length, get_or, take, drop}
use lib.Seq.{drop_at, take_at}
use Rattle.profile.specs.Traces.{bit, independent, letters_below}
use Rattle.profile.specs.Automata.{Profile}
use Rattle.profile.specs.Orders.{Earlier, Same, accepted_order}
use Rattle.profile.specs.Prefixes.{looks, prefix_count}
use Rattle.profile.specs.Tables.{layout, packed, record_length, table_of}
use Rattle.profile.specs.Refusals.{bit_from, log_refusals, lowest, profile_refusals, refusal_number}
use Rattle.profile.specs.declared.Refusal.{Refusal}
use Rattle.profile.specs.declared.Refusal.TheVariants.{ViewBit}
use Rattle.profile.proofs.Traces.{order_of_reach, takes_length}
use Rattle.theory.proofs.Comparison.{accepted_order_same, by_total_same, prefix_count_same}
use Rattle.theory.proofs.Looks.{looks_same}
use Rattle.theory.proofs.Profiles.{distinct}
use Rattle.theory.proofs.Refusals.{GoodProfile, log_at, lowest_append, lowest_first, profile_at}
use Rattle.theory.proofs.Tables.{Holds, holds_counts}
use Rattle.verdict.specs.Verdict.{refused_by, verdict_number}
use Rattle.verdict.specs.declared.Judged.{Judged}
use Rattle.std.specs.Prelude.{Result, Err}
use Rattle.views.specs.Views.{Shown, buffer_refusals, entry_refusals, seen, view, view_looks, view_order, view_prefixes, view_refusal}
use Rattle.views.proofs.Refused.{entry_log, entry_profile}
use Rattle.views.proofs.Said.{filter_keeps, view_earliest, view_none}
use Rattle.cleared.specs.Cleared.{cleared, order_as, table_as, told_as}
use Rattle.view.specs.Viewing.{Viewed}
use Rattle.seeing.proofs.Told.{refused_told}

-- ---- secrecy

-- conditions that do not hold can be left out
pub lowest_skip : {A : Type 0} (x l y : List (Bool × A)) → lowest l ≡ none → lowest (x ++ (l ++ y)) ≡ lowest (x ++ y)
lowest_skip [] l y e = lowest_append l y e
lowest_skip (c ∷ x) l y e = go c.0 refl (lowest_skip x l y e)
  where
    go : (b : Bool) → c.0 ≡ b → lowest (x ++ (l ++ y)) ≡ lowest (x ++ y) → lowest (c ∷ (x ++ (l ++ y))) ≡ lowest (c ∷ (x ++ y))
    go true q ih = rw (q, lowest) refl
    go false q ih = rw (q, lowest) ih

-- the refusal of a log that passes 7 and 8, by its visible part
by_seen : (p : Profile) (visible : ℕ) (w : List ℕ) (n m : ℕ) → lowest (log_refusals p.k w) ≡ none
    → view_refusal p visible w n m ≡ lowest ((profile_refusals p ++ ((bit_from p.k visible, ViewBit) ∷ [])) ++ buffer_refusals p (seen visible w) n m)
by_seen p visible w n m e = lowest_skip (profile_refusals p ++ ((bit_from p.k visible, ViewBit) ∷ [])) (log_refusals p.k w) (buffer_refusals p (seen visible w) n m) e

-- "Two logs that pass 7 and 8 and have the same visible part, judged with the same profile and mask and lent the same buffers, give the teacher equal
-- verdicts, orders, counts and refusals": the answers are equal, and so are both buffers afterwards, the table after 10 included
module _ (p : Profile) (visible : ℕ) (v w order table : List ℕ) (first : lowest (log_refusals p.k v) ≡ none) (second : lowest (log_refusals p.k w) ≡ none)
    (same : seen visible v ≡ seen visible w) where
  refusals_same : view_refusal p visible v (length order) (length table) ≡ view_refusal p visible w (length order) (length table)
  refusals_same = by_seen p visible v (length order) (length table) first
      ∙ ap (λ u. lowest ((profile_refusals p ++ ((bit_from p.k visible, ViewBit) ∷ [])) ++ buffer_refusals p u (length order) (length table))) same
      ∙ sym (by_seen p visible w (length order) (length table) second)

  pub secret : (i j : Result Judged Refusal) (order₁ order₂ table₁ table₂ : List ℕ) → Viewed p visible v order order₁ table table₁ i → Viewed p visible w order order₂ table table₂ j
      → (i ≡ j) × (order₁ ≡ order₂) × (table₁ ≡ table₂)
  secret i j order₁ order₂ table₁ table₂ g h = (
    g.told
        ∙ ap₂ (λ o u. told_as o (accepted_order (independent p.masks) (λ a. a) (view p visible) u) (prefix_count (independent p.masks) (λ a. a) p.k u) (looks (independent p.masks) (λ a. a) p.k u))
        refusals_same same ∙ sym h.told,
    g.order_is ∙ ap₂ (λ o u. order_as o (accepted_order (independent p.masks) (λ a. a) (view p visible) u) order) refusals_same same ∙ sym h.order_is,
    g.table_is ∙ ap₂ (λ o u. table_as o (table_of layout (independent p.masks) (λ a. a) (view p visible) p.k u table) table) refusals_same same ∙ sym h.table_is,
  )

-- ---- demand 1

-- the two verdicts are different
zero_one : ◌≡◌ {A = Option ℕ} (some 0) (some 1) → ⊥
zero_one e = let q = some-injective 0 1 e in omega arith

module _ (p : Profile) (visible : ℕ) (w order order' table table' : List ℕ) (j : Result Judged Refusal) (call : Viewed p visible w order order' table table' j) where
  refusal_told : refused_by j ≡ view_refusal p visible w (length order) (length table)
  refusal_told = ap refused_by call.told ∙ refused_told (view_refusal p visible w (length order) (length table)) (view_order p visible w)
      (view_prefixes p visible w) (view_looks p visible w)

  -- a call is refused by r exactly when r is the lowest that applies
  pub refused_exactly : (r : Refusal) → (j ≡ Err r) ↔ (view_refusal p visible w (length order) (length table) ≡ some r)
  refused_exactly r = (
    λ e. sym refusal_told ∙ ap refused_by e,
    λ e. call.told ∙ ap (λ o. told_as o (view_order p visible w) (view_prefixes p visible w) (view_looks p visible w)) e,
  )

  -- "Refusals leave every buffer unchanged; only after 10 is the work table's content free": then its usable part is 0
  pub refused_unchanged : (r : Refusal) → j ≡ Err r → (order' ≡ order) × (table' ≡ cond (eqb (refusal_number r) 10) (cleared table) table)
  refused_unchanged r e =
      let q = (refused_exactly r).0 e in (
        call.order_is ∙ ap (λ o. order_as o (view_order p visible w) order) q,
        call.table_is ∙ ap (λ o. table_as o (table_of layout (independent p.masks) (λ a. a) (view p visible) p.k (seen visible w) table) table) q,
      )

  -- ---- demand 3, "read of visible parts and the verdict below"

  module _ (unrefused : view_refusal p visible w (length order) (length table) ≡ none) where
    entry : lowest (entry_refusals p visible w) ≡ none
    entry = go (lowest (entry_refusals p visible w)) refl
      where
        go : (o : Option Refusal) → lowest (entry_refusals p visible w) ≡ o → lowest (entry_refusals p visible w) ≡ none
        go none e = e
        go (some r) e = absurd (some-ne-none r (sym (lowest_first (entry_refusals p visible w) (buffer_refusals p (seen visible w) (length order) (length table)) e) ∙ unrefused))

    pub call_good : GoodProfile p
    call_good = profile_at p (entry_profile p visible w entry)

    pub call_letters : T (letters_below (λ a. a) p.k w)
    call_letters = (log_at p.k w (entry_log p visible w entry)).letters

    pub call_told : j ≡ told_as none (view_order p visible w) (view_prefixes p visible w) (view_looks p visible w)
    call_told = call.told ∙ ap (λ o. told_as o (view_order p visible w) (view_prefixes p visible w) (view_looks p visible w)) unrefused

    told_with : (o : Option (List ℕ)) → view_order p visible w ≡ o → j ≡ told_as none o (view_prefixes p visible w) (view_looks p visible w)
    told_with o e = call_told ∙ ap (λ x. told_as none x (view_prefixes p visible w) (view_looks p visible w)) e

    call_order : order' ≡ order_as none (view_order p visible w) order
    call_order = call.order_is ∙ ap (λ o. order_as o (view_order p visible w) order) unrefused

    -- there is a verdict, 0 or 1
    pub verdict_cases : (verdict_number j ≡ some 0) ⊎ (verdict_number j ≡ some 1)
    verdict_cases = go (view_order p visible w) refl
      where
        go : (o : Option (List ℕ)) → view_order p visible w ≡ o → (verdict_number j ≡ some 0) ⊎ (verdict_number j ≡ some 1)
        go none e = inl (ap verdict_number (told_with none e))
        go (some v) e = inr (ap verdict_number (told_with (some v) e))

    -- the order of a call that tells verdict 1
    pub order_of_one : verdict_number j ≡ some 1 → (v : List ℕ) × (view_order p visible w ≡ some v)
    order_of_one h = go (view_order p visible w) refl
      where
        go : (o : Option (List ℕ)) → view_order p visible w ≡ o → (v : List ℕ) × (view_order p visible w ≡ some v)
        go none e = absurd (zero_one (sym (ap verdict_number (told_with none e)) ∙ h))
        go (some v) e = (v, e)

    -- "Verdict 1 means that some list of letters, of any length, that leads the profile from its start to a final state has a visible part reachable from
    -- that part": verdict 0 exactly when none does
    pub no_order_exactly : (verdict_number j ≡ some 0) ↔ ((u : List ℕ) → Shown p visible w u → ⊥)
    no_order_exactly = go (view_order p visible w) refl
      where
        go : (o : Option (List ℕ)) → view_order p visible w ≡ o → (verdict_number j ≡ some 0) ↔ ((u : List ℕ) → Shown p visible w u → ⊥)
        go none e = ((λ q. (view_none p call_good visible w call_letters).0 e), λ f. ap verdict_number (told_with none e))
        go (some v) e = (
          (λ q. absurd (zero_one (sym q ∙ ap verdict_number (told_with (some v) e)))),
          λ f. absurd (f v (view_earliest p call_good visible w call_letters e).0),
        )

    -- the bytes of the order, as many as the visible part has
    pub order_bytes : {v : List ℕ} → view_order p visible w ≡ some v
        → (take (length (seen visible w)) order' ≡ v) × (drop (length (seen visible w)) order' ≡ drop (length (seen visible w)) order)
    order_bytes {v} e =
        let x = view_earliest p call_good visible w call_letters e in
        let l : length v ≡ length (seen visible w) = omega (arith, takes_length (independent p.masks) (order_of_reach (independent p.masks) x.0.reached)) in
        let f = call_order ∙ ap (λ o. order_as none o order) e in (
          ap (take (length (seen visible w))) f ∙ take_at v (drop (length v) order) (length (seen visible w)) l,
          ap (drop (length (seen visible w))) f ∙ drop_at v (drop (length v) order) (length (seen visible w)) l ∙ ap (λ n. drop n order) l,
        )

    -- verdict 1: "The order is the earliest such visible part"; the other bytes stay
    pub order_exactly : verdict_number j ≡ some 1
        → Shown p visible w (take (length (seen visible w)) order')
        × ((u : List ℕ) → Shown p visible w u → u ≢ take (length (seen visible w)) order' → Earlier (take (length (seen visible w)) order') u)
        × (drop (length (seen visible w)) order' ≡ drop (length (seen visible w)) order)
    order_exactly h =
        let o = order_of_one h in
        let x = view_earliest p call_good visible w call_letters o.1 in
        let q = order_bytes o.1 in (
          subst (Shown p visible w) (sym q.0) x.0,
          (λ u a ne. subst (λ z. Earlier z u) (sym q.0) (x.1 u a (λ i. ne (i ∙ sym q.0)))),
          q.1,
        )

    -- the table is that of the visible part, by the automaton with hidden letters anywhere
    pub call_table : table' ≡ table_of layout (independent p.masks) (λ a. a) (view p visible) p.k (seen visible w) table
    call_table = call.table_is ∙ ap (λ o. table_as o (table_of layout (independent p.masks) (λ a. a) (view p visible) p.k (seen visible w) table) table) unrefused

-- "demand 3 is read of visible parts …, with one mask for both logs": logs whose visible parts are reachable from each other get the same verdict, the same
-- order if there is one, the same P and the same looks, whatever buffers each was lent; and "leave equal count fields, record by record" (Paper 5)
module _ (p : Profile) (visible : ℕ) (v w order₁ order₁' table₁ table₁' order₂ order₂' table₂ table₂' : List ℕ) (i j : Result Judged Refusal)
    (g : Viewed p visible v order₁ order₁' table₁ table₁' i) (h : Viewed p visible w order₂ order₂' table₂ table₂' j)
    (first : view_refusal p visible v (length order₁) (length table₁) ≡ none) (second : view_refusal p visible w (length order₂) (length table₂) ≡ none)
    (same : Same (independent p.masks) (seen visible v) (seen visible w)) where
  low : (u o t o' t' : List ℕ) (k : Result Judged Refusal) → Viewed p visible u o o' t t' k → view_refusal p visible u (length o) (length t) ≡ none → T (letters_below (λ a. a) p.k (seen visible u))
  low u o t o' t' k c e = filter_keeps (λ a. ltb a p.k) (bit visible) u (call_letters p visible u o o' t t' k c e)

  own : (a b : ℕ) → T (independent p.masks a b) → a ≢ b
  own = distinct p.masks (call_good p visible v order₁ order₁' table₁ table₁' i g first).relation.own

  orders_same : view_order p visible v ≡ view_order p visible w
  orders_same = accepted_order_same (λ a. a) (view p visible) (independent p.masks) same.0 same.1

  -- verdict, P and looks
  pub viewed_same : i ≡ j
  viewed_same =
      let a = low v order₁ table₁ order₁' table₁' i g first in
      let b = low w order₂ table₂ order₂' table₂' j h second in
      call_told p visible v order₁ order₁' table₁ table₁' i g first
      ∙ ap (λ o. told_as none o (view_prefixes p visible v) (view_looks p visible v)) orders_same
      ∙ ap₂ (λ P n. told_as none (view_order p visible w) P n) (prefix_count_same (λ a. a) (view p visible) (independent p.masks) same.0 same.1 own p.k a b) (looks_same (λ a. a) (view p visible) (independent p.masks) same.0 same.1 own p.k a b)
      ∙ sym (call_told p visible w order₂ order₂' table₂ table₂' j h second)

  -- the order
  pub viewed_order_same : verdict_number i ≡ some 1 → take (length (seen visible v)) order₁' ≡ take (length (seen visible w)) order₂'
  viewed_order_same e =
      let o = order_of_one p visible v order₁ order₁' table₁ table₁' i g first e in
      (order_bytes p visible v order₁ order₁' table₁ table₁' i g first o.1).0
      ∙ sym (order_bytes p visible w order₂ order₂' table₂ table₂' j h second (sym orders_same ∙ o.1)).0

  -- the count fields
  pub viewed_fields_same : (r n : ℕ) → r < view_prefixes p visible v → n < layout.numbers → get_or table₁' (record_length layout * r + n) 0 ≡ get_or table₂' (record_length layout * r + n) 0
  viewed_fields_same r n hr hn =
      let a = low v order₁ table₁ order₁' table₁' i g first in
      let b = low w order₂ table₂ order₂' table₂' j h second in
      let q = prefix_count_same (λ a. a) (view p visible) (independent p.masks) same.0 same.1 own p.k a b in
      let x : Holds layout (independent p.masks) (λ a. a) (view p visible) p.k (seen visible v) table₁ table₁' = record { letters = a; written = call_table p visible v order₁ order₁' table₁ table₁' i g first } in
      let y : Holds layout (independent p.masks) (λ a. a) (view p visible) p.k (seen visible w) table₂ table₂' = record { letters = b; written = call_table p visible w order₂ order₂' table₂ table₂' j h second } in
      holds_counts x r n hr hn
      ∙ ap (λ l. get_or (packed layout (get_or l r [])) n 0) (by_total_same (λ a. a) (view p visible) (independent p.masks) same.0 same.1 own p.k a b)
      ∙ sym (holds_counts y r n (omega (arith, q)) hn)
