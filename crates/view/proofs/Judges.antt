-- The two ends: with all letters visible a view is the judge, what it promises is what the judge promises; with none it tells whether a final state can be
-- reached at all.
use mathlib.Core.Path.{◌≡◌, refl, sym, ◌∙◌, ap, subst}
use mathlib.Core.Bool.{Bool, true, false, cond, true≢false}
use mathlib.Core.Logic.{◌↔◌, ◌≢◌}
use mathlib.Core.List.{List, [], ◌∷◌, ◌++◌}
use mathlib.Core.Option.{Option, none, some, none-ne-some, some-injective}
use Prim.Native.Nat.{ℕ, ◌<◌}
use lib.Dec.{T, eqb}
use lib.ListN.{length, drop}
use Rattle.profile.specs.Traces.{bit, independent, letters_below}
use Rattle.profile.specs.Automata.{Accepted, Profile, automaton}
use Rattle.profile.specs.Orders.{accepted_order}
use Rattle.profile.specs.Prefixes.{looks, prefix_count}
use Rattle.profile.specs.Tables.{layout, table_of}
use Rattle.profile.specs.Refusals.{bit_from, full_table, judge_refusal, log_refusals, lowest, profile_refusals, refusal_number, short_buffer}
use Rattle.profile.specs.declared.Refusal.{Refusal}
use Rattle.profile.specs.declared.Refusal.TheVariants.{FullTable, ShortBuffer, ViewBit}
use Rattle.theory.proofs.Refusals.{GoodProfile, log_at, lowest_first}
use Rattle.table.specs.Table.{Spared}
use Rattle.verdict.specs.Verdict.{Promise, verdict_number}
use Rattle.verdict.specs.declared.Judged.{Judged}
use Rattle.std.specs.Prelude.{Result}
use Rattle.verdict.proofs.Promises.{told_prefixes}
use Rattle.verdict.proofs.Judging.{order_length}
use Rattle.views.specs.Views.{buffer_refusals, entry_refusals, seen, view, view_looks, view_order, view_prefixes, view_refusal}
use Rattle.views.proofs.Masks.{all_order, all_table, none_prefixes, none_verdict, seen_whole}
use Rattle.views.proofs.Refused.{view_buffers}
use Rattle.views.proofs.Said.{view_earliest}
use Rattle.cleared.specs.Cleared.{cleared, order_as, table_as, told_as}
use Rattle.cleared.proofs.Cleared.{cleared_spared}
use Rattle.view.specs.Viewing.{Viewed}
use Rattle.seeing.proofs.Told.{prefixes_told}
use Rattle.view.proofs.Viewed.{entry_not_ten}
use Rattle.view.proofs.Demands.{call_good, call_letters, call_told, lowest_skip, order_of_one}

-- the lowest of two lists, by the lowest of the second
lowest_tail : {A : Type 0} (x y z : List (Bool × A)) → lowest y ≡ lowest z → lowest (x ++ y) ≡ lowest (x ++ z)
lowest_tail [] y z e = e
lowest_tail (c ∷ x) y z e = go c.0 refl (lowest_tail x y z e)
  where
    go : (b : Bool) → c.0 ≡ b → lowest (x ++ y) ≡ lowest (x ++ z) → lowest (c ∷ (x ++ y)) ≡ lowest (c ∷ (x ++ z))
    go true q ih = rw (q, lowest) refl
    go false q ih = rw (q, lowest) ih

-- no other refusal of a view has the number 10
ten_full : (p : Profile) (visible : ℕ) (w : List ℕ) (n m : ℕ) {r : Refusal} → view_refusal p visible w n m ≡ some r → eqb (refusal_number r) 10 ≡ true → r ≡ FullTable
ten_full p visible w n m {r} e h = go (lowest (entry_refusals p visible w)) refl
  where
    last : (b c : Bool) → lowest ((b, ShortBuffer) ∷ (c, FullTable) ∷ []) ≡ some r → r ≡ FullTable
    last true c q = absurd (true≢false (sym h ∙ ap (λ x. eqb (refusal_number x) 10) (sym (some-injective ShortBuffer r q))))
    last false true q = sym (some-injective FullTable r q)
    last false false q = absurd (none-ne-some r q)

    go : (o : Option Refusal) → lowest (entry_refusals p visible w) ≡ o → r ≡ FullTable
    go (some x) q = absurd (true≢false (sym h ∙ entry_not_ten p visible w (q ∙ sym (lowest_first (entry_refusals p visible w) (buffer_refusals p (seen visible w) n m) q) ∙ e)))
    go none q = last (short_buffer n (seen visible w)) (full_table (view_prefixes p visible w) m) (sym (view_buffers p visible w q n m) ∙ e)

module _ (p : Profile) (visible : ℕ) (whole : (x : ℕ) → x < p.k → T (bit visible x)) (few : bit_from p.k visible ≡ false) (w : List ℕ) where
  -- the refusals are those of the judge
  pub all_refusal : (n m : ℕ) → view_refusal p visible w n m ≡ judge_refusal p w n m
  all_refusal n m =
      lowest_skip (profile_refusals p) ((bit_from p.k visible, ViewBit) ∷ []) (log_refusals p.k w ++ buffer_refusals p (seen visible w) n m) (ap (λ b. lowest ((b, ViewBit) ∷ [])) few)
      ∙ lowest_tail (profile_refusals p) (log_refusals p.k w ++ buffer_refusals p (seen visible w) n m) (log_refusals p.k w ++ buffer_refusals p w n m) (go (lowest (log_refusals p.k w)) refl)
    where
      go : (o : Option Refusal) → lowest (log_refusals p.k w) ≡ o → lowest (log_refusals p.k w ++ buffer_refusals p (seen visible w) n m) ≡ lowest (log_refusals p.k w ++ buffer_refusals p w n m)
      go none e = ap (λ u. lowest (log_refusals p.k w ++ buffer_refusals p u n m)) (seen_whole p.k visible whole w (log_at p.k w e).letters)
      go (some r) e = lowest_first (log_refusals p.k w) (buffer_refusals p (seen visible w) n m) e ∙ sym (lowest_first (log_refusals p.k w) (buffer_refusals p w n m) e)

  module _ (order order' table table' : List ℕ) (j : Result Judged Refusal) (call : Viewed p visible w order order' table table' j) where
    abbrev may : ℕ → ℕ → Bool
    may = independent p.masks

    abbrev P : List ℕ → ℕ
    P u = prefix_count may (λ a. a) p.k u

    abbrev L : List ℕ → ℕ
    L u = looks may (λ a. a) p.k u

    abbrev F : List ℕ → List ℕ
    F u = table_of layout may (λ a. a) (view p visible) p.k u table

    all_refused : (r : Refusal) → view_refusal p visible w (length order) (length table) ≡ some r → Promise p w order order' table table' j
    all_refused r e = subst (Promise p w order order' table table') (sym (call.told ∙ ap (λ o. told_as o (view_order p visible w) (P (seen visible w)) (L (seen visible w))) e)) (record {
      refused = sym e ∙ all_refusal (length order) (length table);
      told = (call.order_is ∙ ap (λ o. order_as o (view_order p visible w) order) e, λ ne. kept ne (eqb (refusal_number r) 10) refl, subst (Spared table) (sym left) (spared (eqb (refusal_number r) 10)));
    })
      where
        left : table' ≡ cond (eqb (refusal_number r) 10) (cleared table) table
        left = call.table_is ∙ ap (λ o. table_as o (F (seen visible w)) table) e

        spared : (b : Bool) → Spared table (cond b (cleared table) table)
        spared true = cleared_spared table
        spared false = record { long = refl; rest = refl }

        kept : r ≢ FullTable → (b : Bool) → eqb (refusal_number r) 10 ≡ b → table' ≡ table
        kept ne true q = absurd (ne (ten_full p visible w (length order) (length table) e q))
        kept ne false q = left ∙ ap (λ b. cond b (cleared table) table) q

    all_answered : view_refusal p visible w (length order) (length table) ≡ none → Promise p w order order' table table' j
    all_answered e = go (accepted_order may (λ a. a) (automaton p) w) refl
      where
        good : GoodProfile p
        good = call_good p visible w order order' table table' j call e

        letters : T (letters_below (λ a. a) p.k w)
        letters = call_letters p visible w order order' table table' j call e

        same : seen visible w ≡ w
        same = seen_whole p.k visible whole w letters

        answer : (o : Option (List ℕ)) → accepted_order may (λ a. a) (automaton p) w ≡ o → j ≡ told_as none o (P w) (L w)
        answer o q = call.told ∙ ap (λ x. told_as x (view_order p visible w) (P (seen visible w)) (L (seen visible w))) e
            ∙ ap (λ u. told_as none (view_order p visible w) (P u) (L u)) same ∙ ap (λ x. told_as none x (P w) (L w)) (all_order p good visible whole w letters ∙ q)

        order-eq : (o : Option (List ℕ)) → accepted_order may (λ a. a) (automaton p) w ≡ o → order' ≡ order_as none o order
        order-eq o q = call.order_is ∙ ap (λ x. order_as x (view_order p visible w) order) e ∙ ap (λ x. order_as none x order) (all_order p good visible whole w letters ∙ q)

        table_eq : table' ≡ table_of layout may (λ a. a) (automaton p) p.k w table
        table_eq = call.table_is ∙ ap (λ x. table_as x (F (seen visible w)) table) e ∙ ap F same ∙ all_table p good visible whole w letters table

        go : (o : Option (List ℕ)) → accepted_order may (λ a. a) (automaton p) w ≡ o → Promise p w order order' table table' j
        go none q = subst (Promise p w order order' table table') (sym (answer none q)) (record {
          refused = sym e ∙ all_refusal (length order) (length table);
          told = (q, order-eq none q, record { prefixes = refl; looks = refl; table = table_eq });
        })
        go (some v) q = subst (Promise p w order order' table table') (sym (answer (some v) q)) (record {
          refused = sym e ∙ all_refusal (length order) (length table);
          told = (v, q, order-eq (some v) q ∙ ap (λ n. v ++ drop n order) (order_length p w q), record { prefixes = refl; looks = refl; table = table_eq });
        })

    -- the answer, the order and the table are those of the judge
    pub all_judge : Promise p w order order' table table' j
    all_judge = go (view_refusal p visible w (length order) (length table)) refl
      where
        go : (o : Option Refusal) → view_refusal p visible w (length order) (length table) ≡ o → Promise p w order order' table table' j
        go none e = all_answered e
        go (some r) e = all_refused r e

-- no letter is visible: P is 1, and verdict 1 exactly when some list of letters leads from the start to a final state
module _ (p : Profile) (w order order' table table' : List ℕ) (j : Result Judged Refusal) (call : Viewed p 0 w order order' table table' j)
    (unrefused : view_refusal p 0 w (length order) (length table) ≡ none) where
  pub none_told : told_prefixes j ≡ some 1
  none_told = ap told_prefixes (call_told p 0 w order order' table table' j call unrefused) ∙ prefixes_told (view_order p 0 w) (view_prefixes p 0 w) (view_looks p 0 w) ∙ ap some (none_prefixes p w)

  pub none_judged : (verdict_number j ≡ some 1) ↔ ((l : List ℕ) × T (letters_below (λ a. a) p.k l) × Accepted (automaton p) (λ a. a) l)
  none_judged = (
    λ h.
        let o = order_of_one p 0 w order order' table table' j call unrefused h in
        let b = (view_earliest p good 0 w letters o.1).0.behind in
        (b.list, b.letters, b.accepted),
    λ l. ap verdict_number (call_told p 0 w order order' table table' j call unrefused ∙ ap (λ o. told_as none o (view_prefixes p 0 w) (view_looks p 0 w)) ((none_verdict p good w letters).1 l)),
  )
    where
      good : GoodProfile p
      good = call_good p 0 w order order' table table' j call unrefused

      letters : T (letters_below (λ a. a) p.k w)
      letters = call_letters p 0 w order order' table table' j call unrefused
